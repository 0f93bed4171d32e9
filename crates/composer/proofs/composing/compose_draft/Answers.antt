use Rattle.std.proofs.Common.{◌∙◌, ℕ, List, [], ap, subst}
use Rattle.composer.specs.FrameDrafts.{root_of}
use Rattle.lang_ast.specs.Programs.{functions_of}
use Rattle.rt_groups.specs.declared.groups.Group.{Group}
use Rattle.rt_groups.specs.PreorderGroups.{preorder}
use Rattle.composer.specs.WrittenGroups.{WrittenGroups, Drafts}
use Rattle.composer.proofs.WholeFrames.{frame_drafted, drafted_olds}
use Rattle.composer.proofs.composing.compose_draft.Goals as goal

-- A writer before the first group.
abbrev written_at : List Group → ℕ → WrittenGroups
written_at olds n = record { olds = olds; groups = []; next = n; ran = 0; calculated = 0; reads = 0 }

pub returns-clause-olds : goal.returns-clause-olds
returns-clause-olds g c =
    let writes = c.write_frame-written in
    drafted_olds c.args.last.now.groups writes.new.made.writer writes.result c.draft_of.result writes.ensures.fits
    (subst (λ (w : WrittenGroups). Drafts w writes.result c.draft_of.result) c.into_writer.ensures c.draft_of.ensures)

pub returns-clause-frame : goal.returns-clause-frame
returns-clause-frame g c k m h table next owing =
    let writes = c.write_frame-written in
    let first = c.new-made.ensures.writer ∙ ap (λ gs. written_at gs c.args.held.now.next) table
    ∙ ap (written_at (preorder 0 k.trail)) next in
    frame_drafted (functions_of c.args.program.now) (root_of c.args.program.now) c.args.last.now.owed k m
    (g.V.View.asked c.args.view.now) (g.V.View.asked writes.new.view) writes.new.made.writer c.args.last.now.groups
    c.new-made.result.writer writes.result c.draft_of.result first (writes.ensures.ran m h k.seen k.trail [] table owing)
    (writes.ensures.counted m h) writes.ensures.fits
    (subst (λ (w : WrittenGroups). Drafts w writes.result c.draft_of.result) c.into_writer.ensures c.draft_of.ensures)
