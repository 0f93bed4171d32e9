use Rattle.std.proofs.Common.{◌≡◌, ◌∙◌, refl, sym, ap, subst, List, length, Option, Ok}
use Rattle.composer.specs.FrameDrafts.{DraftGroups}
use Rattle.node_tree.specs.declared.ops.Op.{Op}
use Rattle.recomposer.specs.Composed.{IsComposed}
use Rattle.recomposer.specs.FrameEnds.{EndsComposed}
use Rattle.recomposer.proofs.FrameEnds.{ends_without_memory, ends_idle, ends_uncalled}
use Rattle.recomposer.proofs.Frames.{no_calls}
use Rattle.recomposer.proofs.Stops.{may_be_called}
use Rattle.recomposer.proofs.composition.Composition.apply.Goals as goal

pub returns-in_default : goal.returns-in_default
returns-in_default g c =
    let tree = g.A.Applier.tree c.args.applier.now in
    let faults = g.A.Applier.faults c.args.applier.now in
    subst (λ (o : Option DraftGroups). EndsComposed c.args.self.now c.keep_idle.new.self o tree tree faults faults
    (c.args.applier.now ≡ c.args.applier.now) (Ok c.keep_idle.result)) (sym c.in_default.is)
    (ends_idle c.args.self.now c.keep_idle.new.self tree faults _ c.keep_idle.result
    c.keep_idle.ensures.settings c.keep_idle.ensures.good c.keep_idle.ensures.report refl c.keep_idle.ensures.ops)

pub returns-in_default-list_calls : goal.returns-in_default-list_calls
returns-in_default-list_calls g c =
    ends_without_memory _ _ _ _ _ _ _ refl refl (λ k m h made none. refl) (λ none. refl)

pub returns-then-len-eq0 : goal.returns-then-len-eq0
returns-then-len-eq0 g c =
    let tree = g.A.Applier.tree c.args.applier.now in
    let faults = g.A.Applier.faults c.args.applier.now in
    subst (λ (o : Option DraftGroups). EndsComposed c.args.self.now c.keep.new.self o tree tree faults faults
    (c.args.applier.now ≡ c.args.applier.now) (Ok c.keep.result)) (sym c.in-Some.is)
    (ends_uncalled c.args.self.now c.keep.new.self c.in-Some.draft tree faults _ c.keep.result c.in-Ok.ops
    c.keep.ensures.settings c.keep.ensures.good c.keep.ensures.report refl c.keep.ensures.ops
    (no_calls c.in-Ok.ops (sym c.len.ensures ∙ c.if-len-eq0.true)) c.in-Ok.ensures)

pub apply_calls-requires-clause-tree : goal.apply_calls-requires-clause-tree
apply_calls-requires-clause-tree g c =
    may_be_called _ _ _ c.requires.tree (λ k at. (
      at.0,
      at.1,
      subst (λ (o : Option DraftGroups). IsComposed c.args.self.now k at.0 o) c.in-Some.is at.2,
    ))

pub apply_calls-requires-clause-some : goal.apply_calls-requires-clause-some
apply_calls-requires-clause-some g c none =
    c.if-len-eq0.false (c.len.ensures ∙ ap (λ (l : List Op). length l) none)

pub returns : goal.returns
returns g c = subst (λ (o : Option DraftGroups). EndsComposed c.args.self.now c.apply_calls.new.self o
    (g.A.Applier.tree c.args.applier.now) (g.A.Applier.tree c.apply_calls.new.applier)
    (g.A.Applier.faults c.args.applier.now) (g.A.Applier.faults c.apply_calls.new.applier)
    (c.apply_calls.new.applier ≡ c.args.applier.now) c.apply_calls.result) (sym c.in-Some.is) c.apply_calls.ensures
