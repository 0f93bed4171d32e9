use Rattle.std.proofs.Common.{ap, ◌∙◌, length}
use Rattle.std.proofs.lemmas.List.{length-map}
use Rattle.slot_anchors.specs.Anchors.{index_after_edit}
use Rattle.slot_edit.proofs.AnchorPaths.{anchors_are}
use Rattle.slot_edit.proofs.apply.Goals as goal

pub returns-clause-anchors : goal.returns-clause-anchors
returns-clause-anchors c = λ t u is at.
    c.follow.ensures.indexes
    ∙ anchors_are t u c.args.anchors.now.indexes c.deref.result.now
    (c.deref.ensures.value ∙ ap (λ p. p.olds) c.patch.view_is ∙ is.olds)

pub returns-clause-count : goal.returns-clause-count
returns-clause-count c =
    ap (λ l. length l) c.follow.ensures.indexes
    ∙ length-map c.args.anchors.now.indexes (λ a. index_after_edit c.deref.result.now a)
