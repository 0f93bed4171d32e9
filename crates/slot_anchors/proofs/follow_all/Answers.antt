use Rattle.std.proofs.Common.{Option, None, ℕ}
use Rattle.slot_anchors.specs.Anchors.{index_after_edit}
use Rattle.slot_anchors.proofs.Edits.{one_more}
use Rattle.slot_anchors.proofs.follow_all.Goals as goal

pub loop-at-preserved : goal.loop-at-preserved
loop-at-preserved c =
    one_more (λ (p : Option ℕ). index_after_edit c.args.olds.now p) c.args.indexes.now c.loop-at.indexes c.loop-at.at
    None c.follow.result
    c.loop-at-test.true c.loop-at.invariant c.follow.ensures
