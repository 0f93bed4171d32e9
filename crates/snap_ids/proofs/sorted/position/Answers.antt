use Rattle.std.proofs.Common.{arith}
use Rattle.rt_values.specs.Maps.{contains}
use Rattle.snap_ids.proofs.Booleans.{not_true}
use Rattle.snap_ids.proofs.IdLists.{found_at, is_past}
use Rattle.snap_ids.proofs.sorted.position.Goals as goal
use Rattle.snap_ids.proofs.sorted.position.Goals.{else-at-ids-via-then-at-ids+else-ids-at, else-at-ids-via-else-at-ids}

pub returns-else-at-ids-clause-none : goal.returns-else-at-ids-clause-none
returns-else-at-ids-clause-none c =
    let id = c.args.id in
    let xs = c.args.ids.now in
    let at = c.lower_bound-at.result in
    elim c.else-at-ids.branch [
      | else-at-ids-via-then-at-ids+else-ids-at w ↦ not_true (contains id xs) (λ h. w.if-ids-at.false
          (found_at id xs at c.requires.rising c.lower_bound-at.ensures.before c.lower_bound-at.ensures.after h).1)
      | else-at-ids-via-else-at-ids w ↦ is_past id xs at c.requires.rising c.lower_bound-at.ensures.before
          (omega (arith, w.if-at-ids.false))
    ]
