use Rattle.std.proofs.Common.{ℕ, List, subst}
use Rattle.std.specs.Prelude.{IfOk}
use Rattle.rt_values.specs.Maps.{contains}
use Rattle.snap_world.specs.Sorted.{AreOwnIn}
use Rattle.snap_world.proofs.searched_ids.own_ids.Goals as goal

pub returns : goal.returns
returns c = subst (λ (l : List ℕ). IfOk c.common_ids.result (λ ids. AreOwnIn (λ i. contains i l) c.args.order.now ids))
    c.ids-2.ensures c.common_ids.ensures
