use Rattle.recompose_laws.proofs.Orders.{work_goes_in_order}
use Rattle.recompose_laws.proofs.laws.work_goes_in_order.Goals as goal

pub returns : goal.returns
returns c = work_goes_in_order
