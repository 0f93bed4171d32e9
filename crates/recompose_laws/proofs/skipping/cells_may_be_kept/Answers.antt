use Rattle.recompose_laws.proofs.Calculations.{cells_may_be_kept}
use Rattle.recompose_laws.proofs.skipping.cells_may_be_kept.Goals as goal

pub returns : goal.returns
returns c = cells_may_be_kept
