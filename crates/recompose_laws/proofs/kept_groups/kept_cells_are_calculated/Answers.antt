use Rattle.recompose_laws.proofs.CalculatedCells.{kept_cells_are_calculated}
use Rattle.recompose_laws.proofs.kept_groups.kept_cells_are_calculated.Goals as goal

pub returns : goal.returns
returns c = kept_cells_are_calculated
