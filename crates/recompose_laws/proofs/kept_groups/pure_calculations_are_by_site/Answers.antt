use Rattle.recompose_laws.proofs.CalculatedCells.{pure_calculations_are_by_site}
use Rattle.recompose_laws.proofs.kept_groups.pure_calculations_are_by_site.Goals as goal

pub returns : goal.returns
returns c = pure_calculations_are_by_site
