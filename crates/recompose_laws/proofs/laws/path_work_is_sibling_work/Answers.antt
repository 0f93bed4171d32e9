use Rattle.recompose_laws.proofs.Beside.{path_work_is_sibling_work}
use Rattle.recompose_laws.proofs.laws.path_work_is_sibling_work.Goals as goal

pub returns : goal.returns
returns c = path_work_is_sibling_work
