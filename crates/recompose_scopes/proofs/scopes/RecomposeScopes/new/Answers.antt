use Rattle.std.proofs.Common.{[], arith}
use Rattle.recompose_scopes.proofs.AddedScopes.{no_scopes, all_scopes}
use Rattle.recompose_scopes.proofs.scopes.RecomposeScopes.new.Goals as goal

pub returns : goal.returns
returns c = all_scopes 0 [] c.empty.result (omega arith) (no_scopes [] c.empty.result c.empty.ensures)
