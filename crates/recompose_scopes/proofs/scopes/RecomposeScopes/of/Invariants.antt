use Rattle.recompose_scopes.specs.Scopes.{own_reads}
use Rattle.recompose_scopes.proofs.AddedScopes.{AreScopesUpTo}
use Rattle.recompose_scopes.proofs.scopes.RecomposeScopes.of.Given as goal

abbrev pub invariant-loop-group : goal.invariant-loop-group
invariant-loop-group l = AreScopesUpTo l.group (own_reads l.table.groups) l.scopes
