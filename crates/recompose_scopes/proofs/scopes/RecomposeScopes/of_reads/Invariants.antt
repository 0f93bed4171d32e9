use Rattle.std.proofs.Common.{◌≡◌, length, drop}
use Rattle.recompose_scopes.proofs.AddedScopes.{AreScopesUpTo}
use Rattle.recompose_scopes.proofs.scopes.RecomposeScopes.of_reads.Given as goal

abbrev pub invariant-loop-own : goal.invariant-loop-own
invariant-loop-own l = record {
  left : drop l.group l.initial.reads ≡ l.reads;
  scopes : AreScopesUpTo l.group l.initial.reads l.scopes;
}

abbrev pub decreases-loop-own : goal.decreases-loop-own
decreases-loop-own l = length l.reads
