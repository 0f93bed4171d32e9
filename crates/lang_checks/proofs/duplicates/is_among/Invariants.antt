use Rattle.std.proofs.Common.{◌≡◌, map, length}
use Rattle.lang_checks.specs.Scopes.{is_listed}
use Rattle.lang_checks.proofs.duplicates.is_among.Given as goal

abbrev pub invariant-loop-part : goal.invariant-loop-part
invariant-loop-part g l =
    is_listed l.name (map g.T.HasName.title l.rest) ≡ is_listed l.name (map g.T.HasName.title l.parts)

abbrev pub decreases-loop-part : goal.decreases-loop-part
decreases-loop-part g l = length l.rest
