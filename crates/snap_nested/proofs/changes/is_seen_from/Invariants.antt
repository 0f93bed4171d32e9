use Rattle.std.proofs.Common.{◌≡◌, ◌≤◌, ℕ, drop, length}
use Rattle.std.specs.List.{list_any}
use Rattle.snap_nested.specs.Members.{member, sees}
use Rattle.snap_nested.proofs.changes.is_seen_from.Given as goal

abbrev pub invariant-loop-index : goal.invariant-loop-index
invariant-loop-index l = record {
  within : l.index ≤ length l.names;
  none : list_any (λ (n : ℕ). sees l.id (member l.members n)) (drop l.index l.names)
      ≡ list_any (λ (n : ℕ). sees l.id (member l.members n)) (drop l.from l.names);
}
