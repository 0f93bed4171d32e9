use Rattle.std.proofs.Common.{◌≡◌, ℕ, ◌<◌, true}
use Rattle.std.specs.Prelude.{slice_index_or}
use Rattle.rt_values.specs.Maps.{contains}
use Rattle.snap_nested.specs.Members.{member}
use Rattle.snap_nested.proofs.unused.add_all_ends.Given as goal

abbrev pub invariant-loop-name : goal.invariant-loop-name
invariant-loop-name l = record {
  more : (i : ℕ) → contains i l.initial.used ≡ true → contains i l.used ≡ true;
  first : (j : ℕ) → j < l.name-index → (i : ℕ)
      → contains i (member l.members (slice_index_or l.name-items j 0)).ids ≡ true
      → contains (member l.members (slice_index_or l.name-items j 0)).first l.used ≡ true;
  current : (j : ℕ) → j < l.name-index → (member l.members (slice_index_or l.name-items j 0)).is_live ≡ true
      → contains (member l.members (slice_index_or l.name-items j 0)).id l.used ≡ true;
}
