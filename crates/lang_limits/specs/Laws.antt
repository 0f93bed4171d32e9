-- Law: what the least offset is, and which forests clamping leaves as they are.
use Rattle.std.specs.Prelude.{◌≡◌, nat_lt, ℕ, List, [], All, Contains, false, Some, None}
use Rattle.sexp_text.specs.Forest.{Forest}
use Rattle.lang_limits.specs.LeastOffset.{least}
use Rattle.lang_limits.specs.Tokens.{oversized_offsets, program_trees, script_trees}
use Rattle.lang_limits.specs.Clamped.{clamped_trees}

-- The least offset is one of the offsets, and no offset is before it.
abbrev pub LeastIsLeast : Type 0
LeastIsLeast = (offsets : List ℕ) (at : ℕ) → least offsets ≡ Some at →
    Contains offsets at × All (λ other. nat_lt other at ≡ false) offsets

-- If there is no least offset, there are no offsets.
abbrev pub NoLeastNoOffset : Type 0
NoLeastNoOffset = (offsets : List ℕ) → least offsets ≡ None → offsets ≡ []

-- A forest without oversized tokens, in the program and in the script, stays as it is.
abbrev pub SmallTreesStay : Type 0
SmallTreesStay = (f : Forest) → oversized_offsets (program_trees f) ≡ [] → oversized_offsets (script_trees f) ≡ [] →
    clamped_trees f ≡ f
