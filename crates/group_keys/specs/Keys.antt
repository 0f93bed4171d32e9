-- Internal: what a hasher gets of a sibling's key. No public clause cites this module.
use Rattle.std.specs.Prelude.{◌≡◌, true, ℕ, List, [], ◌++◌, Option, Some, None}
use Rattle.std.proofs.Common.{ap}
use Rattle.std.specs.Hash as fed
use Rattle.rt_values.specs.declared.value.Value.{Value}
use Rattle.rt_values.specs.declared.value.Value.TheVariants as value
use Rattle.rt_groups.specs.Paths.{GroupKey, same_sibling}
use Rattle.path_laws.specs.SiblingEquality.{same_is}

abbrev pub hashed_value : Value → List (List ℕ)
hashed_value (value.Int z) = fed.i64 z
hashed_value (value.Bool b) = fed.bool b
hashed_value (value.Text t) = fed.str t
hashed_value (value.Ints l) = fed.slice fed.i64 l

abbrev pub hashed_key : Option Value → List (List ℕ)
hashed_key None = []
hashed_key (Some v) = hashed_value v

abbrev pub hashed_sibling : GroupKey → List (List ℕ)
hashed_sibling s = fed.u32 s.site ++ hashed_key s.key

pub equal_hashes : (s t : GroupKey) → same_sibling s t ≡ true → hashed_sibling s ≡ hashed_sibling t
equal_hashes s t e = ap hashed_sibling (same_is s t e)
