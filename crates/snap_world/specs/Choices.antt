-- Internal: the objects that an apply settles.
use Rattle.std.specs.Prelude.{◌≡◌, ℕ, ◌<◌, ◌==◌, ◌&&◌, nat_le, Bool, true, false, List, [], ◌∷◌, map, slice_get, Option, Some, None, if◌then◌else◌}
use Rattle.std.specs.List.{list_any}
use Rattle.rt_values.specs.Maps.{contains, with_member}
use Rattle.rt_values.specs.declared.maps.StampedValue.{StampedValue}
use Rattle.snap_api.specs.declared.choice.Choice.{Choice}
use Rattle.snap_api.specs.declared.choice.Choice.TheVariants.{Changed, Kept}
use Rattle.snap_world.specs.declared.settling.Settled.{Settled}

-- The verdict on a settled object.
abbrev pub choice_of_settled : Settled → Choice
choice_of_settled s = if s.is_changed then Changed s.entry else Kept s.entry

-- The settled objects, in order.
abbrev pub objects_of : List Settled → List ℕ
objects_of settled = map (λ s. s.object) settled

-- The stamped values are those of the function.
abbrev pub EntriesAre : (ℕ → StampedValue) → List Settled → Type 0
EntriesAre f settled = (i : ℕ) (s : Settled) → slice_get settled i ≡ Some s → s.entry ≡ f s.object

-- Whether the parent takes the object's value from the snapshot.
abbrev pub is_taken : ℕ → List Settled → Bool
is_taken x settled = list_any (λ s. s.object == x && s.is_changed) settled

-- The list with the objects that the parent takes.
abbrev pub with_taken : List Settled → List ℕ → List ℕ
with_taken [] xs = xs
with_taken (s ∷ settled) xs = with_taken settled (if s.is_changed then with_member s.object xs else xs)

-- The lesser of x and the second number if the test was passed, and else the second number.
abbrev pub lesser : Bool → ℕ → Option ℕ → Option ℕ
lesser false x least = least
lesser true x None = Some x
lesser true x (Some y) = if nat_le y x then Some y else Some x

-- The least of the listed objects that pass a test, or none if no listed object passes it.
abbrev pub IsLeast : (ℕ → Bool) → List ℕ → Option ℕ → Type 0
IsLeast test xs None = (x : ℕ) → contains x xs ≡ true → test x ≡ false
IsLeast test xs (Some y) =
    (contains y xs ≡ true) × (test y ≡ true) × ((x : ℕ) → x < y → contains x xs ≡ true → test x ≡ false)
