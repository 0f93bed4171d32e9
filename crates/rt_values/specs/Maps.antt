-- Trusted: maps from state objects to stamped values, and which objects differ between two maps.
use Rattle.std.specs.Prelude.{ℕ, ◌+◌, ◌==◌, not, Bool, true, List, [], ◌∷◌, ◌++◌, Option, Some, None, slice_get, slice_index_or, if◌then◌else◌}
use Rattle.std.specs.Option.{unwrap_or}
use Rattle.std.specs.List.{list_any}
use Rattle.rt_values.specs.declared.maps.StampedValue.{StampedValue}
use Rattle.rt_values.specs.declared.value.Value.{Value}
use Rattle.rt_values.specs.Values.{no_value}

-- The item at index x is the stamped value of object x.
abbrev pub Map : Type 0
Map = List StampedValue

abbrev pub no_entry : StampedValue
no_entry = record { value = no_value; stamp = 0 }

abbrev pub entry_at : Map → ℕ → StampedValue
entry_at m x = slice_index_or m x no_entry

-- The value of an object, or the default value if there is no such object.
abbrev pub value_at : Map → ℕ → Value
value_at m x = (entry_at m x).value

-- Whether the stamp differs from the one before. True if there was none before.
abbrev pub differs : Option StampedValue → StampedValue → Bool
differs None now = true
differs (Some before) now = not (before.stamp == now.stamp)

-- The objects of the second map, numbered from x, whose stamps differ from those before or that are new.
abbrev pub differ_from : Map → ℕ → Map → List ℕ
differ_from before x [] = []
differ_from before x (e ∷ now) =
    if differs (slice_get before x) e then x ∷ differ_from before (x + 1) now else differ_from before (x + 1) now

-- The objects whose stamps differ or that only the second map has, by increasing number. All objects if there was no
-- map before.
abbrev pub differ : Option Map → Map → List ℕ
differ before now = differ_from (unwrap_or before []) 0 now

abbrev pub contains : ℕ → List ℕ → Bool
contains x xs = list_any (λ y. y == x) xs

-- The list with x appended, unless it contains x.
abbrev pub with_member : ℕ → List ℕ → List ℕ
with_member x xs = if contains x xs then xs else xs ++ x ∷ []
