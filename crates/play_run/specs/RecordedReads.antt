-- Internal: the reads of a frame, each with its object and the value that it gave.
use Rattle.std.specs.Prelude.{◌≡◌, ℕ, List, [], ◌∷◌, map}
use Rattle.rt_values.specs.Maps.{Map, value_at}
use Rattle.rt_values.specs.declared.value.Value.{Value}

-- The objects of reads, in order.
abbrev pub objects_read : List (ℕ × Value) → List ℕ
objects_read reads = map (λ r. r.0) reads

-- Each read gave the value that the map has for its object.
abbrev pub AgreesWith : Map → List (ℕ × Value) → Type 0
AgreesWith m [] = Unit {0}
AgreesWith m (r ∷ more) = (r.1 ≡ value_at m r.0) × AgreesWith m more
