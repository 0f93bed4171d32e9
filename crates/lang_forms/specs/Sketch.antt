-- Trusted: the trees that a form has, each at a known offset or at any.
use Rattle.std.specs.Prelude.{◌≡◌, ℕ, ℤ, List, Option, Some, None}
use Rattle.std.specs.Fmt.{signed_decimal}
use Rattle.sexp_text.specs.Forest.{Forest, empty, atom, text, list}
use Rattle.lang_limits.specs.Clamped.{clamped_atom, clamped_string, clamped_list}

-- Nothing, or a first tree and the trees after it, each at an offset or anywhere. A `numeral` is the atom of a
-- literal number, and a `sequence` the list of a literal or of an operator: these and strings are the trees that have
-- a limit of their own.
pub data Sketch : Type 0 where
  nothing : Sketch
  leaf : (at : Option ℕ) → (name : List ℕ) → (rest : Sketch) → Sketch
  numeral : (at : Option ℕ) → (number : ℤ) → (rest : Sketch) → Sketch
  string : (at : Option ℕ) → (chars : List ℕ) → (rest : Sketch) → Sketch
  group : (at : Option ℕ) → (inner rest : Sketch) → Sketch
  sequence : (at : Option ℕ) → (inner rest : Sketch) → Sketch

-- A tree's offset is the given one, if there is one.
abbrev pub IsAtOffset : Option ℕ → ℕ → Type 0
IsAtOffset None at = Unit {0}
IsAtOffset (Some x) at = at ≡ x

-- The forest has the sketch's trees, each at its offset.
abbrev pub Fits : Forest → Sketch → Type 0
Fits f nothing = f ≡ empty
Fits f (leaf p a g) = (at : ℕ) × (r : Forest) × (f ≡ atom at a r) × IsAtOffset p at × Fits r g
Fits f (numeral p z g) = (at : ℕ) × (r : Forest) × (f ≡ atom at (signed_decimal z) r) × IsAtOffset p at × Fits r g
Fits f (string p s g) = (at : ℕ) × (r : Forest) × (f ≡ text at s r) × IsAtOffset p at × Fits r g
Fits f (group p i g) = (at : ℕ) × (j : Forest) × (r : Forest) × (f ≡ list at j r) × IsAtOffset p at
    × Fits j i × Fits r g
Fits f (sequence p i g) = (at : ℕ) × (j : Forest) × (r : Forest) × (f ≡ list at j r) × IsAtOffset p at
    × Fits j i × Fits r g

-- The forest has the sketch's trees without the limits of literals: where a number or a literal is expected, a number
-- beyond 64 bits counts as the nearest one, a string that is too long as the empty one, and an `ints` list of too many
-- numbers as that of the first two. Everywhere else the trees are those of the sketch.
abbrev pub FitsUnlimited : Forest → Sketch → Type 0
FitsUnlimited f nothing = f ≡ empty
FitsUnlimited f (leaf p a g) = (at : ℕ) × (r : Forest) × (f ≡ atom at a r) × IsAtOffset p at × FitsUnlimited r g
FitsUnlimited f (numeral p z g) = (at : ℕ) × (a : List ℕ) × (r : Forest) × (f ≡ atom at a r)
    × (clamped_atom a ≡ signed_decimal z) × IsAtOffset p at × FitsUnlimited r g
FitsUnlimited f (string p s g) = (at : ℕ) × (t : List ℕ) × (r : Forest) × (f ≡ text at t r) × (clamped_string t ≡ s)
    × IsAtOffset p at × FitsUnlimited r g
FitsUnlimited f (group p i g) = (at : ℕ) × (j : Forest) × (r : Forest) × (f ≡ list at j r) × IsAtOffset p at
    × FitsUnlimited j i × FitsUnlimited r g
FitsUnlimited f (sequence p i g) = (at : ℕ) × (j : Forest) × (r : Forest) × (f ≡ list at j r) × IsAtOffset p at
    × FitsUnlimited (clamped_list j) i × FitsUnlimited r g

-- The sketch's trees, all at offset 0.
abbrev pub unplaced_sketch : Sketch → Forest
unplaced_sketch nothing = empty
unplaced_sketch (leaf p a g) = atom 0 a (unplaced_sketch g)
unplaced_sketch (numeral p z g) = atom 0 (signed_decimal z) (unplaced_sketch g)
unplaced_sketch (string p s g) = text 0 s (unplaced_sketch g)
unplaced_sketch (group p i g) = list 0 (unplaced_sketch i) (unplaced_sketch g)
unplaced_sketch (sequence p i g) = list 0 (unplaced_sketch i) (unplaced_sketch g)
