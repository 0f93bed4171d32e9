-- Trusted: forests, the trees of a source text in order, each with the offset of its first byte.
use Rattle.std.specs.Prelude.{ℕ, suc, max, List}

-- The empty forest, or a first tree and the trees after it.
pub data Forest : Type 0 where
  empty : Forest
  atom : (at : ℕ) → (name : List ℕ) → (rest : Forest) → Forest
  text : (at : ℕ) → (chars : List ℕ) → (rest : Forest) → Forest
  list : (at : ℕ) → (inner rest : Forest) → Forest

-- The trees of the first forest, then those of the second.
abbrev pub joined_trees : Forest → Forest → Forest
joined_trees empty g = g
joined_trees (atom at a f) g = atom at a (joined_trees f g)
joined_trees (text at s f) g = text at s (joined_trees f g)
joined_trees (list at i f) g = list at i (joined_trees f g)

-- The depth of nesting: a list is one deeper than the deepest list in it.
abbrev pub list_nesting : Forest → ℕ
list_nesting empty = 0
list_nesting (atom at a f) = list_nesting f
list_nesting (text at s f) = list_nesting f
list_nesting (list at i f) = max (suc (list_nesting i)) (list_nesting f)

-- The forest with all offsets set to 0.
abbrev pub without_offsets : Forest → Forest
without_offsets empty = empty
without_offsets (atom at a f) = atom 0 a (without_offsets f)
without_offsets (text at s f) = text 0 s (without_offsets f)
without_offsets (list at i f) = list 0 (without_offsets i) (without_offsets f)
