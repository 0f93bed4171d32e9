-- Trusted: group forests, that is what composing does in order: the state objects that it reads and the groups that
-- it makes.
use Rattle.std.specs.Prelude.{ℕ, ◌+◌, List, [], ◌∷◌, ◌++◌, Bool, true, false, if◌then◌else◌}
use Rattle.rt_values.specs.declared.value.Value.{Value}

-- An attribute of a node.
pub record Attribute : Type 0 where
  pub name : List ℕ
  pub value : Value

-- The kind of a group: a call of a function with its arguments, a node with its kind and attributes, a key with its
-- value, or a cell that remembers a value, with the keys that it was calculated for.
pub data GroupKind : Type 0 where
  Call : (function : ℕ) → (arguments : List Value) → GroupKind
  Node : (kind : List ℕ) → (attributes : List Attribute) → GroupKind
  Key : (value : Value) → GroupKind
  Cell : (keys : List Value) → (value : Value) → GroupKind

-- Reads and groups in order. A group has the site of its statement, a number (0 if it has no number) and a forest
-- inside.
pub data GroupForest : Type 0 where
  End : GroupForest
  Read : (object : ℕ) → (rest : GroupForest) → GroupForest
  Group : (site number : ℕ) → (what : GroupKind) → (inside rest : GroupForest) → GroupForest

-- The first forest, then the second.
abbrev pub joined_forest : GroupForest → GroupForest → GroupForest
joined_forest End t = t
joined_forest (Read x rest) t = Read x (joined_forest rest t)
joined_forest (Group site number what inside rest) t = Group site number what inside (joined_forest rest t)

-- Reads, then a forest.
abbrev pub reads_then : List ℕ → GroupForest → GroupForest
reads_then [] t = t
reads_then (x ∷ xs) t = Read x (reads_then xs t)

-- All objects that are read, in order, repeats included.
abbrev pub asks : GroupForest → List ℕ
asks End = []
asks (Read x rest) = x ∷ asks rest
asks (Group site number what inside rest) = asks inside ++ asks rest

-- The number of groups.
abbrev pub how_many : GroupForest → ℕ
how_many End = 0
how_many (Read x rest) = how_many rest
how_many (Group site number what inside rest) = 1 + (how_many inside + how_many rest)

abbrev pub is_call : GroupKind → Bool
is_call (Call f vs) = true
is_call (Node k as_) = false
is_call (Key v) = false
is_call (Cell ks v) = false

abbrev pub is_node : GroupKind → Bool
is_node (Call f vs) = false
is_node (Node k as_) = true
is_node (Key v) = false
is_node (Cell ks v) = false

-- The number of nodes.
abbrev pub how_many_nodes : GroupForest → ℕ
how_many_nodes End = 0
how_many_nodes (Read x rest) = how_many_nodes rest
how_many_nodes (Group site number what inside rest) =
    (if is_node what then 1 else 0) + (how_many_nodes inside + how_many_nodes rest)

-- The part of a call inside one of its groups, which is empty inside another call.
abbrev pub inside_own : GroupKind → GroupForest → GroupForest
inside_own (Call f vs) own = End
inside_own (Node k as_) own = own
inside_own (Key v) own = own
inside_own (Cell ks v) own = own

-- The own part of a call: its reads and groups, with the calls in it as empty groups.
abbrev pub own_part : GroupForest → GroupForest
own_part End = End
own_part (Read x rest) = Read x (own_part rest)
own_part (Group site number what inside rest) =
    Group site number what (inside_own what (own_part inside)) (own_part rest)
