-- Internal: a node tree as it is stored.
use Rattle.std.specs.Prelude.{ℕ, ◌+◌, ◌≤◌, ◌<◌, ◌^◌, List, [], ◌∷◌, ◌++◌, map, refl, if◌then◌else◌}
use Rattle.std.specs.Str.{bytes_eq}
use Rattle.rt_values.specs.declared.value.Value.{Value}
use Rattle.std.specs.Coded.{Coded, code_by, coded×, coded_ℕ, coded_list}
use Rattle.rt_groups.specs.declared.groups.Attribute.{Attribute as AttributeData}
use Rattle.node_tree.specs.declared.ops.NewNode.{NewNode}
use Rattle.node_tree.specs.NodeTrees.{CursorTree}
use Rattle.node_tree.specs.KeptNodes.{KeptValue, kept_value_code, kept_of, kept_list, NoNode, list_weight, node_kept, open_kept}

-- The children of the current node, the open nodes from the current one up, and the number of nodes that can be
-- inserted without memory.
pub record StoredTree : Type 0 where
  pub children : List KeptValue
  pub open_nodes : List KeptValue
  pub spare : ℕ

abbrev pub stored_tree : List KeptValue → List KeptValue → ℕ → StoredTree
stored_tree children open_nodes spare = record { children = children; open_nodes = open_nodes; spare = spare }

-- The tree that is stored.
abbrev pub cursor_tree : StoredTree → CursorTree
cursor_tree s = record { children = map node_kept s.children; open_nodes = map open_kept s.open_nodes }

-- A bound on the nodes, which leaves every list short enough for an insert.
abbrev pub IsWithin : List KeptValue → List KeptValue → ℕ → ℕ → Type 0
IsWithin children open_nodes spare made =
    (list_weight children + list_weight open_nodes ≤ made) × (made + spare < 2 ^ 62)

abbrev pub stored_code : Coded AttributeData → Coded StoredTree
stored_code attribute =
    code_by
    (List KeptValue × (List KeptValue × ℕ))
    (coded× (coded_list (kept_value_code attribute)) (coded× (coded_list (kept_value_code attribute)) coded_ℕ))
    (λ s. (s.children, (s.open_nodes, s.spare)))
    (λ p. record { children = p.0; open_nodes = p.1.0; spare = p.1.1 })
    (λ _. refl)

-- An inserted node as it is stored.
abbrev pub inserted_value : NewNode → KeptValue
inserted_value node = record {
  number = node.number;
  kind = node.kind;
  attributes = node.attributes;
  children = NoNode;
  before = NoNode;
  after = NoNode;
}

-- A node that is opened between its siblings.
abbrev pub opened_value : List KeptValue → KeptValue → List KeptValue → KeptValue
opened_value before k after = record {
  number = k.number;
  kind = k.kind;
  attributes = k.attributes;
  children = NoNode;
  before = kept_of before;
  after = kept_of after;
}

-- An open node that is closed with these children.
abbrev pub closed_value : List KeptValue → KeptValue → KeptValue
closed_value children k = record {
  number = k.number;
  kind = k.kind;
  attributes = k.attributes;
  children = kept_of children;
  before = NoNode;
  after = NoNode;
}

abbrev pub with_attributes : List AttributeData → KeptValue → KeptValue
with_attributes attributes k = record {
  number = k.number;
  kind = k.kind;
  attributes = attributes;
  children = k.children;
  before = k.before;
  after = k.after;
}

-- The stored tree after `down`, with the children before the index and those from it on.
abbrev pub stored_after_down : List KeptValue → List KeptValue → StoredTree → StoredTree
stored_after_down before [] s = s
stored_after_down before (k ∷ after) s =
    stored_tree (kept_list k.children) (opened_value before k after ∷ s.open_nodes) s.spare

-- The stored tree after `up`.
abbrev pub stored_after_up : List KeptValue → List KeptValue → ℕ → StoredTree
stored_after_up children [] spare = stored_tree children [] spare
stored_after_up children (o ∷ open_nodes) spare =
    stored_tree (kept_list o.before ++ (closed_value children o ∷ kept_list o.after)) open_nodes spare

-- The attributes with another value of the first attribute with this name.
abbrev pub data_after_set : List ℕ → Value → List AttributeData → List AttributeData
data_after_set name value [] = []
data_after_set name value (a ∷ rest) =
    if bytes_eq a.name name
    then record { name = a.name; value = value } ∷ rest
    else a ∷ data_after_set name value rest

-- The open nodes after `set`.
abbrev pub stored_after_set : List ℕ → Value → List KeptValue → List KeptValue
stored_after_set name value [] = []
stored_after_set name value (o ∷ open_nodes) = with_attributes (data_after_set name value o.attributes) o ∷ open_nodes
