-- Trusted: a node tree as JSON: the data, and its text without blanks. Members are in the byte order of their names.
use Rattle.std.specs.Prelude.{ℕ, ℤ, pos, negsuc, List, [], ◌∷◌, codes}
use Rattle.rt_values.specs.declared.value.Value.{Value}
use Rattle.rt_values.specs.declared.value.Value.TheVariants as value
use Rattle.rt_groups.specs.GroupForest.{Attribute}
use Rattle.rt_groups.specs.Nodes.{Nodes, Branch}
use Rattle.rt_groups.specs.Nodes as tree
use Rattle.serde_json.specs.Data.{Num, unsigned, negative, Data, boolean, number, string, array, object, Items, no_items, item, Members, no_members, member, put}
use Rattle.serde_json.specs.Written.{compact_text}

abbrev pub integer_data : ℤ → Num
integer_data (pos n) = unsigned n
integer_data (negsuc n) = negative (negsuc n)

abbrev pub integers_data : List ℤ → Items
integers_data [] = no_items
integers_data (z ∷ zs) = item (number (integer_data z)) (integers_data zs)

-- The data of a value: a number, a truth value, a string, or an array of numbers.
abbrev pub value_data : Value → Data
value_data (value.Int z) = number (integer_data z)
value_data (value.Bool b) = boolean b
value_data (value.Text t) = string t
value_data (value.Ints l) = array (integers_data l)

-- Members with further attributes. `put` inserts a member at its place in the byte order of the names.
abbrev pub with_attributes : Members → List Attribute → Members
with_attributes ms [] = ms
with_attributes ms (a ∷ more) = with_attributes (put a.name (value_data a.value) ms) more

-- The attributes as members, in the byte order of their names.
abbrev pub attributes_data : List Attribute → Members
attributes_data attributes = with_attributes no_members attributes

-- The members of a node.
abbrev pub node_data : ℕ → List ℕ → Members → Items → Members
node_data n kind attributes children =
    member (codes "attributes") (object attributes)
    (member (codes "children") (array children)
    (member (codes "kind") (string kind)
    (member (codes "number") (number (unsigned n)) no_members)))

-- Nodes in order, each an object.
abbrev pub nodes_data : Nodes → Items
nodes_data tree.None = no_items
nodes_data (Branch n kind attributes children rest) =
    item (object (node_data n kind (attributes_data attributes) (nodes_data children))) (nodes_data rest)

-- The text of a tree: the array of its top nodes.
abbrev pub tree_json : Nodes → List ℕ
tree_json t = compact_text (array (nodes_data t))
