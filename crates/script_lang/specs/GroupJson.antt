-- Trusted: the JSON of a tree, group by group, from the groups of a composition in preorder.
use Rattle.std.specs.Prelude.{◌≡◌, ℕ, List, [], ◌∷◌, ◌++◌, map, Bool, true, false, nat_le, codes, if◌then◌else◌}
use Rattle.std.specs.Fmt.{decimal}
use Rattle.json.specs.Print.{quoted}
use Rattle.rt_groups.specs.GroupForest.{GroupForest, Attribute}
use Rattle.rt_groups.specs.PreorderGroups.{preorder}
use Rattle.rt_groups.specs.Nodes.{nodes}
use Rattle.rt_groups.specs.declared.groups.GroupKind.{GroupKind}
use Rattle.rt_groups.specs.declared.groups.GroupKind.TheVariants as what
use Rattle.rt_groups.specs.declared.groups.Group.{Group}
use Rattle.serde_json.specs.Data.{object}
use Rattle.serde_json.specs.Written.{comma_if, compact_text}
use Rattle.script_lang.specs.TreeJson.{attributes_data, tree_json}
use Rattle.script_lang.specs.GroupLines.{plain_attribute}

-- A node whose children are being written.
pub record OpenNode : Type 0 where
  pub depth : ℕ
  pub number : ℕ
  pub kind : List ℕ

abbrev pub open_node : ℕ → ℕ → List ℕ → OpenNode
open_node depth number kind = record { depth = depth; number = number; kind = kind }

-- The state between two groups: the open nodes, innermost first, and whether the list of children at this point has a
-- node.
pub record JsonState : Type 0 where
  pub open_nodes : List OpenNode
  pub later : Bool

abbrev pub json_state : List OpenNode → Bool → JsonState
json_state open_nodes later = record { open_nodes = open_nodes; later = later }

-- The text of a node before its children.
abbrev pub node_start : List Attribute → List ℕ
node_start attributes =
    codes "{\"attributes\":" ++ (compact_text (object (attributes_data attributes)) ++ codes ",\"children\":[")

-- The text of a node after its children.
abbrev pub node_end : ℕ → List ℕ → List ℕ
node_end number kind = codes "],\"kind\":" ++ (quoted kind ++ (codes ",\"number\":" ++ (decimal number ++ 125 ∷ [])))

-- The ends of the open nodes at this depth or deeper.
abbrev pub ends_from : ℕ → List OpenNode → List ℕ
ends_from depth [] = []
ends_from depth (o ∷ os) = if nat_le depth o.depth then node_end o.number o.kind ++ ends_from depth os else []

-- The state after these ends.
abbrev pub state_at : ℕ → List OpenNode → Bool → JsonState
state_at depth [] later = json_state [] later
state_at depth (o ∷ os) later = if nat_le depth o.depth then state_at depth os true else json_state (o ∷ os) later

-- The text of a group: a comma if its list has a node already, and the start of a node; empty for any other group.
abbrev pub json_of : Bool → GroupKind → List ℕ
json_of later (what.Call function arguments) = []
json_of later (what.Node kind attributes) = comma_if later ++ node_start (map plain_attribute attributes)
json_of later (what.Key value) = []
json_of later (what.Cell keys value) = []

-- The state after a group's own text.
abbrev pub json_after : ℕ → ℕ → GroupKind → JsonState → JsonState
json_after depth number (what.Call function arguments) s = s
json_after depth number (what.Node kind attributes) s =
    json_state (open_node depth number kind ∷ s.open_nodes) false
json_after depth number (what.Key value) s = s
json_after depth number (what.Cell keys value) s = s

-- The state at a group: nodes at its depth or deeper are closed.
abbrev pub json_around : JsonState → Group → JsonState
json_around s g = state_at g.depth s.open_nodes s.later

abbrev pub group_json : JsonState → Group → List ℕ
group_json s g = ends_from g.depth s.open_nodes ++ json_of (json_around s g).later g.what

abbrev pub json_after_group : JsonState → Group → JsonState
json_after_group s g = json_after g.depth g.number g.what (json_around s g)

-- The text of groups and of the ends after them.
abbrev pub groups_json : JsonState → List Group → List ℕ
groups_json s [] = ends_from 0 s.open_nodes
groups_json s (g ∷ gs) = group_json s g ++ groups_json (json_after_group s g) gs

-- The state before the first group.
abbrev pub initial_json : JsonState
initial_json = json_state [] false

-- Law: the JSON of a forest's groups in preorder is the JSON of its node tree.
abbrev pub GroupsTellTheJson : Type 0
GroupsTellTheJson = (t : GroupForest) → 91 ∷ groups_json initial_json (preorder 0 t) ++ 93 ∷ [] ≡ tree_json (nodes t)
