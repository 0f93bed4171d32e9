-- Trusted: the lines of a tree, group by group, from the groups of a composition in preorder.
use Rattle.std.specs.Prelude.{◌≡◌, ℕ, zero, suc, List, [], ◌∷◌, ◌++◌, map, take, Bool, true, false}
use Rattle.std.specs.List.{flat_map}
use Rattle.rt_groups.specs.GroupForest.{GroupForest, Attribute}
use Rattle.rt_groups.specs.PreorderGroups.{preorder}
use Rattle.rt_groups.specs.Nodes.{nodes}
use Rattle.rt_groups.specs.declared.groups.Attribute.{Attribute as Kept}
use Rattle.rt_groups.specs.declared.groups.GroupKind.{GroupKind}
use Rattle.rt_groups.specs.declared.groups.GroupKind.TheVariants as what
use Rattle.rt_groups.specs.declared.groups.Group.{Group}
use Rattle.script_lang.specs.Lines.{node_line, tree_lines}

-- An attribute of a group as an attribute of the group forest.
abbrev pub plain_attribute : Kept → Attribute
plain_attribute a = record { name = a.name; value = a.value }

abbrev pub is_node : GroupKind → Bool
is_node (what.Call function arguments) = false
is_node (what.Node kind attributes) = true
is_node (what.Key value) = false
is_node (what.Cell keys value) = false

-- The count of nodes among the open groups.
abbrev pub node_depth : List Bool → ℕ
node_depth [] = zero
node_depth (true ∷ open_groups) = suc (node_depth open_groups)
node_depth (false ∷ open_groups) = node_depth open_groups

-- The line of a node; empty for any other group.
abbrev pub line_of : ℕ → ℕ → GroupKind → List ℕ
line_of depth number (what.Call function arguments) = []
line_of depth number (what.Node kind attributes) = node_line depth number kind (map plain_attribute attributes)
line_of depth number (what.Key value) = []
line_of depth number (what.Cell keys value) = []

-- The open groups around a group, of those that were open before it.
abbrev pub open_around : List Bool → Group → List Bool
open_around before g = take g.depth before

-- The open groups after a group: those around it and the group itself.
abbrev pub open_after : List Bool → Group → List Bool
open_after before g = open_around before g ++ is_node g.what ∷ []

abbrev pub group_line : List Bool → Group → List ℕ
group_line before g = line_of (node_depth (open_around before g)) g.number g.what

-- The lines of groups, where `before` has the open groups before the first.
abbrev pub group_lines : List Bool → List Group → List ℕ
group_lines before [] = []
group_lines before (g ∷ gs) = group_line before g ++ group_lines (open_after before g) gs

-- Law: the lines of a forest's groups in preorder are the lines of its node tree.
abbrev pub GroupsTellTheTree : Type 0
GroupsTellTheTree = (t : GroupForest) → group_lines [] (preorder 0 t) ≡ flat_map (λ l. l) (tree_lines 0 (nodes t))
