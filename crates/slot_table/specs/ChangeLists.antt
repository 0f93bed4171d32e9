-- Trusted: the changes that take a table to the groups of a new frame.
use Rattle.std.specs.Prelude.{ℕ, ◌+◌, List, [], ◌∷◌, if◌then◌else◌}
use Rattle.rt_groups.specs.declared.groups.Group.{Group}
use Rattle.slot_table.specs.TableGroups.{is_node_kind}

-- The groups of a table, and those of the new frame.
pub record ChangedGroups : Type 0 where
  pub olds : List Group
  pub news : List Group

-- The count of nodes in a list of groups.
abbrev pub nodes_in : List Group → ℕ
nodes_in [] = 0
nodes_in (g ∷ gs) = (if is_node_kind g.what then 1 else 0) + nodes_in gs
