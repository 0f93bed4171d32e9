-- Trusted: a slot table as contracts see it.
use Rattle.std.specs.Prelude.{ℕ, List, [], Bool, true, false, slice_index_or}
use Rattle.rt_values.specs.Values.{no_value}
use Rattle.rt_groups.specs.declared.groups.Group.{Group}
use Rattle.rt_groups.specs.declared.groups.GroupKind.{GroupKind}
use Rattle.rt_groups.specs.declared.groups.GroupKind.TheVariants as what
use Rattle.rt_groups.specs.PreorderGroups.{flat_group}

-- The groups in preorder, and for how many more groups there is spare capacity.
pub record TableGroups : Type 0 where
  pub groups : List Group
  pub spare : ℕ

-- The group at an index, or a key group of the default value if there is none.
abbrev pub group_at : List Group → ℕ → Group
group_at gs i = slice_index_or gs i (flat_group 0 0 0 (what.Key no_value) [])

-- The group with other reads.
abbrev pub with_reads : Group → List ℕ → Group
with_reads g reads = flat_group g.depth g.site g.number g.what reads

-- Whether a group of this kind is a node.
abbrev pub is_node_kind : GroupKind → Bool
is_node_kind (what.Call f vs) = false
is_node_kind (what.Node kind attributes) = true
is_node_kind (what.Key v) = false
is_node_kind (what.Cell ks v) = false
