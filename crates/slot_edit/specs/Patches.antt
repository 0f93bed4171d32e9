-- Trusted: a patch as contracts see it, the forest that it is for and the forest that it gives.
use Rattle.std.specs.Prelude.{ℕ, List, ◌≡◌, Option, Some, None}
use Rattle.rt_groups.specs.declared.groups.Group.{Group}
use Rattle.rt_groups.specs.GroupForest.{GroupForest}
use Rattle.rt_groups.specs.PreorderGroups.{preorder}
use Rattle.path_laws.specs.GroupPaths.{old_indexes, new_index}

-- The new groups in preorder, the old index of each, and the spare capacity that the edit needs.
pub record PatchData : Type 0 where
  pub groups : List Group
  pub olds : List (Option ℕ)
  pub need : ℕ

-- The patch is for the forest `t` and gives the forest `u`: it has the groups of `u`, each with the index of the
-- group of `t` that has its path.
pub record Patches (p : PatchData) (t u : GroupForest) : Type 0 where
  pub groups : p.groups ≡ preorder 0 u
  pub olds : p.olds ≡ old_indexes t u

-- The index of an anchor's group after the edit from `t` to `u`: that of the group of `u` with the path of the
-- anchor's group in `t`. None if no group of `u` has this path.
abbrev pub anchor_index : GroupForest → GroupForest → Option ℕ → Option ℕ
anchor_index t u None = None
anchor_index t u (Some i) = new_index t u i
