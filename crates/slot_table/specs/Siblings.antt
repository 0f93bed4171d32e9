-- Law: what a reader skips in a forest.
use Rattle.std.specs.Prelude.{ℕ, ◌+◌, List, ◌++◌, ◌≡◌, false}
use Rattle.rt_groups.specs.declared.groups.Group.{Group as TableGroup}
use Rattle.rt_groups.specs.GroupForest.{GroupForest}
use Rattle.rt_groups.specs.PreorderGroups.{preorder}
use Rattle.slot_table.specs.ReaderStates.{after_deep, begins_at}

-- Skipping a group leaves its later siblings and what follows them: the groups inside it are the only ones that are
-- skipped.
abbrev pub SkippingLeavesTheSiblings : Type 0
SkippingLeavesTheSiblings = (depth : ℕ) (inside rest : GroupForest) (more : List TableGroup) →
    begins_at (depth + 1) more ≡ false →
    after_deep (depth + 1) (preorder (depth + 1) inside ++ (preorder depth rest ++ more)) ≡ preorder depth rest ++ more
