-- Law: the number of a node follows its path.
use Rattle.std.specs.Prelude.{ℕ, ◌≡◌, ◌≤◌, [], true, Some, None}
use Rattle.rt_groups.specs.GroupForest.{GroupForest, is_node}
use Rattle.rt_groups.specs.Paths.{Path, Found, at_path}
use Rattle.rt_groups.specs.Frames.{numbered_forest}

-- A node whose path was in the old forest has the number that the group there had. Any other node has a number from the
-- next unused one on.
abbrev pub NumbersFollowPaths : Type 0
NumbersFollowPaths = (old new : GroupForest) (next : ℕ) (p : Path) (g : Found) →
    at_path p (numbered_forest old [] [] next new).0 ≡ Some g → is_node g.what ≡ true →
    ((o : Found) → at_path p old ≡ Some o → g.number ≡ o.number) × (at_path p old ≡ None → next ≤ g.number)
