-- Trees whose siblings have distinct numbers.
use Rattle.std.proofs.Common.{ℕ, ◌==◌, Bool, true, false, List, [], ◌∷◌, Option, Some, None, if◌then◌else◌}
use Rattle.rt_groups.specs.Nodes.{Nodes, Branch}
use Rattle.rt_groups.specs.Nodes as nodes
use Rattle.node_tree.specs.NodeTrees.{TreeNode, node_list}
use Rattle.node_tree.specs.Placing.{numbered_node, children_since}
use Rattle.node_tree.specs.Premises.{HaveDistinctNumbers, AllDistinct, ChildrenAreDistinct}

pub distinct_list : (n : Nodes) → AllDistinct n → HaveDistinctNumbers (node_list n)
distinct_list nodes.None d = tt
distinct_list (Branch number kind attributes children rest) d = (d.0, distinct_list rest d.2)

-- The children of each node of a list have distinct numbers at every level.
abbrev pub EachIsDistinct : List TreeNode → Type 0
EachIsDistinct [] = Unit {0}
EachIsDistinct (t ∷ ts) = AllDistinct t.children × EachIsDistinct ts

pub each_distinct : (n : Nodes) → AllDistinct n → EachIsDistinct (node_list n)
each_distinct nodes.None d = tt
each_distinct (Branch number kind attributes children rest) d = (d.1, each_distinct rest d.2)

pub found_distinct : (q : ℕ) (ts : List TreeNode) → EachIsDistinct ts → ChildrenAreDistinct (numbered_node q ts)
found_distinct q [] d = tt
found_distinct q (t ∷ ts) d = by (t.number == q) (found_distinct q ts d.1)
  where
    by : (b : Bool) → ChildrenAreDistinct (numbered_node q ts)
        → ChildrenAreDistinct (if b then Some t else numbered_node q ts)
    by true go = d.0
    by false go = go

pub since_distinct : (q : ℕ) (ts : List TreeNode) → EachIsDistinct ts
    → HaveDistinctNumbers (children_since (numbered_node q ts)) × EachIsDistinct (children_since (numbered_node q ts))
since_distinct q ts d = by (numbered_node q ts) (found_distinct q ts d)
  where
    by : (o : Option TreeNode) → ChildrenAreDistinct o
        → HaveDistinctNumbers (children_since o) × EachIsDistinct (children_since o)
    by None d = (tt, tt)
    by (Some t) d = (distinct_list t.children d, each_distinct t.children d)
