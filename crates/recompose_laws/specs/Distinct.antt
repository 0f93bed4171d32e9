-- Trusted: uniqueness of node numbers.
use Rattle.std.specs.Prelude.{ℕ, ◌+◌, ◌≤◌, ◌==◌, ◌&&◌, ◌≡◌, List, [], Bool, true, false, if◌then◌else◌}
use Rattle.rt_values.specs.Maps.{Map}
use Rattle.rt_groups.specs.GroupForest.{GroupForest, End, Read, Group, GroupKind, is_node}
use Rattle.rt_groups.specs.Frames.{numbered_forest}
use Rattle.lang_ast.specs.Terms.{Head, Node, For, Let, Stmt, Call, If, Block, Func}
use Rattle.lang_ast.specs.Programs.{functions_statements, Each}
use Rattle.compose_model.specs.Composing.{forest}

-- 1 if a group is a node with number `x`, else 0.
abbrev pub has_number : ℕ → ℕ → GroupKind → ℕ
has_number x n what = if is_node what && (n == x) then 1 else 0

-- The count of nodes with number `x`.
abbrev pub how_often : ℕ → GroupForest → ℕ
how_often x End = 0
how_often x (Read y rest) = how_often x rest
how_often x (Group site n what inside rest) = has_number x n what + (how_often x inside + how_often x rest)

-- Each number below `k` belongs to at most one node, and no node has a number from `k` on.
abbrev pub AreDistinct : GroupForest → ℕ → Type 0
AreDistinct t k = (x : ℕ) → (how_often x t ≤ 1) × (k ≤ x → how_often x t ≡ 0)

-- `NodesAt at_site t`: in `t`, a group is a node exactly if `at_site` is true for its site.
abbrev pub NodesAt : (ℕ → Bool) → GroupForest → Type 0
NodesAt at_site End = Unit {0}
NodesAt at_site (Read x rest) = NodesAt at_site rest
NodesAt at_site (Group site n what inside rest) =
    (is_node what ≡ at_site site) × NodesAt at_site inside × NodesAt at_site rest

-- Whether a block with this head makes a group.
abbrev pub makes_group : Head → Bool
makes_group (For name list) = false
makes_group (Let name e) = false
makes_group _ = true

-- Whether a block with this head makes a node.
abbrev pub makes_node : Head → Bool
makes_node (Node kind attributes) = true
makes_node _ = false

-- `at_site` is true for the site of a statement that makes a node, and false for the site of any other statement that
-- makes a group.
abbrev pub SiteTells : (ℕ → Bool) → Stmt → Type 0
SiteTells at_site (Call at site name function arguments) = false ≡ at_site site
SiteTells at_site (If at site condition then_branch else_branch) = Unit {0}
SiteTells at_site (Block at site head body) = makes_group head ≡ true → makes_node head ≡ at_site site

-- `at_site` fits the statements of all functions.
abbrev pub FunctionsTell : (ℕ → Bool) → List Func → Type 0
FunctionsTell at_site functions = Each (SiteTells at_site) (functions_statements functions)

-- Law: a program's nodes are at the sites of its node statements, and the call of the root is at site 0.
abbrev pub NodesAreAtNodeSites : Type 0
NodesAreAtNodeSites = (at_site : ℕ → Bool) (functions : List Func) (root : ℕ) (m : Map) →
    false ≡ at_site 0 → FunctionsTell at_site functions → NodesAt at_site (forest functions root m)

-- Law: if node numbers were unique before a frame, they are unique after it, and nodes are still at node sites.
abbrev pub NumbersStayDistinct : Type 0
NumbersStayDistinct = (at_site : ℕ → Bool) (old new : GroupForest) (k : ℕ) →
    NodesAt at_site old → NodesAt at_site new → AreDistinct old k →
    AreDistinct (numbered_forest old [] [] k new).0 (numbered_forest old [] [] k new).1
    × NodesAt at_site (numbered_forest old [] [] k new).0
