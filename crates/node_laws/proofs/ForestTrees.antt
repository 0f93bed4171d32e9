-- The numbers of a forest's nodes are those of its node tree.
use Rattle.std.proofs.Common.{ℕ, ◌+◌, ◌≤◌, ◌==◌, ◌≡◌, refl, ap, Bool, true, false, ◌||◌, if◌then◌else◌, arith, inl, inr, eq-eqb}
use Rattle.std.proofs.lemmas.Bool.{cases_Bool, false≢true}
use Rattle.rt_groups.specs.GroupForest.{GroupForest, End, Read, Group, GroupKind, Call}
use Rattle.rt_groups.specs.Nodes.{Nodes, Branch, joined_nodes, group_nodes, nodes}
use Rattle.rt_groups.specs.Nodes as tree
use Rattle.recompose_laws.specs.Distinct.{how_often}
use Rattle.recompose_laws.specs.Distinct.{has_number as has_group_number}
use Rattle.node_tree.specs.NodeTrees.{node_list}
use Rattle.node_tree.specs.Placing.{lists_number}
use Rattle.node_tree.specs.Premises.{AllDistinct as SiblingsAreDistinct}
use Rattle.node_laws.specs.FollowingTrees.{KeptTreeIsDistinct}

-- The count of nodes with the number.
abbrev nodes_often : ℕ → Nodes → ℕ
nodes_often x tree.None = 0
nodes_often x (Branch n kind attributes children rest) =
    (if n == x then 1 else 0) + (nodes_often x children + nodes_often x rest)

often_joined : (x : ℕ) (s t : Nodes) → nodes_often x (joined_nodes s t) ≡ nodes_often x s + nodes_often x t
often_joined x tree.None t = omega arith
often_joined x (Branch n kind attributes children rest) t = let e = often_joined x rest t in omega (arith, e)

group_often : (x n inner : ℕ) (what : GroupKind) (inside : Nodes) → nodes_often x inside ≡ inner
    → nodes_often x (group_nodes what n inside) ≡ has_group_number x n what + inner
group_often x n inner (Call f vs) inside e = omega (arith, e)
group_often x n inner _ inside e = omega (arith, e)

often_same : (x : ℕ) (t : GroupForest) → nodes_often x (nodes t) ≡ how_often x t
often_same x End = refl
often_same x (Read y rest) = often_same x rest
often_same x (Group site n what inside rest) =
    let here = group_often x n (how_often x inside) what (nodes inside) (often_same x inside) in
    let later = often_same x rest in
    let apart = often_joined x (group_nodes what n (nodes inside)) (nodes rest) in
    omega (arith, here, later, apart)

-- A number of a list occurs.
has_occurs : (x : ℕ) (n : Nodes) → lists_number x (node_list n) ≡ true → 1 ≤ nodes_often x n
has_occurs x tree.None h = absurd (false≢true h)
has_occurs x (Branch n kind attributes children rest) h = by (n == x) h (λ g. has_occurs x rest g)
  where
    by : (b : Bool) → (b || lists_number x (node_list rest)) ≡ true
        → (lists_number x (node_list rest) ≡ true → 1 ≤ nodes_often x rest)
        → 1 ≤ (if b then 1 else 0) + (nodes_often x children + nodes_often x rest)
    by true h go = omega arith
    by false h go = let later = go h in omega (arith, later)

siblings_distinct : (n : Nodes) → ((x : ℕ) → nodes_often x n ≤ 1) → SiblingsAreDistinct n
siblings_distinct tree.None h = tt
siblings_distinct (Branch n kind attributes children rest) h = (
  elim (cases_Bool (lists_number n (node_list rest))) [
    | inl has ↦
        let one = has_occurs n rest has in
        let most = h n in
        let here : (if n == n then 1 else 0) ≡ 1 = ap {B = ℕ} (λ b. if b then 1 else 0) (eq-eqb n n refl) in
        absurd (omega (arith, one, most, here))
    | inr lacks ↦ lacks
  ],
  siblings_distinct children (λ x. let most = h x in omega (arith, most)),
  siblings_distinct rest (λ x. let most = h x in omega (arith, most)),
)

pub kept_tree_is_distinct : KeptTreeIsDistinct
kept_tree_is_distinct t next h =
    siblings_distinct (nodes t) (λ x. let same = often_same x t in let most = (h x).0 in omega (arith, same, most))
