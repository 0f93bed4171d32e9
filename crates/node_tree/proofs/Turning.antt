-- Calls that turn one tree into another, one after another.
use Rattle.std.proofs.Common.{◌≡◌, ℕ, ◌<◌, suc, List, [], ◌∷◌, ◌++◌, length, refl, ap, sym, ◌∙◌, subst, arith}
use Rattle.std.proofs.lemmas.List.{take_at, drop_at, length-append}
use Rattle.rt_groups.specs.GroupForest.{Attribute}
use Rattle.rt_groups.specs.Nodes.{Nodes, None, Branch}
use Rattle.node_tree.specs.declared.ops.Op.{Op}
use Rattle.node_tree.specs.declared.ops.Op.TheVariants as op
use Rattle.node_tree.specs.NodeTrees.{TreeNode, tree_node, node_list, nodes_of, OpenNode, CursorTree}
use Rattle.node_tree.specs.Calls.{tree_after_calls, tree_after, MayCome, AllMayCome}
use Rattle.node_tree.specs.Placing.{calls_inside}

-- The calls turn the tree t into the tree u, and each may come.
pub record Turns (t : CursorTree) (calls : List Op) (u : CursorTree) : Type 0 where
  pub carried : tree_after_calls t calls ≡ u
  pub may : AllMayCome t calls

abbrev pub tree : List TreeNode → List OpenNode → CursorTree
tree children open_nodes = record { children = children; open_nodes = open_nodes }

abbrev pub opened : List TreeNode → ℕ → List ℕ → List Attribute → List TreeNode → List OpenNode → List OpenNode
opened before number kind attributes after os =
    record { before = before; number = number; kind = kind; attributes = attributes; after = after } ∷ os

carry-append : (a b : List Op) (t : CursorTree)
    → tree_after_calls t (a ++ b) ≡ tree_after_calls (tree_after_calls t a) b
carry-append [] b t = refl
carry-append (call ∷ a) b t = carry-append a b (tree_after call t)

may-append : (a b : List Op) (t : CursorTree) → AllMayCome t a → AllMayCome (tree_after_calls t a) b
    → AllMayCome t (a ++ b)
may-append [] b t m n = n
may-append (call ∷ a) b t m n = (m.0, may-append a b (tree_after call t) m.1 n)

pub none_turns : (t u : CursorTree) → t ≡ u → Turns t [] u
none_turns t u e = record { carried = e; may = tt }

pub one_turns : (call : Op) (t u : CursorTree) → MayCome call t → tree_after call t ≡ u → Turns t (call ∷ []) u
one_turns call t u m e = record { carried = e; may = (m, tt) }

pub then_turns : (a b : List Op) (t u v : CursorTree) → Turns t a u → Turns u b v → Turns t (a ++ b) v
then_turns a b t u v one two = record {
  carried = carry-append a b t ∙ ap (λ s. tree_after_calls s b) one.carried ∙ two.carried;
  may = may-append a b t one.may (subst (λ (s : CursorTree). AllMayCome s b) (sym one.carried) two.may);
}

pub turns_from : (calls : List Op) (s t u : CursorTree) → s ≡ t → Turns t calls u → Turns s calls u
turns_from calls s t u e turns = subst (λ (r : CursorTree). Turns r calls u) (sym e) turns

pub turns_to : (calls : List Op) (t u v : CursorTree) → u ≡ v → Turns t calls u → Turns t calls v
turns_to calls t u v e turns = subst (λ (r : CursorTree). Turns t calls r) e turns

pub children_same : (xs ys : List TreeNode) (os : List OpenNode) → xs ≡ ys → tree xs os ≡ tree ys os
children_same xs ys os e = ap (λ l. tree l os) e

pub nodes_back : (ns : Nodes) → nodes_of (node_list ns) ≡ ns
nodes_back None = refl
nodes_back (Branch n k as_ c rest) = ap (λ r. Branch n k as_ c r) (nodes_back rest)

length-middle : {X : Type 0} (done : List X) (x : X) (more : List X) → length done < length (done ++ (x ∷ more))
length-middle done x more = omega (arith, length-append done (x ∷ more))

-- The node at an index, opened.
down_turns : (done more : List TreeNode) (x : TreeNode) (os : List OpenNode) (index : ℕ) → length done ≡ index
    → tree_after (op.Down index) (tree (done ++ (x ∷ more)) os) ≡ tree (node_list x.children)
    (opened done x.number x.kind x.attributes more os)
down_turns done more x os index e = rw (take_at done (x ∷ more) index e, drop_at done (x ∷ more) index e)

-- The calls inside the child at an index turn this child, if they turn its list of children.
pub inside_turns : (calls : List Op) (done more : List TreeNode) (x : TreeNode) (as_ : List Attribute) (c : Nodes)
    (os : List OpenNode) (index : ℕ) → length done ≡ index
    → Turns (tree (node_list x.children) (opened done x.number x.kind x.attributes more os)) calls
    (tree (node_list c) (opened done x.number x.kind as_ more os))
    → Turns (tree (done ++ (x ∷ more)) os) (calls_inside index calls)
    (tree (done ++ (tree_node x.number x.kind as_ c ∷ more)) os)
inside_turns [] done more x as_ c os index e turns = none_turns _ _ (
    ap (λ (k : Nodes). tree (done ++ (tree_node x.number x.kind x.attributes k ∷ more)) os)
    (sym (nodes_back x.children))
    ∙ ap (λ (t : CursorTree). tree_after op.Up t) turns.carried
    ∙ ap (λ (k : Nodes). tree (done ++ (tree_node x.number x.kind as_ k ∷ more)) os) (nodes_back c))
inside_turns (call ∷ calls) done more x as_ c os index e turns =
    let first : Turns (tree (done ++ (x ∷ more)) os) (op.Down index ∷ [])
    (tree (node_list x.children) (opened done x.number x.kind x.attributes more os)) =
    one_turns (op.Down index) _ _ (rw (sym e) (length-middle done x more)) (down_turns done more x os index e) in
    let last : Turns (tree (node_list c) (opened done x.number x.kind as_ more os)) (op.Up ∷ [])
    (tree (done ++ (tree_node x.number x.kind as_ c ∷ more)) os) =
    one_turns op.Up _ _ (let h : 0 < suc (length os) = omega arith in h)
    (ap (λ (k : Nodes). tree (done ++ (tree_node x.number x.kind as_ k ∷ more)) os) (nodes_back c)) in
    then_turns (op.Down index ∷ []) (call ∷ calls ++ op.Up ∷ []) _ _ _ first
    (then_turns (call ∷ calls) (op.Up ∷ []) _ _ _ turns last)
