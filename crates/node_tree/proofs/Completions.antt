-- The report that an inserted node is complete leaves the tree.
use Rattle.std.proofs.Common.{◌≡◌, ℕ, List, [], ◌∷◌, ◌++◌, length, Option, Some, None, refl, ap, sym, ◌∙◌, subst}
use Rattle.std.specs.List.{slice_get}
use Rattle.node_tree.specs.declared.ops.Op.TheVariants as op
use Rattle.node_tree.specs.NodeTrees.{TreeNode, OpenNode}
use Rattle.node_tree.specs.Calls.{IsInserted}
use Rattle.node_tree.specs.Placing.{new_node, completion}
use Rattle.node_tree.proofs.Turning.{Turns, tree, none_turns, one_turns}
use Rattle.node_tree.proofs.ChildCalls.{attributes_back}

get_at : {X : Type 0} (done more : List X) (x : X) → slice_get (done ++ (x ∷ more)) (length done) ≡ Some x
get_at [] more x = refl
get_at (y ∷ done) more x = get_at done more x

pub completion_turns : (found : Option TreeNode) (index : ℕ) (n : TreeNode) (done more : List TreeNode)
    (os : List OpenNode) → length done ≡ index
    → Turns (tree (done ++ (n ∷ more)) os) (completion found index n) (tree (done ++ (n ∷ more)) os)
completion_turns None index n done more os e = one_turns (op.InsertBottomUp index (new_node n)) _ _
    (subst (λ (o : Option TreeNode). IsInserted (new_node n) o)
    (sym (ap (λ (i : ℕ). slice_get (done ++ (n ∷ more)) i) (sym e) ∙ get_at done more n))
    (refl, refl, sym (attributes_back n.attributes)))
    refl
completion_turns (Some o) index n done more os e = none_turns _ _ refl
