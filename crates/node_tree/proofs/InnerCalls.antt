-- The calls inside the new nodes complete them, so the calls turn the old tree into the new one.
use Rattle.std.proofs.Common.{◌≡◌, ℕ, ◌+◌, ◌==◌, Bool, true, false, if◌then◌else◌, List, [], ◌∷◌, ◌++◌, map, length, Option, Some, None, refl, ap, sym, ◌∙◌, append_assoc, arith}
use Rattle.std.proofs.lemmas.Bool.{eqb-true}
use Rattle.std.proofs.lemmas.List.{length-append}
use Rattle.rt_groups.specs.GroupForest.{Attribute}
use Rattle.rt_groups.specs.Nodes.{Nodes, Branch}
use Rattle.rt_groups.specs.Nodes as nodes
use Rattle.node_tree.specs.NodeTrees.{TreeNode, tree_node, node_list, OpenNode}
use Rattle.node_tree.specs.Placing.{numbered_node, child_calls, sets_since, children_since, calls_inside, inner_calls}
use Rattle.node_tree.specs.Premises.{HaveDistinctNumbers, HaveDistinctNames, KeepsShape, AllDistinct, KeepShapes, OpsTurnTheOldTreeIntoTheNew}
use Rattle.node_tree.proofs.Turning.{Turns, tree, opened, none_turns, then_turns, turns_from, turns_to, children_same, inside_turns}
use Rattle.node_tree.proofs.ChildCalls.{started, started_as, child_calls_turn}
use Rattle.node_tree.proofs.Completions.{completion_turns}
use Rattle.node_tree.proofs.SetCalls.{set_calls_turn}
use Rattle.node_tree.proofs.DistinctNodes.{distinct_list, EachIsDistinct, each_distinct, since_distinct}

-- A node that was found has the number.
abbrev numbered : Option TreeNode → ℕ → Type 0
numbered None number = Unit {0}
numbered (Some o) number = o.number ≡ number

numbered_has : (number : ℕ) (ns : List TreeNode) → numbered (numbered_node number ns) number
numbered_has number [] = tt
numbered_has number (n ∷ ns) = by (n.number == number) refl (numbered_has number ns)
  where
    by : (b : Bool) → (n.number == number) ≡ b → numbered (numbered_node number ns) number
        → numbered (if b then Some n else numbered_node number ns) number
    by true is go = eqb-true n.number number is
    by false is go = go

-- The calls inside one new node complete it, if those inside its children complete them.
completed : (found : Option TreeNode) (number : ℕ) (kind : List ℕ) (attributes : List Attribute) (children : Nodes)
    (done more : List TreeNode) (os : List OpenNode) (index : ℕ)
    → length done ≡ index → numbered found number → KeepsShape found kind attributes → HaveDistinctNames attributes
    → HaveDistinctNumbers (children_since found) → HaveDistinctNumbers (node_list children)
    → ((os : List OpenNode) → Turns (tree (map (started (children_since found)) (node_list children)) os)
    (inner_calls 0 (children_since found) children) (tree (node_list children) os))
    → Turns (tree (done ++ (started_as found (tree_node number kind attributes children) ∷ more)) os)
    (calls_inside index (sets_since found attributes
    ++ (child_calls (children_since found) (node_list children) ++ inner_calls 0 (children_since found) children)))
    (tree (done ++ (tree_node number kind attributes children ∷ more)) os)
completed None number kind attributes children done more os index e is shape names old_numbers new_numbers inner =
    inside_turns _ done more (tree_node number kind attributes nodes.None) attributes children os index e
    (then_turns _ _ _ _ _ (child_calls_turn [] (node_list children)
    (opened done number kind attributes more os) old_numbers new_numbers)
    (inner (opened done number kind attributes more os)))
completed (Some o) number kind attributes children done more os index e is shape names old_numbers new_numbers inner =
    turns_to _ _ _ _ (children_same _ _ os (
    ap (λ (n : ℕ). done ++ (tree_node n o.kind attributes children ∷ more)) is
    ∙ ap (λ (k : List ℕ). done ++ (tree_node number k attributes children ∷ more)) shape.0))
    (inside_turns _ done more o attributes children os index e
    (then_turns _ _ _ _ _ (set_calls_turn o.attributes attributes
    (node_list o.children) done more o.number o.kind os shape.1 names)
    (then_turns _ _ _ _ _ (child_calls_turn (node_list o.children) (node_list children)
    (opened done o.number o.kind attributes more os) old_numbers new_numbers)
    (inner (opened done o.number o.kind attributes more os)))))

inner_calls_turn : (new : Nodes) (old done : List TreeNode) (os : List OpenNode) (index : ℕ) → length done ≡ index
    → EachIsDistinct old → AllDistinct new → KeepShapes old new
    → Turns (tree (done ++ map (started old) (node_list new)) os) (inner_calls index old new)
    (tree (done ++ node_list new) os)
inner_calls_turn nodes.None old done os index e each distinct shapes = none_turns _ _ refl
inner_calls_turn (Branch number kind attributes children rest) old done os index e each distinct shapes =
    let n : TreeNode = tree_node number kind attributes children in
    let longer : length (done ++ n ∷ []) ≡ index + 1 = omega (arith, length-append done (n ∷ [])) in
    let since = since_distinct number old each in
    then_turns _ _ _ _ _
    (completed (numbered_node number old) number kind attributes children done
    (map (started old) (node_list rest)) os index e (numbered_has number old) shapes.0 shapes.1 since.0
    (distinct_list children distinct.1)
    (λ os. inner_calls_turn children (children_since (numbered_node number old)) [] os 0 refl since.1
    distinct.1 shapes.2))
    (then_turns _ _ _ _ _
    (completion_turns (numbered_node number old) index n done (map (started old) (node_list rest)) os e)
    (turns_from _ _ _ _ (children_same _ _ os (sym (append_assoc done (n ∷ []) (map (started old) (node_list rest)))))
    (turns_to _ _ _ _ (children_same _ _ os (append_assoc done (n ∷ []) (node_list rest)))
    (inner_calls_turn rest old (done ++ n ∷ []) os (index + 1) longer each distinct.2 shapes.3))))

pub ops_turn : OpsTurnTheOldTreeIntoTheNew
ops_turn old new follows =
    let turns = then_turns _ _ _ _ _
    (child_calls_turn (node_list old) (node_list new) [] (distinct_list old follows.old_numbers)
    (distinct_list new follows.new_numbers))
    (inner_calls_turn new (node_list old) [] [] 0 refl (each_distinct old follows.old_numbers) follows.new_numbers
    follows.shapes) in
    (turns.carried, turns.may)
