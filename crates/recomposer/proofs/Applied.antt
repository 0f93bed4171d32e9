-- The calls of a frame on an applier.
use Rattle.std.proofs.Common.{◌≡◌, ℕ, zero, suc, ◌+◌, ◌≤◌, List, [], ◌∷◌, ◌++◌, refl, sym, ap, ◌∙◌, subst, inl, inr, Bool, true, false, not, ◌&&◌, ◌==◌, nat_lt, length, Option, Some, None, if◌then◌else◌, eq-eqb, arith}
use Rattle.std.proofs.lemmas.Bool.{le-ltb, lt-ltb}
use Rattle.std.specs.Option.{option_map, is_none}
use Rattle.rt_values.specs.Maps.{Map}
use Rattle.rt_groups.specs.GroupForest.{GroupForest, End, Read, Group, GroupKind, Call, Node, Key, Cell}
use Rattle.rt_groups.specs.Nodes.{Nodes, joined_nodes, group_nodes, nodes}
use Rattle.rt_groups.specs.Nodes as tree
use Rattle.rt_groups.specs.Frames.{LastFrame, numbered_forest, is_detached}
use Rattle.lang_ast.specs.declared.program.Program.{Program}
use Rattle.compose_model.specs.Composing.{forest}
use Rattle.compose_model.specs.Frame.{FrameResult}
use Rattle.recompose_laws.specs.Distinct.{has_number, how_often, AreDistinct}
use Rattle.recompose_laws.proofs.Refreshes.{split_at}
use Rattle.node_tree.specs.declared.ops.Op.{Op}
use Rattle.node_tree.specs.declared.ops.Op.TheVariants as op
use Rattle.node_tree.specs.NodeTrees.{CursorTree, tree_at_root}
use Rattle.node_tree.specs.Calls.{tree_after_calls, AllMayCome, AllAllowed, BecomesAfter}
use Rattle.node_tree.specs.Placing.{ops}
use Rattle.node_tree.specs.Premises.{CanFollow}
use Rattle.node_tree.proofs.InnerCalls.{ops_turn}
use Rattle.node_tree.proofs.SameLevels.{unchanged_tree_needs_no_calls}
use Rattle.node_laws.specs.FollowingTrees.{WasComposed}
use Rattle.node_laws.proofs.ForestTrees.{kept_tree_is_distinct}
use Rattle.node_laws.proofs.KeptShapes.{next_tree_can_follow}
use Rattle.node_laws.proofs.GivenNumbers.{numbers_are_not_given_again}
use Rattle.composer.specs.OwedObjects.{OwedObjects}
use Rattle.composer.specs.FrameDrafts.{root_of}
use Rattle.lang_ast.specs.Programs.{program_view, functions_of}
use Rattle.lang_checks.specs.CheckedProgram.{IsChecked}
use Rattle.recomposer.specs.AppliedFrames.{Mirrors, MayCall, tree_after_frame, Applies}
use Rattle.node_tree.specs.FrameOps.{frame_ops}
use Rattle.recomposer.specs.Compositions.{Owes, CountsFromOne}

-- What is kept was composed, and everything is owed exactly if nothing is kept.

was_composed : (p : Program) (seen : Option Map) (trail : GroupForest) (last : Option Map) (owed : OwedObjects)
    → Owes p seen trail last owed → WasComposed (functions_of p) (root_of p) trail
was_composed p None trail last owed h = inl h.0
was_composed p (Some m) trail None owed h = absurd h
was_composed p (Some m) trail (Some l) owed h = inr (m, h.3.composed)

pub next_follows : (p : Program) (k : LastFrame) (last : Option Map) (m : Map) (owed : OwedObjects)
    → IsChecked (program_view p) → Owes p k.seen k.trail last owed → AreDistinct k.trail k.next →
    let new = numbered_forest k.trail [] [] k.next (forest (functions_of p) (root_of p) m) in
    CanFollow (nodes k.trail) (nodes new.0) × AreDistinct new.0 new.1
next_follows p k last m owed checked h d =
    next_tree_can_follow (program_view p) (root_of p) k.trail k.next m checked.numbered checked.fine
    (was_composed p k.seen k.trail last owed h) d

pub still_from_one : (p : Program) (k : LastFrame) (last : Option Map) (m : Map) (owed : OwedObjects)
    → IsChecked (program_view p) → Owes p k.seen k.trail last owed → CountsFromOne k →
    let new = numbered_forest k.trail [] [] k.next (forest (functions_of p) (root_of p) m) in
    (1 ≤ new.1) × (how_often 0 new.0 ≡ 0)
still_from_one p k last m owed checked h one =
    let given = numbers_are_not_given_again (program_view p) (root_of p) k.trail k.next m checked.numbered checked.fine
    (was_composed p k.seen k.trail last owed h) in
    let rises = given.0 in
    let first = one.0 in
    (omega (arith, rises, first), given.1 0 (omega (arith, first)) one.1)

pub all_is_owed : (p : Program) (seen : Option Map) (trail : GroupForest) (last : Option Map) (owed : OwedObjects)
    → Owes p seen trail last owed → owed.all ≡ is_none seen
all_is_owed p None trail last owed h = h.1
all_is_owed p (Some m) trail None owed h = absurd h
all_is_owed p (Some m) trail (Some l) owed h = h.0

pub nothing_is_kept : (p : Program) (k : LastFrame) (last : Option Map) (owed : OwedObjects)
    → Owes p k.seen k.trail last owed → is_detached k ≡ true → k.trail ≡ End
nothing_is_kept p k last owed h e = by k.seen h e
  where
    by : (seen : Option Map) → Owes p seen k.trail last owed → (is_none seen && nat_lt 1 k.next) ≡ true → k.trail ≡ End
    by None h e = h.0
    by (Some m) h e = absurd (let f : false ≡ true = e in cc)

-- Whether a composition is detached, by what is owed and the next number.
pub detached_is : (p : Program) (k : LastFrame) (last : Option Map) (owed : OwedObjects) (all : Bool) (next : ℕ)
    → Owes p k.seen k.trail last owed → all ≡ owed.all → next ≡ k.next → (all && nat_lt 1 next) ≡ is_detached k
detached_is p k last owed all next h is same = ap (λ (b : Bool). b && nat_lt 1 next)
    (is ∙ all_is_owed p k.seen k.trail last owed h) ∙ ap (λ (n : ℕ). is_none k.seen && nat_lt 1 n) same

-- The calls of a frame.

pub anew_ops : (k : LastFrame) (trail : GroupForest) → is_detached k ≡ true → k.trail ≡ End
    → op.Clear ∷ ops tree.None (nodes trail) ≡ frame_ops k trail
anew_ops k trail e none =
    ap (λ (t : GroupForest). op.Clear ∷ ops (nodes t) (nodes trail)) (sym none)
    ∙ ap (λ (b : Bool). (if b then op.Clear ∷ [] else []) ++ ops (nodes k.trail) (nodes trail)) (sym e)

pub usual_ops : (k : LastFrame) (trail : GroupForest) → is_detached k ≡ false
    → ops (nodes k.trail) (nodes trail) ≡ frame_ops k trail
usual_ops k trail e = ap (λ (b : Bool). (if b then op.Clear ∷ [] else []) ++ ops (nodes k.trail) (nodes trail)) (sym e)

-- The calls turn the tree into the new one, and each may come.
abbrev pub Turn : CursorTree → List Op → GroupForest → Type 0
Turn t calls trail = (tree_after_calls t calls ≡ tree_at_root (nodes trail)) × AllMayCome t calls

pub frame_turns : (k : LastFrame) (trail : GroupForest) (t : CursorTree) → CanFollow (nodes k.trail) (nodes trail)
    → (is_detached k ≡ true → k.trail ≡ End) → Mirrors (Some t) k → Turn t (frame_ops k trail) trail
frame_turns k trail t follows none mirrors = by (is_detached k) refl
  where
    turned : (tree_after_calls (tree_at_root (nodes k.trail)) (ops (nodes k.trail) (nodes trail))
        ≡ tree_at_root (nodes trail)) × AllMayCome (tree_at_root (nodes k.trail)) (ops (nodes k.trail) (nodes trail))
    turned = ops_turn (nodes k.trail) (nodes trail) follows

    by : (b : Bool) → is_detached k ≡ b
        → Turn t ((if b then op.Clear ∷ [] else []) ++ ops (nodes k.trail) (nodes trail)) trail
    by true e =
        let empty : tree_at_root (nodes k.trail) ≡ record { children = []; open_nodes = [] } =
        ap (λ (u : GroupForest). tree_at_root (nodes u)) (none e) in (
          ap (λ (u : CursorTree). tree_after_calls u (ops (nodes k.trail) (nodes trail))) (sym empty) ∙ turned.0,
          (tt, subst (λ (u : CursorTree). AllMayCome u (ops (nodes k.trail) (nodes trail))) empty turned.1),
        )
    by false e = subst (λ (u : CursorTree). Turn u (ops (nodes k.trail) (nodes trail)) trail) (sym (mirrors e)) turned

-- The calls may be made on an applier.
pub may_carry : (before mid : Option CursorTree) (calls : List Op) (at : LastFrame → Type 0) → mid ≡ before
    → MayCall before at → ((k : LastFrame) → at k → (t : CursorTree) → Mirrors (Some t) k → AllMayCome t calls)
    → AllAllowed mid calls
may_carry before mid calls at same may each =
    subst (λ (o : Option CursorTree). AllAllowed o calls) (sym same) (by before may)
  where
    by : (o : Option CursorTree) → MayCall o at → AllAllowed o calls
    by None may = tt
    by (Some t) may = each may.kept may.is_at t may.mirrors

-- What the calls leave in an applier.
pub applied : (before mid now : Option CursorTree) (made calls : List Op) (k : LastFrame) (good : FrameResult)
    → mid ≡ before → BecomesAfter mid now calls → calls ≡ made → made ≡ frame_ops k good.left.trail
    → CanFollow (nodes k.trail) (nodes good.left.trail)
    → (is_detached k ≡ true → k.trail ≡ End) → Applies before now made k (Some good)
applied before mid now made calls k good same becomes is made_is follows none = record {
  calls = made_is;
  tree = λ mirrors. becomes ∙ ap (λ (o : Option CursorTree). option_map (λ t. tree_after_calls t calls) o) same
      ∙ by before mirrors;
}
  where
    by : (o : Option CursorTree) → Mirrors o k
        → option_map (λ t. tree_after_calls t calls) o ≡ tree_after_frame o (Some good)
    by None mirrors = refl
    by (Some t) mirrors = ap (λ (u : CursorTree). Some u)
        (ap (λ (l : List Op). tree_after_calls t l) (is ∙ made_is)
        ∙ (frame_turns k good.left.trail t follows none mirrors).0)

-- A frame that keeps everything makes no calls.
pub applied_nothing : (now : Option CursorTree) (k : LastFrame) (good : FrameResult) → AreDistinct k.trail k.next
    → is_detached k ≡ false → good.left.trail ≡ k.trail → Applies now now [] k (Some good)
applied_nothing now k good distinct attached same = record {
  calls =
      sym (unchanged_tree_needs_no_calls (nodes k.trail) (kept_tree_is_distinct k.trail k.next distinct))
      ∙ usual_ops k k.trail attached ∙ ap (λ (t : GroupForest). frame_ops k t) (sym same);
  tree = λ mirrors. by now mirrors;
}
  where
    by : (o : Option CursorTree) → Mirrors o k → o ≡ tree_after_frame o (Some good)
    by None mirrors = refl
    by (Some t) mirrors =
        ap (λ (u : CursorTree). Some u) (mirrors attached ∙ ap (λ (u : GroupForest). tree_at_root (nodes u)) (sym same))

-- Nothing is owed.
pub is_nothing_owed : (all result : Bool) (objects : List ℕ) → result ≡ (not all && (length objects == 0)) → all ≡ false
    → objects ≡ [] → result ≡ true
is_nothing_owed all result objects is none nothing =
    is ∙ ap (λ (b : Bool). not b && (length objects == 0)) none ∙ ap (λ (l : List ℕ). length l == 0) nothing

-- A fault needs a call, so a node that has a number.

no_node : (t : GroupForest) → ((x : ℕ) → how_often x t ≡ 0) → nodes t ≡ tree.None
no_node End none = refl
no_node (Read x rest) none = no_node rest none
no_node (Group site n what inside rest) none =
    join what (no_node inside (λ x. let e = none x in omega (arith, e)))
    (no_node rest (λ x. let e = none x in omega (arith, e))) (none n)
  where
    join : (what : GroupKind) → nodes inside ≡ tree.None → nodes rest ≡ tree.None
        → has_number n n what + (how_often n inside + how_often n rest) ≡ 0
        → joined_nodes (group_nodes what n (nodes inside)) (nodes rest) ≡ tree.None
    join (Call f vs) deep later e = ap (λ (t : Nodes). joined_nodes t (nodes rest)) deep ∙ later
    join (Node kind attributes) deep later e =
        let here : has_number n n (Node kind attributes) ≡ 1 = ap {B = ℕ} (λ b. if b then 1 else 0) (eq-eqb n n refl) in
        absurd (omega (arith, here, e))
    join (Key v) deep later e = ap (λ (t : Nodes). joined_nodes t (nodes rest)) deep ∙ later
    join (Cell ks v) deep later e = ap (λ (t : Nodes). joined_nodes t (nodes rest)) deep ∙ later

-- A forest has no node if its numbers begin at 1 and the next one is 1.
no_number : (t : GroupForest) (next : ℕ) → AreDistinct t next → how_often 0 t ≡ 0 → next ≤ 1 → (x : ℕ)
    → how_often x t ≡ 0
no_number t next distinct none low zero = none
no_number t next distinct none low (suc x) = (distinct (suc x)).1 (omega (arith, low))

pub detached_if_called : (p : Program) (k : LastFrame) (last : Option Map) (m : Map) (owed : OwedObjects)
    → IsChecked (program_view p) → Owes p k.seen k.trail last owed → AreDistinct k.trail k.next → CountsFromOne k →
    let new = numbered_forest k.trail [] [] k.next (forest (functions_of p) (root_of p) m) in
    (frame_ops k new.0 ≡ [] → ⊥) → nat_lt 1 new.1 ≡ true
detached_if_called p k last m owed checked h distinct one some =
    let new = numbered_forest k.trail [] [] k.next (forest (functions_of p) (root_of p) m) in
    let given = numbers_are_not_given_again (program_view p) (root_of p) k.trail k.next m checked.numbered checked.fine
    (was_composed p k.seen k.trail last owed h) in
    let apart = (next_follows p k last m owed checked h distinct).1 in
    let zero_new = (still_from_one p k last m owed checked h one).1 in
    elim (split_at 1 new.1) [
      | inl more ↦ lt-ltb 1 new.1 more
      | inr few ↦
          let rises = given.0 in
          let low : k.next ≤ 1 = omega (arith, rises, few) in
          let old_none = no_node k.trail (no_number k.trail k.next distinct one.1 low) in
          let new_none = no_node new.0 (no_number new.0 new.1 apart zero_new few) in
          let attached : is_detached k ≡ false = not_detached (is_none k.seen) k.next low in
          let none : frame_ops k new.0 ≡ [] = sym (usual_ops k new.0 attached)
          ∙ ap (λ (t : Nodes). ops t (nodes new.0)) old_none ∙ ap (λ (t : Nodes). ops tree.None t) new_none in
          absurd (some none)
    ]
  where
    not_detached : (b : Bool) (next : ℕ) → next ≤ 1 → (b && nat_lt 1 next) ≡ false
    not_detached true next low = le-ltb 1 next low
    not_detached false next low = refl
