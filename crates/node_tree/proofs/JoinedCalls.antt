-- Joined calls do what the calls do.
use Rattle.std.proofs.Common.{◌≡◌, ℕ, ◌+◌, ◌≤◌, ◌==◌, ◌&&◌, zero, suc, Bool, true, false, List, [], ◌∷◌, ◌++◌, length, Option, Some, None, if◌then◌else◌, refl, ap, sym, subst, arith}
use Rattle.std.proofs.lemmas.Bool.{eqb-true, false≢true}
use Rattle.gap_buffer.specs.Buffer.{list_after_move}
use Rattle.node_tree.specs.declared.ops.Op.{Op}
use Rattle.node_tree.specs.declared.ops.Op.TheVariants as op
use Rattle.node_tree.specs.NodeTrees.{TreeNode, CursorTree}
use Rattle.node_tree.specs.Calls.{tree_after, tree_after_calls, MayCome, AllMayCome, with_children}
use Rattle.node_tree.specs.Placing.{joined_removal, joined_move, joined_call, joined_or, joined_from, joined_calls, lists_number, nodes_without, node_index, move_to, new_node, removals, arrangements}
use Rattle.node_tree.proofs.Turning.{Turns, turns_to}
use Rattle.node_tree.proofs.JoinedLists.{cut_twice, moved_twice, length_after_move}

-- A move goes to the left, or nowhere.
abbrev pub GoesLeft : Op → Type 0
GoesLeft (op.Move from to count) = to ≤ from
GoesLeft _ = Unit {0}

abbrev pub AllGoLeft : List Op → Type 0
AllGoLeft [] = Unit {0}
AllGoLeft (call ∷ calls) = GoesLeft call × AllGoLeft calls

pub go_left-append : (xs ys : List Op) → AllGoLeft xs → AllGoLeft ys → AllGoLeft (xs ++ ys)
go_left-append [] ys m n = n
go_left-append (x ∷ xs) ys m n = (m.0, go_left-append xs ys m.1 n)

-- One call stands for two.
pub record StandsFor (both call next : Op) (t : CursorTree) : Type 0 where
  pub same : tree_after both t ≡ tree_after next (tree_after call t)
  pub may : MayCome both t
  pub left : GoesLeft both

and_parts : (b c : Bool) → (b && c) ≡ true → (b ≡ true) × (c ≡ true)
and_parts true c e = (refl, e)
and_parts false c e = absurd (false≢true e)

some_same : {X : Type 0} (x y : X) → Some x ≡ Some y → x ≡ y
some_same x y e = cc

two_removals : (index count next more : ℕ) (both : Op) (t : CursorTree)
    → joined_removal index count (op.Remove next more) ≡ Some both
    → MayCome (op.Remove index count) t → StandsFor both (op.Remove index count) (op.Remove next more) t
two_removals index count next more both t is may = by ((next + 1 == index) && (more == 1)) refl is
  where
    by : (b : Bool) → ((next + 1 == index) && (more == 1)) ≡ b
        → (if b then Some (op.Remove next (count + 1)) else None) ≡ Some both
        → StandsFor both (op.Remove index count) (op.Remove next more) t
    by false holds is = absurd cc
    by true holds is =
        let p = and_parts (next + 1 == index) (more == 1) holds in
        let at : next + 1 ≡ index = eqb-true (next + 1) index p.0 in
        let inside : (next + 1) + count ≤ length t.children = omega (arith, at, may) in
        subst (λ (o : Op). StandsFor o (op.Remove index count) (op.Remove next more) t)
        (some_same (op.Remove next (count + 1)) both is)
        (subst (λ (m : ℕ). StandsFor (op.Remove next (count + 1)) (op.Remove index count) (op.Remove next m) t)
        (sym (eqb-true more 1 p.1))
        (subst (λ (i : ℕ). StandsFor (op.Remove next (count + 1)) (op.Remove i count) (op.Remove next 1) t) at
        (record {
          same = ap (λ (l : List TreeNode). with_children l t) (sym (cut_twice t.children next count inside));
          may = omega (arith, inside);
          left = tt;
        })))

two_moves : (from to count next target more : ℕ) (both : Op) (t : CursorTree)
    → joined_move from to count (op.Move next target more) ≡ Some both → to ≤ from
    → MayCome (op.Move from to count) t → MayCome (op.Move next target more) (tree_after (op.Move from to count) t)
    → StandsFor both (op.Move from to count) (op.Move next target more) t
two_moves from to count next target more both t is left may later =
    by (((next == from + count) && (target == to + count)) && (more == 1)) refl is
    (length_after_move t.children from to count left may.0)
  where
    by : (b : Bool) → (((next == from + count) && (target == to + count)) && (more == 1)) ≡ b
        → (if b then Some (op.Move from to (count + 1)) else None) ≡ Some both
        → length (list_after_move from to count t.children) ≡ length t.children
        → StandsFor both (op.Move from to count) (op.Move next target more) t
    by false holds is long = absurd cc
    by true holds is long =
        let p = and_parts ((next == from + count) && (target == to + count)) (more == 1) holds in
        let q = and_parts (next == from + count) (target == to + count) p.0 in
        let at : next ≡ from + count = eqb-true next (from + count) q.0 in
        let one : more ≡ 1 = eqb-true more 1 p.1 in
        let inside : (from + count) + 1 ≤ length t.children = omega (arith, at, one, later.0, long) in
        subst (λ (o : Op). StandsFor o (op.Move from to count) (op.Move next target more) t)
        (some_same (op.Move from to (count + 1)) both is)
        (subst (λ (m : ℕ). StandsFor (op.Move from to (count + 1)) (op.Move from to count) (op.Move next target m) t)
        (sym one)
        (subst (λ (j : ℕ). StandsFor (op.Move from to (count + 1)) (op.Move from to count) (op.Move next j 1) t)
        (sym (eqb-true target (to + count) q.1))
        (subst (λ (i : ℕ). StandsFor (op.Move from to (count + 1)) (op.Move from to count) (op.Move i (to + count) 1) t)
        (sym at)
        (record {
          same = ap (λ (l : List TreeNode). with_children l t) (sym (moved_twice t.children from to count left inside));
          may = (omega (arith, inside), omega (arith, inside, left));
          left = left;
        }))))

two_calls : (call next both : Op) (t : CursorTree) → joined_call call next ≡ Some both → GoesLeft call
    → MayCome call t → MayCome next (tree_after call t) → StandsFor both call next t
two_calls (op.Remove index count) (op.Remove i n) both t is left may later = two_removals index count i n both t is may
two_calls (op.Move from to count) (op.Move i j n) both t is left may later =
    two_moves from to count i j n both t is left may later
two_calls _ _ both t is left may later = absurd cc

joined_from_turn : (calls : List Op) (call : Op) (t : CursorTree) → GoesLeft call → AllGoLeft calls
    → MayCome call t → AllMayCome (tree_after call t) calls
    → Turns t (joined_from calls call) (tree_after_calls (tree_after call t) calls)
joined_from_turn [] call t left all may more = record { carried = refl; may = (may, tt) }
joined_from_turn (next ∷ calls) call t left all may more =
    by (joined_call call next) refl (λ c u l m n. joined_from_turn calls c u l all.1 m n)
  where
    by : (o : Option Op) → joined_call call next ≡ o
        → ((c : Op) (u : CursorTree) → GoesLeft c → MayCome c u → AllMayCome (tree_after c u) calls
        → Turns u (joined_from calls c) (tree_after_calls (tree_after c u) calls))
        → Turns t (joined_or call next (joined_from calls) o)
        (tree_after_calls (tree_after next (tree_after call t)) calls)
    by None is go =
        let rest = go next (tree_after call t) all.0 more.0 more.1 in
        record { carried = rest.carried; may = (may, rest.may) }
    by (Some both) is go =
        let s = two_calls call next both t is left may more.0 in
        turns_to _ _ _ _ (ap (λ (u : CursorTree). tree_after_calls u calls) s.same)
        (go both t s.left s.may
        (subst (λ (u : CursorTree). AllMayCome u calls) (sym s.same) more.1))

-- Joined calls turn a tree into the one that the calls turn it into.
pub joined_turn : (calls : List Op) (t u : CursorTree) → AllGoLeft calls → Turns t calls u
    → Turns t (joined_calls calls) u
joined_turn [] t u left turns = turns
joined_turn (call ∷ calls) t u left turns =
    turns_to _ _ _ _ turns.carried
    (joined_from_turn calls call t left.0 left.1 turns.may.0 turns.may.1)

pub removals_go_left : (old new : List TreeNode) (index : ℕ) → AllGoLeft (removals index new old)
removals_go_left [] new index = tt
removals_go_left (o ∷ old) new index =
    go_left-append (removals (index + 1) new old) _ (removals_go_left old new (index + 1)) (by (lists_number o.number new))
  where
    by : (b : Bool) → AllGoLeft (if b then [] else op.Remove index 1 ∷ [])
    by true = tt
    by false = (tt, tt)

move_goes_left : (index distance : ℕ) → AllGoLeft (move_to index distance)
move_goes_left index zero = tt
move_goes_left index (suc distance) = (omega arith, tt)

pub arrangements_go_left : (new old rest : List TreeNode) (index : ℕ) → AllGoLeft (arrangements index old rest new)
arrangements_go_left [] old rest index = tt
arrangements_go_left (n ∷ new) old rest index =
    by (lists_number n.number old) (λ r. arrangements_go_left new old r (index + 1))
  where
    by : (b : Bool) → ((r : List TreeNode) → AllGoLeft (arrangements (index + 1) old r new))
        → AllGoLeft (if b
        then move_to index (node_index n.number rest) ++ arrangements (index + 1) old (nodes_without n.number rest) new
        else op.InsertTopDown index (new_node n) ∷ arrangements (index + 1) old rest new)
    by true go = go_left-append (move_to index (node_index n.number rest)) _ (move_goes_left index _)
        (go (nodes_without n.number rest))
    by false go = (tt, go rest)
