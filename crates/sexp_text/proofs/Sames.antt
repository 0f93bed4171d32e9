-- The comparison of forests without their offsets.
use Rattle.std.proofs.Common.{◌≡◌, ◌∙◌, ◌<◌, ◌+◌, ◌&&◌, ℕ, suc, List, [], ◌∷◌, Bool, true, false, true≢false, refl, sym, ap, length, get_or, drop, drop-cons, add-one, nat_eq, ◌≤◌, arith}
use Rattle.std.proofs.lemmas.Bool.Decides.{nat_tests}
use Rattle.std.proofs.lemmas.List.{drop_all}
use Rattle.std.specs.Str.{bytes_eq}
use Rattle.std.proofs.lemmas.Bool.{and_parts, and_from}
use Rattle.std.proofs.lemmas.Slice.Eq.{bytes_eq-Decides}
use Rattle.sexp_text.specs.Forest.{Forest, empty, atom, text, list, joined_trees, without_offsets}
use Rattle.sexp_text.specs.View.{tree_view, forest_view}
use Rattle.sexp_text.specs.declared.tree.Tree.{Tree}
use Rattle.sexp_text.specs.Same.{same_forest}
use Rattle.sexp_text.proofs.Trees.{OneTree, one_atom, one_text, one_list, one_tree, view-Atom, view-Text, view-List}
use Rattle.sexp_text.proofs.Layouts.{first_of_view as view_at}

pub and_true : (b : Bool) → (b && true) ≡ b
and_true true = refl
and_true false = refl

-- The rules for comparing two trees of any kinds.
pub ruleset pairs = (view-Atom, view-Text, view-List, and_true)

and_one : (b c : Bool) → (b && c) ≡ ((b && true) && c)
and_one true c = refl
and_one false c = refl

-- Two forests are equal if their first trees and their remaining trees are.
one_pair : (f g h k : Forest) → OneTree f → OneTree h →
    same_forest (joined_trees f g) (joined_trees h k) ≡ (same_forest f h && same_forest g k)
one_pair f g h k (one_atom at a) (one_atom bt b) = and_one (bytes_eq a b) (same_forest g k)
one_pair f g h k (one_atom at a) (one_text bt b) = refl
one_pair f g h k (one_atom at a) (one_list bt j) = refl
one_pair f g h k (one_text at a) (one_atom bt b) = refl
one_pair f g h k (one_text at a) (one_text bt b) = and_one (bytes_eq a b) (same_forest g k)
one_pair f g h k (one_text at a) (one_list bt j) = refl
one_pair f g h k (one_list at i) (one_atom bt b) = refl
one_pair f g h k (one_list at i) (one_text bt b) = refl
one_pair f g h k (one_list at i) (one_list bt j) = and_one (same_forest i j) (same_forest g k)

one_none : (f g : Forest) → OneTree f → same_forest (joined_trees f g) empty ≡ false
one_none f g (one_atom at a) = refl
one_none f g (one_text at a) = refl
one_none f g (one_list at i) = refl

none_one : (f g : Forest) → OneTree f → same_forest empty (joined_trees f g) ≡ false
none_one f g (one_atom at a) = refl
none_one f g (one_text at a) = refl
none_one f g (one_list at i) = refl

pub step : (ts : List Tree) (i : ℕ) (t u : Tree) (us : List Tree) → i < length ts → t ≡ get_or ts i t →
    same_forest (forest_view (drop i ts)) (forest_view (u ∷ us))
    ≡ (same_forest (tree_view t) (tree_view u) && same_forest (forest_view (drop (i + 1) ts)) (forest_view us))
step ts i t u us lt e =
    ap (λ (f : Forest). same_forest f (forest_view (u ∷ us))) (view_at ts i t lt e)
    ∙ one_pair (tree_view t) (forest_view (drop (i + 1) ts)) (tree_view u) (forest_view us) (one_tree t) (one_tree u)

pub step_none : (ts : List Tree) (i : ℕ) (t : Tree) → i < length ts → t ≡ get_or ts i t →
    same_forest (forest_view (drop i ts)) (forest_view []) ≡ false
step_none ts i t lt e = ap (λ (f : Forest). same_forest f empty) (view_at ts i t lt e)
    ∙ one_none (tree_view t) (forest_view (drop (i + 1) ts)) (one_tree t)

pub ended : (u : Tree) (us : List Tree) → same_forest (forest_view []) (forest_view (u ∷ us)) ≡ false
ended u us = none_one (tree_view u) (forest_view us) (one_tree u)

some_left : (n : ℕ) → nat_eq (suc n) 0 ≡ false
some_left n = grind (arith, nat_tests)

none_left : (us : List Tree) → same_forest empty (forest_view us) ≡ nat_eq (length us) 0
none_left [] = refl
none_left (u ∷ us) = ended u us ∙ sym (some_left (length us))

-- After the last tree of one list, the forests are equal only if the other list is empty.
pub past : (ts us : List Tree) (i : ℕ) → length ts ≤ i →
    same_forest (forest_view (drop i ts)) (forest_view us) ≡ nat_eq (length us) 0
past ts us i h = ap (λ (l : List Tree). same_forest (forest_view l) (forest_view us)) (drop_all i ts h) ∙ none_left us

-- The rules for comparing two lists of trees.
pub ruleset walks = (step, step_none, ended)

bytes_same : (a b : List ℕ) → bytes_eq a b ≡ true → a ≡ b
bytes_same a b h = (bytes_eq-Decides a b).0 h

-- Forests that compare as equal differ only in offsets.
pub same_unplaced : (f g : Forest) → same_forest f g ≡ true → without_offsets f ≡ without_offsets g
same_unplaced empty empty h = refl
same_unplaced empty (atom bt b g) h = absurd (true≢false (sym h))
same_unplaced empty (text bt b g) h = absurd (true≢false (sym h))
same_unplaced empty (list bt j g) h = absurd (true≢false (sym h))
same_unplaced (atom at a f) empty h = absurd (true≢false (sym h))
same_unplaced (atom at a f) (atom bt b g) h =
    let p = and_parts (bytes_eq a b) (same_forest f g) h in
    ap (λ (x : List ℕ). atom 0 x (without_offsets f)) (bytes_same a b p.0) ∙ ap (atom 0 b) (same_unplaced f g p.1)
same_unplaced (atom at a f) (text bt b g) h = absurd (true≢false (sym h))
same_unplaced (atom at a f) (list bt j g) h = absurd (true≢false (sym h))
same_unplaced (text at a f) empty h = absurd (true≢false (sym h))
same_unplaced (text at a f) (atom bt b g) h = absurd (true≢false (sym h))
same_unplaced (text at a f) (text bt b g) h =
    let p = and_parts (bytes_eq a b) (same_forest f g) h in
    ap (λ (x : List ℕ). text 0 x (without_offsets f)) (bytes_same a b p.0) ∙ ap (text 0 b) (same_unplaced f g p.1)
same_unplaced (text at a f) (list bt j g) h = absurd (true≢false (sym h))
same_unplaced (list at i f) empty h = absurd (true≢false (sym h))
same_unplaced (list at i f) (atom bt b g) h = absurd (true≢false (sym h))
same_unplaced (list at i f) (text bt b g) h = absurd (true≢false (sym h))
same_unplaced (list at i f) (list bt j g) h =
    let p = and_parts (same_forest i j) (same_forest f g) h in
    ap (λ (x : Forest). list 0 x (without_offsets f)) (same_unplaced i j p.0)
    ∙ ap (list 0 (without_offsets j)) (same_unplaced f g p.1)

bytes_are : (a b : List ℕ) → a ≡ b → bytes_eq a b ≡ true
bytes_are a b h = (bytes_eq-Decides a b).1 h

-- Forests that differ only in offsets compare as equal.
pub unplaced_same : (f g : Forest) → without_offsets f ≡ without_offsets g → same_forest f g ≡ true
unplaced_same empty empty h = refl
unplaced_same empty (atom bt b g) h = absurd (cc)
unplaced_same empty (text bt b g) h = absurd (cc)
unplaced_same empty (list bt j g) h = absurd (cc)
unplaced_same (atom at a f) empty h = absurd (cc)
unplaced_same (atom at a f) (atom bt b g) h =
    and_from (bytes_eq a b) (same_forest f g) (bytes_are a b (cc)) (unplaced_same f g (cc))
unplaced_same (atom at a f) (text bt b g) h = absurd (cc)
unplaced_same (atom at a f) (list bt j g) h = absurd (cc)
unplaced_same (text at a f) empty h = absurd (cc)
unplaced_same (text at a f) (atom bt b g) h = absurd (cc)
unplaced_same (text at a f) (text bt b g) h =
    and_from (bytes_eq a b) (same_forest f g) (bytes_are a b (cc)) (unplaced_same f g (cc))
unplaced_same (text at a f) (list bt j g) h = absurd (cc)
unplaced_same (list at i f) empty h = absurd (cc)
unplaced_same (list at i f) (atom bt b g) h = absurd (cc)
unplaced_same (list at i f) (text bt b g) h = absurd (cc)
unplaced_same (list at i f) (list bt j g) h =
    and_from (same_forest i j) (same_forest f g) (unplaced_same i j (cc)) (unplaced_same f g (cc))
