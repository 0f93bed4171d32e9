-- Clamped copies of forests.
use Rattle.std.proofs.Common.{◌≡◌, ◌∙◌, ◌<◌, ◌+◌, ◌&&◌, ◌||◌, ℕ, zero, suc, length, get_or, drop, take, List, [], ◌∷◌, ◌++◌, Bool, true, false, refl, sym, ap, if◌then◌else◌}
use Rattle.sexp_text.specs.Forest.{Forest, empty, atom, text, list, joined_trees}
use Rattle.sexp_text.specs.View.{tree_view, forest_view}
use Rattle.sexp_text.specs.declared.tree.Tree.{Tree}
use Rattle.sexp_text.proofs.Trees.{joined_trees-empty, joined_trees_assoc, forest_view-push, OneTree, one_atom, one_text, one_list, one_tree, view-Atom, view-Text, view-List}
use Rattle.lang_ast.proofs.Limits.{none_in}
use Rattle.lang_limits.specs.Laws.{SmallTreesStay}
use Rattle.lang_ast.specs.Sizes.{offset_if}
use Rattle.lang_limits.specs.Tokens.{is_int, is_oversized_int, is_oversized_atom, is_oversized_string, is_oversized_list, oversized_offsets, is_do, program_trees, script_trees}
use Rattle.lang_limits.specs.Clamped.{clamped_atom, clamped_string, are_ints, first_trees, clamped_list, clamped_trees}
use Rattle.lang_limits.proofs.Walks.{view_drop}

pub clamped_trees-joined : (f g : Forest)
    → clamped_trees (joined_trees f g) ≡ joined_trees (clamped_trees f) (clamped_trees g)
clamped_trees-joined empty g = refl
clamped_trees-joined (atom at a f) g = ap (atom at (clamped_atom a)) (clamped_trees-joined f g)
clamped_trees-joined (text at s f) g = ap (text at (clamped_string s)) (clamped_trees-joined f g)
clamped_trees-joined (list at i f) g = ap (list at (clamped_list (clamped_trees i))) (clamped_trees-joined f g)

and_more : (b x y z : Bool) → x ≡ (y && z) → (b && x) ≡ ((b && y) && z)
and_more true x y z h = h
and_more false x y z h = refl

pub are_ints-joined : (f g : Forest) → are_ints (joined_trees f g) ≡ (are_ints f && are_ints g)
are_ints-joined empty g = refl
are_ints-joined (atom at a f) g = and_more (is_int a) _ _ _ (are_ints-joined f g)
are_ints-joined (text at s f) g = refl
are_ints-joined (list at i f) g = refl

-- The first trees of a tree and those after it.
one_and_first : (n : ℕ) (f g : Forest) → OneTree f
    → first_trees (suc n) (joined_trees f g) ≡ joined_trees f (first_trees n g)
one_and_first n f g (one_atom at name) = refl
one_and_first n f g (one_text at chars) = refl
one_and_first n f g (one_list at inner) = refl

-- The first trees in memory.
pub first_view : (n : ℕ) (ts : List Tree) → forest_view (take n ts) ≡ first_trees n (forest_view ts)
first_view zero ts = refl
first_view (suc n) [] = refl
first_view (suc n) (t ∷ ts) = ap (joined_trees (tree_view t)) (first_view n ts)
    ∙ sym (one_and_first n (tree_view t) (forest_view ts) (one_tree t))

-- The first three trees in memory.
pub three_view : (ts : List Tree) → forest_view (take 3 ts) ≡ first_trees 3 (forest_view ts)
three_view ts = first_view 3 ts

-- What a walk that copies trees needs.
pub ruleset copies = (forest_view-push, joined_trees_assoc, joined_trees-empty, view-Atom, view-Text, view-List)

-- What a walk over numbers needs.
pub ruleset numbers = (are_ints-joined, three_view)

not_over : (b : Bool) (at : ℕ) → offset_if b at ≡ [] → b ≡ false
not_over true at h = absurd (cc)
not_over false at h = refl

right_false : (b c : Bool) → (b || c) ≡ false → c ≡ false
right_false true c h = absurd (cc)
right_false false c h = h

atom_stays : (a : List ℕ) → is_oversized_atom a ≡ false → clamped_atom a ≡ a
atom_stays a h = let fits : is_oversized_int a ≡ false = right_false _ _ h in rw fits

string_stays : (s : List ℕ) → is_oversized_string s ≡ false → clamped_string s ≡ s
string_stays s h = rw h

list_stays : (i : Forest) → is_oversized_list i ≡ false → clamped_list i ≡ i
list_stays empty h = refl
list_stays (atom at a f) h = rw h
list_stays (text at s f) h = refl
list_stays (list at i f) h = refl

-- A forest without oversized tokens stays as it is.
pub clamping_keeps : (f : Forest) → oversized_offsets f ≡ [] → clamped_trees f ≡ f
clamping_keeps empty h = refl
clamping_keeps (atom at a f) h =
    let n = none_in (offset_if (is_oversized_atom a) at) (oversized_offsets f) h in
    ap (λ (b : List ℕ). atom at b (clamped_trees f)) (atom_stays a (not_over (is_oversized_atom a) at n.0))
    ∙ ap (atom at a) (clamping_keeps f n.1)
clamping_keeps (text at s f) h =
    let n = none_in (offset_if (is_oversized_string s) at) (oversized_offsets f) h in
    ap (λ (b : List ℕ). text at b (clamped_trees f)) (string_stays s (not_over (is_oversized_string s) at n.0))
    ∙ ap (text at s) (clamping_keeps f n.1)
clamping_keeps (list at i f) h =
    let n = none_in (offset_if (is_oversized_list i) at ++ oversized_offsets i) (oversized_offsets f) h in
    let m = none_in (offset_if (is_oversized_list i) at) (oversized_offsets i) n.0 in
    ap (λ (x : Forest). list at (clamped_list x) (clamped_trees f)) (clamping_keeps i m.1)
    ∙ ap (λ (x : Forest). list at x (clamped_trees f)) (list_stays i (not_over (is_oversized_list i) at m.0))
    ∙ ap (list at i) (clamping_keeps f n.1)

both : {A : Type 0} (xs ys : List A) → xs ≡ [] → ys ≡ [] → xs ++ ys ≡ []
both xs ys h k = rw (h, k)

-- No token is oversized if none is in the program and none in the script.
pub none_beyond : (f : Forest) → oversized_offsets (program_trees f) ≡ [] → oversized_offsets (script_trees f) ≡ []
    → oversized_offsets f ≡ []
none_beyond empty h k = refl
none_beyond (atom at a f) h k =
    let n = none_in (offset_if (is_oversized_atom a) at) (oversized_offsets (program_trees f)) h in
    both (offset_if (is_oversized_atom a) at) (oversized_offsets f) n.0 (none_beyond f n.1 k)
none_beyond (text at s f) h k =
    let n = none_in (offset_if (is_oversized_string s) at) (oversized_offsets (program_trees f)) h in
    both (offset_if (is_oversized_string s) at) (oversized_offsets f) n.0 (none_beyond f n.1 k)
none_beyond (list at i f) h k = by (is_do i) (none_beyond f) h k
  where
    by : (b : Bool) → (oversized_offsets (program_trees f) ≡ [] → oversized_offsets (script_trees f) ≡ []
        → oversized_offsets f ≡ [])
        → oversized_offsets (if b then empty else list at i (program_trees f)) ≡ []
        → oversized_offsets (if b then list at i f else script_trees f) ≡ [] → oversized_offsets (list at i f) ≡ []
    by true more h k = k
    by false more h k =
        let n = none_in (offset_if (is_oversized_list i) at ++ oversized_offsets i)
        (oversized_offsets (program_trees f)) h in
        both (offset_if (is_oversized_list i) at ++ oversized_offsets i) (oversized_offsets f) n.0 (more n.1 k)

pub small_trees_stay : SmallTreesStay
small_trees_stay f h k = clamping_keeps f (none_beyond f h k)

-- The copy of one tree, and of those after it.
pub within_step : (ts : List Tree) (i : ℕ) (t : Tree) (out : Forest) → i < length ts → t ≡ get_or ts i t →
    joined_trees out (clamped_trees (forest_view (drop i ts)))
    ≡ joined_trees (joined_trees out (clamped_trees (tree_view t))) (clamped_trees (forest_view (drop (i + 1) ts)))
within_step ts i t out lt e =
    ap (λ (f : Forest). joined_trees out (clamped_trees f)) (view_drop ts i t lt e)
    ∙ ap (joined_trees out) (clamped_trees-joined (tree_view t) (forest_view (drop (i + 1) ts)))
    ∙ sym (joined_trees_assoc out (clamped_trees (tree_view t)) (clamped_trees (forest_view (drop (i + 1) ts))))
