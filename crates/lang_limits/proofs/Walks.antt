-- Forests tree by tree, and trees in memory.
use Rattle.std.proofs.Common.{arith, ◌≡◌, ◌∙◌, ◌<◌, ◌+◌, ◌&&◌, ℕ, suc, add-one, length, get_or, drop, drop-cons, List, [], ◌∷◌, ◌++◌, Option, Bool, true, false, refl, sym, ap, append_assoc, if◌then◌else◌}
use Rattle.std.proofs.lemmas.List.{append-nil}
use Rattle.sexp_text.specs.Forest.{Forest, empty, atom, text, list, joined_trees}
use Rattle.sexp_text.specs.View.{tree_view, forest_view}
use Rattle.sexp_text.specs.declared.tree.Tree.{Tree}
use Rattle.sexp_text.proofs.Trees.{OneTree, one_atom, one_text, one_list, one_tree, view-Atom, view-Text, view-List}
use Rattle.lang_limits.specs.LeastOffset.{least_offset_from}
use Rattle.lang_ast.specs.Sizes.{offset_if}
use Rattle.lang_limits.specs.Tokens.{tree_count, is_oversized_atom, is_oversized_string, oversized_offsets, is_script, program_trees, script_trees}
use Rattle.lang_limits.proofs.Lesser.{least_append}

one_more : (f g : Forest) → OneTree f → tree_count (joined_trees f g) ≡ suc (tree_count g)
one_more f g (one_atom at name) = refl
one_more f g (one_text at chars) = refl
one_more f g (one_list at inner) = refl

pub tree_count-view : (ts : List Tree) → tree_count (forest_view ts) ≡ length ts
tree_count-view [] = refl
tree_count-view (t ∷ ts) = one_more (tree_view t) (forest_view ts) (one_tree t) ∙ ap suc (tree_count-view ts)

-- What a walk over trees needs.
pub ruleset walks = (view-Atom, view-Text, view-List, tree_count-view, least_append, append-nil)

-- The tree at an index, and those after it.
pub view_drop : (ts : List Tree) (i : ℕ) (t : Tree) → i < length ts → t ≡ get_or ts i t
    → forest_view (drop i ts) ≡ joined_trees (tree_view t) (forest_view (drop (i + 1) ts))
view_drop ts i t lt e =
    ap forest_view (drop-cons ts i t lt) ∙ ap (λ u. joined_trees (tree_view u) (forest_view (drop (suc i) ts))) (sym e)
    ∙ ap (λ n. joined_trees (tree_view t) (forest_view (drop n ts))) (sym (add-one i))

pub oversized_offsets-joined : (f g : Forest)
    → oversized_offsets (joined_trees f g) ≡ oversized_offsets f ++ oversized_offsets g
oversized_offsets-joined empty g = refl
oversized_offsets-joined (atom at a f) g =
    ap (λ l. offset_if (is_oversized_atom a) at ++ l) (oversized_offsets-joined f g)
    ∙ sym (append_assoc (offset_if (is_oversized_atom a) at) (oversized_offsets f) (oversized_offsets g))
oversized_offsets-joined (text at s f) g =
    ap (λ l. offset_if (is_oversized_string s) at ++ l) (oversized_offsets-joined f g)
    ∙ sym (append_assoc (offset_if (is_oversized_string s) at) (oversized_offsets f) (oversized_offsets g))
oversized_offsets-joined (list at i f) g = rw (oversized_offsets-joined f g) (simp append_assoc)

-- The oversized tokens of one tree, and of those after it.
pub beyond_step : (ts : List Tree) (i : ℕ) (t : Tree) (o : Option ℕ) → i < length ts → t ≡ get_or ts i t →
    least_offset_from o (oversized_offsets (forest_view (drop i ts)))
    ≡ least_offset_from (least_offset_from o (oversized_offsets (tree_view t)))
    (oversized_offsets (forest_view (drop (i + 1) ts)))
beyond_step ts i t o lt e =
    ap (λ (f : Forest). least_offset_from o (oversized_offsets f)) (view_drop ts i t lt e)
    ∙ ap (least_offset_from o) (oversized_offsets-joined (tree_view t) (forest_view (drop (i + 1) ts)))
    ∙ least_append o (oversized_offsets (tree_view t)) (oversized_offsets (forest_view (drop (i + 1) ts)))

program_one : (f g : Forest) → OneTree f
    → program_trees (joined_trees f g) ≡ (if is_script f then empty else joined_trees f (program_trees g))
program_one f g (one_atom at name) = refl
program_one f g (one_text at chars) = refl
program_one f g (one_list at inner) = refl

script_one : (f g : Forest) → OneTree f
    → script_trees (joined_trees f g) ≡ (if is_script f then joined_trees f g else script_trees g)
script_one f g (one_atom at name) = refl
script_one f g (one_text at chars) = refl
script_one f g (one_list at inner) = refl

-- The program and the script after one tree.
pub program_step : (t : Tree) (ts : List Tree)
    → program_trees (forest_view (t ∷ ts))
    ≡ (if is_script (tree_view t) then empty else joined_trees (tree_view t) (program_trees (forest_view ts)))
program_step t ts = program_one (tree_view t) (forest_view ts) (one_tree t)

pub script_step : (t : Tree) (ts : List Tree)
    → script_trees (forest_view (t ∷ ts))
    ≡ (if is_script (tree_view t) then forest_view (t ∷ ts) else script_trees (forest_view ts))
script_step t ts = script_one (tree_view t) (forest_view ts) (one_tree t)

-- What separates the program from the script.
pub ruleset splits = (program_step, script_step, oversized_offsets-joined, least_append)
