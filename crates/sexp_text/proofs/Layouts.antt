-- Laws on printed text.
use Rattle.std.proofs.Common.{◌≡◌, ◌<◌, ℕ, ◌+◌, suc, Bool, true, false, List, [], ◌∷◌, ◌++◌, refl, sym, ap, ◌∙◌, length, take, drop, get_or, append_assoc, add-one}
use Rattle.std.proofs.Math.Seq.{take-suc, drop-cons}
use Rattle.std.proofs.lemmas.List.{append-nil}
use Rattle.sexp_text.specs.View.{tree_view, forest_view}
use Rattle.sexp_text.specs.declared.tree.Tree.{Tree}
use Rattle.sexp_text.specs.Forest.{Forest, joined_trees}
use Rattle.rt_values.specs.Values.{escape, escape_all}
use Rattle.sexp_text.specs.Layout.{separator, inline_form}
use Rattle.sexp_text.proofs.Trees.{OneTree, one_atom, one_text, one_list, one_tree}
use Rattle.rt_values.proofs.PrintedForms.{escaped-more as escape_all-more}

pub escape_all-append : (xs ys : List ℕ) → escape_all (xs ++ ys) ≡ escape_all xs ++ escape_all ys
escape_all-append [] ys = refl
escape_all-append (x ∷ xs) ys = ap (λ l. escape x ++ l) (escape_all-append xs ys)
    ∙ sym (append_assoc (escape x) (escape_all xs) (escape_all ys))

-- The rules for printing a string in quotes.
pub ruleset quotes = (escape_all-more, append_assoc)

-- A row prints its first tree and then the remaining trees.
row_one : (f g : Forest) (due : Bool) → OneTree f
    → inline_form due (joined_trees f g) ≡ separator due ++ inline_form false f ++ inline_form true g
row_one f g due (one_atom at name) = ap (λ l. separator due ++ l ++ inline_form true g) (sym (append-nil name))
row_one f g due (one_text at chars) = simp append_assoc
row_one f g due (one_list at inner) = simp append_assoc

pub first_of_view : (ts : List Tree) (i : ℕ) (t : Tree) → i < length ts → t ≡ get_or ts i t
    → forest_view (drop i ts) ≡ joined_trees (tree_view t) (forest_view (drop (i + 1) ts))
first_of_view ts i t lt e =
    ap forest_view (drop-cons ts i t lt) ∙ ap (λ u. joined_trees (tree_view u) (forest_view (drop (suc i) ts))) (sym e)
    ∙ ap (λ n. joined_trees (tree_view t) (forest_view (drop n ts))) (sym (add-one i))

-- The trees from an index print as the tree at that index and then the trees after it.
row_next : (due : Bool) (ts : List Tree) (i : ℕ) (t : Tree) → i < length ts → t ≡ get_or ts i t
    → inline_form due (forest_view (drop i ts)) ≡ separator due ++ inline_form false (tree_view t) ++ inline_form true
    (forest_view (drop (i + 1) ts))
row_next due ts i t lt e = ap (inline_form due) (first_of_view ts i t lt e)
    ∙ row_one (tree_view t) (forest_view (drop (i + 1) ts)) due (one_tree t)

-- After the next tree is printed, the remaining trees complete the row.
pub row_on : (out after : List ℕ) (due : Bool) (ts : List Tree) (i : ℕ) (t : Tree) → i < length ts → t ≡ get_or ts i t
    → after ≡ (out ++ separator due) ++ inline_form false (tree_view t)
    → after ++ inline_form true (forest_view (drop (i + 1) ts)) ≡ out ++ inline_form due (forest_view (drop i ts))
row_on out after due ts i t lt e h =
    ap (λ l. l ++ inline_form true (forest_view (drop (i + 1) ts))) h
    ∙ ap (λ l. l ++ inline_form true (forest_view (drop (i + 1) ts)))
    (append_assoc out (separator due) (inline_form false (tree_view t)))
    ∙ append_assoc out (separator due ++ inline_form false (tree_view t))
    (inline_form true (forest_view (drop (i + 1) ts)))
    ∙ ap (λ l. out ++ l) (sym (row_next due ts i t lt e))
