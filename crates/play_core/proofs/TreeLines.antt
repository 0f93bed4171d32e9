-- Lines of trees: one after another, and independent of offsets.
use Rattle.std.proofs.Common.{◌≡◌, ℕ, Bool, true, false, List, [], ◌∷◌, ◌++◌, refl, sym, ap, ◌∙◌, append_assoc}
use Rattle.sexp_text.specs.Forest.{Forest, empty, atom, text, list, joined_trees, without_offsets}
use Rattle.rt_values.specs.Values.{escape_all}
use Rattle.sexp_text.specs.Grammar.{Spells}
use Rattle.sexp_text.specs.Layout.{separator, inline_form, lines}
use Rattle.sexp_text.specs.View.{tree_view, forest_view}
use Rattle.sexp_text.specs.declared.tree.Tree.{Tree}
use Rattle.sexp_text.proofs.Trees.{joined_trees_assoc}
use Rattle.lang_forms.specs.Sources.{Source}
use Rattle.lang_forms.specs.Forms.{text_forms}
use Rattle.lang_write.proofs.Written.{fits_unplaced}
use Rattle.play_core.specs.Texts.{IsText, check_output}
use Rattle.play_core.proofs.Uniques.{text-forms}

lines-behind : (f g : Forest) → lines (joined_trees f g) ≡ lines f ++ lines g
lines-behind empty g = refl
lines-behind (atom at a f) g = ap (λ l. a ++ 10 ∷ l) (lines-behind f g) ∙ sym (append_assoc a (10 ∷ lines f) (lines g))
lines-behind (text at s f) g = ap (λ l. 34 ∷ escape_all s ++ 34 ∷ 10 ∷ l) (lines-behind f g)
    ∙ sym (append_assoc (34 ∷ escape_all s) (34 ∷ 10 ∷ lines f) (lines g))
lines-behind (list at i f) g = ap (λ l. 40 ∷ inline_form false i ++ 41 ∷ 10 ∷ l) (lines-behind f g)
    ∙ sym (append_assoc (40 ∷ inline_form false i) (41 ∷ 10 ∷ lines f) (lines g))

forest_view-append : (xs ys : List Tree) → forest_view (xs ++ ys) ≡ joined_trees (forest_view xs) (forest_view ys)
forest_view-append [] ys = refl
forest_view-append (x ∷ xs) ys = ap (joined_trees (tree_view x)) (forest_view-append xs ys)
    ∙ sym (joined_trees_assoc (tree_view x) (forest_view xs) (forest_view ys))

-- The lines of the first trees, then those of the others.
pub lines-next : (first more all : List Tree) → all ≡ first ++ more
    → lines (forest_view all) ≡ lines (forest_view first) ++ lines (forest_view more)
lines-next first more all e = ap (λ ts. lines (forest_view ts)) e ∙ ap lines (forest_view-append first more)
    ∙ lines-behind (forest_view first) (forest_view more)

-- Offsets do not change the lines.
inline_form-without_offsets : (f : Forest) (due : Bool) → inline_form due (without_offsets f) ≡ inline_form due f
inline_form-without_offsets empty due = refl
inline_form-without_offsets (atom at a f) due = ap (λ l. separator due ++ a ++ l) (inline_form-without_offsets f true)
inline_form-without_offsets (text at s f) due =
    ap (λ l. separator due ++ 34 ∷ escape_all s ++ 34 ∷ l) (inline_form-without_offsets f true)
inline_form-without_offsets (list at i f) due =
    ap (λ l. separator due ++ 40 ∷ l ++ 41 ∷ inline_form true (without_offsets f)) (inline_form-without_offsets i false)
    ∙ ap (λ l. separator due ++ 40 ∷ inline_form false i ++ 41 ∷ l) (inline_form-without_offsets f true)

lines-without_offsets : (f : Forest) → lines (without_offsets f) ≡ lines f
lines-without_offsets empty = refl
lines-without_offsets (atom at a f) = ap (λ l. a ++ 10 ∷ l) (lines-without_offsets f)
lines-without_offsets (text at s f) = ap (λ l. 34 ∷ escape_all s ++ 34 ∷ 10 ∷ l) (lines-without_offsets f)
lines-without_offsets (list at i f) = ap (λ l. 40 ∷ l ++ 41 ∷ 10 ∷ lines (without_offsets f))
    (inline_form-without_offsets i false) ∙ ap (λ l. 40 ∷ inline_form false i ++ 41 ∷ 10 ∷ l) (lines-without_offsets f)

module _ {threads : Bool} where
  -- The lines of the trees that the bytes spell are those of the forms of their source text.
  pub check-is : (bytes : List ℕ) (trees : List Tree) (p : Source) → Spells bytes (forest_view trees)
      → IsText threads bytes p → lines (forest_view trees) ≡ check_output p
  unfolding check_output
  check-is bytes trees p spelled t =
      sym (lines-without_offsets (forest_view trees))
      ∙ ap lines (fits_unplaced (forest_view trees) (text_forms p)
      (text-forms bytes (forest_view trees) p spelled t).fits)
