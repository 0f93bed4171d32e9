-- The views of trees in memory, through their forest.
use Rattle.std.proofs.Common.{◌≡◌, List, [], ◌∷◌, ◌++◌, map, refl, sym, subst, ap, ◌∙◌}
use Rattle.sexp_text.specs.Forest.{Forest, empty, atom, text, list, joined_trees}
use Rattle.sexp_text.specs.View.{forest_concat, tree_view, view_step, forest_view}
use Rattle.sexp_text.specs.declared.tree.Tree.{Tree}
use Rattle.sexp_text.specs.declared.tree.Tree.TheOpen.{Tree-F}
use Rattle.sexp_text.specs.declared.tree.Tree.TheFolds.{fold-roll-Tree, map-Tree, ind-Tree}
use Rattle.lang_forms.specs.Readings.{Seen, seen_trees, word, chars, form, roles}
use Rattle.lang_forms.specs.Views.{seen_tree, seen_step, seen_all}

pub seen-behind : (f g : Forest) → seen_trees (joined_trees f g) ≡ seen_trees f ++ seen_trees g
seen-behind empty g = refl
seen-behind (atom at a f) g = ap (λ l. word at a ∷ l) (seen-behind f g)
seen-behind (text at s f) g = ap (λ l. chars at s ∷ l) (seen-behind f g)
seen-behind (list at i f) g = ap (λ l. form at (roles at (seen_trees i)) ∷ l) (seen-behind f g)

abbrev One : Tree → Type 0
One t = seen_trees (tree_view t) ≡ seen_tree t ∷ []

-- Trees, each with its proof.
rows : (ts : List ((t : Tree) × One t))
    → seen_trees (forest_concat (map tree_view (map (λ e. e.0) ts))) ≡ map seen_tree (map (λ e. e.0) ts)
rows [] = refl
rows (e ∷ ts) = seen-behind (tree_view e.0) _
    ∙ ap (λ l. l ++ seen_trees (forest_concat (map tree_view (map (λ e. e.0) ts)))) e.1
    ∙ ap (λ l. seen_tree e.0 ∷ l) (rows ts)

abbrev Proved : Type 0
Proved = (t : Tree) × One t

layer : (y : Tree-F Proved) → seen_trees (view_step (map-Tree Tree Forest tree_view
    (map-Tree Proved Tree (λ e. e.0) y)))
    ≡ seen_step (map-Tree Tree Seen seen_tree (map-Tree Proved Tree (λ e. e.0) y)) ∷ []
layer (Tree-F.Atom at name) = refl
layer (Tree-F.Text at codes) = refl
layer (Tree-F.List at trees) = ap (λ l. form at (roles at l) ∷ []) (rows trees.items)

one : (t : Tree) → One t
one = ind-Tree One (λ x y is.
    ap seen_trees (fold-roll-Tree Forest view_step x)
    ∙ subst (λ (z : Tree-F Tree). seen_trees (view_step (map-Tree Tree Forest tree_view z))
    ≡ seen_step (map-Tree Tree Seen seen_tree z) ∷ []) is (layer y)
    ∙ ap (λ s. s ∷ []) (sym (fold-roll-Tree Seen seen_step x)))

pub seen_is : (ts : List Tree) → seen_trees (forest_view ts) ≡ seen_all ts
seen_is [] = refl
seen_is (t ∷ ts) = seen-behind (tree_view t) (forest_view ts) ∙ ap (λ l. l ++ seen_trees (forest_view ts)) (one t)
    ∙ ap (λ l. seen_tree t ∷ l) (seen_is ts)
