-- Laws on forests that grow at their end, and on trees in memory.
use Rattle.std.proofs.Common.{◌≡◌, ℕ, List, [], ◌∷◌, ◌++◌, map, refl, sym, Vec, rules, arith, ap, ◌∙◌}
use Rattle.std.proofs.lemmas.List.{map-append}
use Rattle.std.proofs.lemmas.Grind.{common_steps}
use Rattle.std.specs.declared.alloc.Global.{Global}
use Rattle.sexp_text.specs.Forest.{Forest, empty, atom, text, list, joined_trees}
use Rattle.sexp_text.specs.View.{forest_concat, view_step, tree_view, forest_view}
use Rattle.sexp_text.specs.Machine.{around_view}
use Rattle.sexp_text.specs.declared.tree.Tree.{Tree, Atom, Text, List as TreeList, fold_out-Tree, the_lemmas}
use Rattle.sexp_text.specs.declared.tree.Tree.TheOpen.{Tree-F}

pub joined_trees-empty : (f : Forest) → joined_trees f empty ≡ f
joined_trees-empty empty = refl
joined_trees-empty (atom at a f) = ap (atom at a) (joined_trees-empty f)
joined_trees-empty (text at s f) = ap (text at s) (joined_trees-empty f)
joined_trees-empty (list at i f) = ap (list at i) (joined_trees-empty f)

pub joined_trees_assoc : (f g h : Forest) → joined_trees (joined_trees f g) h ≡ joined_trees f (joined_trees g h)
joined_trees_assoc empty g h = refl
joined_trees_assoc (atom at a f) g h = ap (atom at a) (joined_trees_assoc f g h)
joined_trees_assoc (text at s f) g h = ap (text at s) (joined_trees_assoc f g h)
joined_trees_assoc (list at i f) g h = ap (list at i) (joined_trees_assoc f g h)

forest_concat-push : (fs : List Forest) (f : Forest) → forest_concat (fs ++ f ∷ []) ≡ joined_trees (forest_concat fs) f
forest_concat-push [] f = joined_trees-empty f
forest_concat-push (g ∷ fs) f = ap (joined_trees g) (forest_concat-push fs f)
    ∙ sym (joined_trees_assoc g (forest_concat fs) f)

-- A list with one more tree represents the forest with that tree appended.
pub forest_view-push : (ts : List Tree) (t : Tree)
    → forest_view (ts ++ t ∷ []) ≡ joined_trees (forest_view ts) (tree_view t)
forest_view-push ts t = ap forest_concat (map-append tree_view ts (t ∷ []))
    ∙ forest_concat-push (map tree_view ts) (tree_view t)

pub view-Atom : (at : ℕ) (name : List ℕ) → tree_view (Atom at name) ≡ atom at name empty
view-Atom at name = search (rules, the_lemmas)

pub view-Text : (at : ℕ) (chars : Vec ℕ Global) → tree_view (Text at chars) ≡ text at chars.items empty
view-Text at chars = search (rules, the_lemmas)

pub view-List : (at : ℕ) (trees : Vec Tree Global)
    → tree_view (TreeList at trees) ≡ list at (forest_view trees.items) empty
view-List at trees = search (rules, the_lemmas)

-- The rules for the forest of each kind of tree.
pub ruleset views = (view-Atom, view-Text, view-List)

-- An open list that is appended in memory becomes the innermost.
pub around_view-push : (os : List (ℕ × Vec Tree Global)) (at : ℕ) (trees : Vec Tree Global)
    → around_view (os ++ (at, trees) ∷ []) ≡ (at, forest_view trees.items) ∷ around_view os
around_view-push os at trees = grind (arith, common_steps)

-- The rules for a loop that appends trees.
pub ruleset pushes = (forest_view-push, around_view-push, view-Atom, view-Text, view-List)

-- Forests of exactly one tree.
pub data OneTree : Forest → Type 0 where
  one_atom : (at : ℕ) (name : List ℕ) → OneTree (atom at name empty)
  one_text : (at : ℕ) (chars : List ℕ) → OneTree (text at chars empty)
  one_list : (at : ℕ) (inner : Forest) → OneTree (list at inner empty)

one_step : (x : Tree-F Forest) → OneTree (view_step x)
one_step (Tree-F.Atom at name) = one_atom at name
one_step (Tree-F.Text at chars) = one_text at chars.items
one_step (Tree-F.List at trees) = one_list at (forest_concat trees.items)

pub one_tree : (t : Tree) → OneTree (tree_view t)
one_tree t = rw (fold_out-Tree Forest view_step t) (one_step _)
