-- Trees and syntax in memory, level by level.
use Rattle.std.proofs.Common.{◌≡◌, ℕ, List, Vec, Global, rules}
use Rattle.lang_forms.specs.Readings.{word, chars, form, roles}
use Rattle.lang_forms.specs.Views.{seen_tree, seen_all}
use Rattle.sexp_text.specs.declared.tree.Tree.{Tree, Atom, Text, List as TreeList, the_lemmas}

pub seen-Atom : (at : ℕ) (name : List ℕ) → seen_tree (Atom at name) ≡ word at name
seen-Atom at name = search (rules, the_lemmas)

pub seen-Text : (at : ℕ) (codes : Vec ℕ Global) → seen_tree (Text at codes) ≡ chars at codes.items
seen-Text at codes = search (rules, the_lemmas)

pub seen-List : (at : ℕ) (trees : Vec Tree Global)
    → seen_tree (TreeList at trees) ≡ form at (roles at (seen_all trees.items))
seen-List at trees = search (rules, the_lemmas)

-- The view of each kind of tree.
pub ruleset trees = (seen-Atom, seen-Text, seen-List)
