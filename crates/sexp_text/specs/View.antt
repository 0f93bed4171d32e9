-- Trusted: the forest that trees in memory represent.
use Rattle.std.specs.Prelude.{List, [], ◌∷◌, map}
use Rattle.sexp_text.specs.Forest.{Forest, empty, atom, text, list, joined_trees}
use Rattle.sexp_text.specs.declared.tree.Tree.{Tree, fold-Tree}
use Rattle.sexp_text.specs.declared.tree.Tree.TheOpen.{Tree-F}

-- The trees of several forests in order.
abbrev pub forest_concat : List Forest → Forest
forest_concat [] = empty
forest_concat (f ∷ fs) = joined_trees f (forest_concat fs)

-- The forest of one tree whose inner trees are forests already.
abbrev pub view_step : Tree-F Forest → Forest
view_step (Tree-F.Atom at name) = atom at name empty
view_step (Tree-F.Text at chars) = text at chars.items empty
view_step (Tree-F.List at trees) = list at (forest_concat trees.items) empty

-- The forest of one tree.
abbrev pub tree_view : Tree → Forest
tree_view = fold-Tree Forest view_step

-- The forest of a list of trees.
abbrev pub forest_view : List Tree → Forest
forest_view ts = forest_concat (map tree_view ts)
