use Rattle.std.proofs.Common.{◌≡◌, ◌++◌, drop}
use Rattle.sexp_text.specs.View.{forest_view}
use Rattle.sexp_text.specs.Layout.{lines}
use Rattle.sexp_text.proofs.printer.print.Given as goal

abbrev pub invariant-loop-tree : goal.invariant-loop-tree
invariant-loop-tree l = l.out.items ++ lines (forest_view (drop l.tree-index l.trees)) ≡ lines (forest_view l.trees)
