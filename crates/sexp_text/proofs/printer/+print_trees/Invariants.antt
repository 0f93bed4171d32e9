use Rattle.std.proofs.Common.{◌≡◌, ◌++◌, false, drop, nat_lt}
use Rattle.sexp_text.specs.View.{forest_view}
use Rattle.sexp_text.specs.Layout.{inline_form}
use Rattle.sexp_text.proofs.printer.+print_trees.Given as goal

abbrev pub invariant-print_row-loop-i : goal.invariant-print_row-loop-i
invariant-print_row-loop-i l = l.out.items ++ inline_form (nat_lt 0 l.i) (forest_view (drop l.i l.trees.items))
    ≡ l.fn.out.items ++ inline_form false (forest_view l.trees.items)
