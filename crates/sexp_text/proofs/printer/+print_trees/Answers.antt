use Rattle.std.proofs.Common.{◌≡◌, ◌++◌, ◌∙◌, ℕ, ◌+◌, ◌<◌, Bool, true, false, nat_lt, length, get_or, List, drop, ap, subst, arith}
use Rattle.std.proofs.lemmas.Bool.Decides.{nat_tests}
use Rattle.sexp_text.specs.View.{forest_view, tree_view}
use Rattle.sexp_text.specs.Layout.{inline_form}
use Rattle.sexp_text.specs.declared.tree.Tree.{Tree}
use Rattle.sexp_text.proofs.Layouts.{row_on}
use Rattle.sexp_text.proofs.printer.+print_trees.Goals as goal

due_behind : (i : ℕ) → nat_lt 0 (i + 1) ≡ true
due_behind i = grind (arith, nat_tests)

pub print_row-loop-i-preserved : goal.print_row-loop-i-preserved
print_row-loop-i-preserved t c =
    let i = c.loop-i.i in
    let trees = c.args.trees.now.items in
    let lt : i < length trees = subst (λ (l : List Tree). i < length l) c.deref-tree-items.ensures.value
    c.loop-i-test.true in
    let at : c.tree-item.result ≡ get_or trees i c.tree-item.result
    = subst (λ (l : List Tree). c.tree-item.result ≡ get_or l i c.tree-item.result) c.deref-tree-items.ensures.value
    c.tree-item.is in
    ap (λ (b : Bool). c.print_tree.new.out.items ++ inline_form b (forest_view (drop (i + 1) trees))) (due_behind i)
    ∙ row_on c.loop-i.out.items c.print_tree.new.out.items (nat_lt 0 i) trees i c.tree-item.result lt at
    (c.in_ok-print_tree.ensures.ok
    ∙ ap (λ l. l ++ inline_form false (tree_view c.tree-item.result)) c.in_ok-print_blank.ensures)
    ∙ c.loop-i.invariant
