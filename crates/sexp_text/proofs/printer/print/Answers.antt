use Rattle.std.proofs.Common.{◌++◌, ◌∙◌, List, ℕ, sym, ap, subst}
use Rattle.std.proofs.lemmas.List.{append-nil, drop_all}
use Rattle.sexp_text.specs.View.{forest_view}
use Rattle.sexp_text.specs.Layout.{lines, SpellsUnplaced}
use Rattle.sexp_text.proofs.Printed.{printed_spells}
use Rattle.sexp_text.proofs.printer.print.Goals as goal

pub returns-clause-text : goal.returns-clause-text
returns-clause-text c =
    sym (append-nil c.loop-tree.out.items)
    ∙ ap (λ ts. c.loop-tree.out.items ++ lines (forest_view ts))
    (sym (drop_all c.loop-tree.tree-index c.args.trees.now c.loop-tree-test.false))
    ∙ c.loop-tree.invariant

pub returns-clause-spells : goal.returns-clause-spells
returns-clause-spells c = λ can.
    subst (λ (l : List ℕ). SpellsUnplaced l (forest_view c.args.trees.now)) (sym (returns-clause-text c))
    (printed_spells (forest_view c.args.trees.now) can)
