use Rattle.std.proofs.Common.{◌≡◌, ◌++◌, map, drop, ◌+◌, ◌*◌}
use Rattle.std.specs.Option.{option_map}
use Rattle.sexp_text.specs.declared.tree.Tree.{size-Tree}
use Rattle.lang_ast.specs.SyntaxView.{expr_view}
use Rattle.lang_forms.specs.Views.{seen_all, widest, state_names}
use Rattle.lang_forms.specs.Readings.{exprs_of}
use Rattle.lang_forms.proofs.expressions.+expressions.Given as goal

abbrev pub invariant-parse_expressions-loop-tree : goal.invariant-parse_expressions-loop-tree
invariant-parse_expressions-loop-tree l = option_map (λ more. map expr_view l.exprs.items ++ more)
    (exprs_of (state_names l.states) (seen_all (drop l.tree-index l.trees)))
    ≡ exprs_of (state_names l.states) (seen_all l.trees)

abbrev pub decreases-parse_expression : goal.decreases-parse_expression
decreases-parse_expression l = 4 * size-Tree l.tree.now

abbrev pub decreases-parse_expression_list : goal.decreases-parse_expression_list
decreases-parse_expression_list l = 4 * widest l.trees.now + 3

abbrev pub decreases-parse_apply : goal.decreases-parse_apply
decreases-parse_apply l = 4 * widest l.trees.now + 2

abbrev pub decreases-parse_expressions : goal.decreases-parse_expressions
decreases-parse_expressions l = 4 * widest l.trees.now + 1
