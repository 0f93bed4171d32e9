use Rattle.std.proofs.Common.{◌≡◌, ◌++◌, map, drop, ◌+◌, ◌*◌}
use Rattle.std.specs.Option.{option_map}
use Rattle.sexp_text.specs.declared.tree.Tree.{size-Tree}
use Rattle.lang_ast.specs.SyntaxView.{stmt_view}
use Rattle.lang_forms.specs.Views.{seen_all, widest, known_names_view}
use Rattle.lang_forms.specs.Readings.{stmts_of}
use Rattle.lang_forms.proofs.statements.+statements.Given as goal

abbrev pub invariant-parse_statements-loop-tree : goal.invariant-parse_statements-loop-tree
invariant-parse_statements-loop-tree l = option_map (λ more. (map stmt_view l.stmts.items ++ more.0, more.1))
    (stmts_of (known_names_view l.known) l.next (seen_all (drop l.tree-index l.trees)))
    ≡ stmts_of (known_names_view l.known) l.site (seen_all l.trees)

abbrev pub decreases-parse_statement : goal.decreases-parse_statement
decreases-parse_statement l = 5 * size-Tree l.tree.now

abbrev pub decreases-parse_statement_list : goal.decreases-parse_statement_list
decreases-parse_statement_list l = 5 * widest l.trees.now + 4

abbrev pub decreases-parse_with_body : goal.decreases-parse_with_body
decreases-parse_with_body l = 5 * widest l.trees.now + 3

abbrev pub decreases-parse_if : goal.decreases-parse_if
decreases-parse_if l = 5 * widest l.trees.now + 3

abbrev pub decreases-parse_branches : goal.decreases-parse_branches
decreases-parse_branches l = 5 * widest l.trees.now + 2

abbrev pub decreases-parse_block : goal.decreases-parse_block
decreases-parse_block l = 5 * widest l.trees.now + 1

abbrev pub decreases-parse_statements : goal.decreases-parse_statements
decreases-parse_statements l = 5 * widest l.trees.now + 1

abbrev pub decreases-parse_body : goal.decreases-parse_body
decreases-parse_body l = 5 * widest l.trees.now + 2
