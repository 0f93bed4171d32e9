use Rattle.lang_forms.specs.Views.{known_names_view}
use Rattle.lang_forms.proofs.StatementLists.{one_more_statement}
use Rattle.lang_forms.proofs.statements.+statements.Goals as goal

pub parse_statements-loop-tree-preserved : goal.parse_statements-loop-tree-preserved
parse_statements-loop-tree-preserved t c = one_more_statement (known_names_view c.args.known.now) c.args.site
    c.loop-tree.next c.in_ok-stmt.site_after c.loop-tree.stmts.items c.push.new.self.items c.args.trees.now
    c.loop-tree.tree-index c.tree-item.result c.in_ok-stmt.stmt c.loop-tree-test.true c.tree-item.is
    c.in_ok-stmt.ensures c.in_ok-push.ensures.items c.loop-tree.invariant
