use Rattle.std.proofs.Common.{◌≡◌, max, drop}
use Rattle.lang_ast.specs.SyntaxView.{stmts_view}
use Rattle.lang_checks.specs.Chains.{longest_in}
use Rattle.lang_checks.proofs.chains.+chains.Given as goal

abbrev pub invariant-longest_in-loop-s : goal.invariant-longest_in-loop-s
invariant-longest_in-loop-s l =
    max l.most (longest_in l.chains (stmts_view (drop l.s-index l.body))) ≡ longest_in l.chains (stmts_view l.body)
