use Rattle.std.proofs.Common.{◌≡◌, drop, nat_lt}
use Rattle.lang_ast.specs.SyntaxView.{exprs_view}
use Rattle.lang_ast.specs.Sizes.{deepest}
use Rattle.lang_limits.proofs.sizes.+nestings.Given as goal

abbrev pub invariant-has_deeper-loop-e : goal.invariant-has_deeper-loop-e
invariant-has_deeper-loop-e l =
    nat_lt l.most (deepest (exprs_view (drop l.e-index l.es))) ≡ nat_lt l.most (deepest (exprs_view l.es))
