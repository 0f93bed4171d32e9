use Rattle.std.proofs.Common.{◌≤◌, length, sym, subst}
use Rattle.lang_ast.specs.SyntaxView.{functions_view}
use Rattle.lang_ast.proofs.Limits.{few_states}
use Rattle.compose_app.proofs.opening.open_world.Goals as goal

pub make_all-requires-clause-few : goal.make_all-requires-clause-few
make_all-requires-clause-few g c =
    subst (λ ss. length ss ≤ 256) (sym c.states.ensures.states)
    (few_states c.args.program.now.states.items (functions_view c.args.program.now.functions.items)
    c.args.program.now.small)
