-- Internal: the forests of statements as the code has them.
use Rattle.std.specs.Prelude.{ℕ, ℤ, ◌++◌, List, [], ◌∷◌}
use Rattle.rt_values.specs.declared.value.Value.{Value}
use Rattle.rt_values.specs.declared.value.Value.TheVariants as value
use Rattle.rt_values.specs.Maps.{Map}
use Rattle.rt_groups.specs.GroupForest.{GroupForest}
use Rattle.rt_groups.specs.GroupForest as trail
use Rattle.lang_ast.specs.declared.syntax.Function.{Function}
use Rattle.lang_ast.specs.Terms.{Stmt, Stmts}
use Rattle.lang_ast.specs.SyntaxView.{functions_view}
use Rattle.lang_ast.specs.Evaluation.{Bindings, new_binding}
use Rattle.compose_model.specs.Composing.{group, meaning_at, meanings, run, run_all, turns}

-- The forest of a statement, where `functions` are those that it can call.
abbrev pub statement_forest : Map → List Function → Stmt → Bindings → GroupForest
statement_forest m functions s env = run m (meanings m (functions_view functions)) s env

abbrev pub body_forest : Map → List Function → Stmts → Bindings → GroupForest
body_forest m functions body env = run_all m (meanings m (functions_view functions)) body env

-- The forest of a call, with its own group.
abbrev pub call_forest : Map → List Function → ℕ → ℕ → List Value → GroupForest
call_forest m functions site function arguments =
    group site (trail.Call function arguments)
    (meaning_at (meanings m (functions_view functions)) function arguments)

-- The forest of a loop: its body once for each number.
abbrev pub loop_forest : Map → List Function → List ℕ → Stmts → Bindings → List ℤ → GroupForest
loop_forest m functions name body env items =
    turns (λ i. body_forest m functions body (env ++ new_binding name (value.Int i) ∷ [])) items
