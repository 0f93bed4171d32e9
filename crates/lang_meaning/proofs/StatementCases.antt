-- The forest of a statement in memory, by its parts, and the forest of a list of statements.
use Rattle.std.proofs.Common.{ℕ, ℤ, ◌<◌, ◌≤◌, ◌≡◌, List, [], ◌∷◌, ◌++◌, length, take, get_or, Vec, Global, Result, ap, ◌∙◌, sym, subst, arith}
use Rattle.rt_values.specs.declared.value.Value.{Value}
use Rattle.rt_groups.specs.declared.groups.Group.{Group as Listed}
use Rattle.rt_values.specs.Maps.{Map}
use Rattle.rt_groups.specs.GroupForest.{GroupForest, End, how_many}
use Rattle.rt_groups.specs.PreorderGroups.{preorder}
use Rattle.lang_ast.specs.Terms.{Stmt, Stmts, If, Func}
use Rattle.lang_ast.specs.SyntaxView.{expr_view, exprs_view, head_view, stmt_view, stmts_view, functions_view, function_view}
use Rattle.lang_ast.specs.Evaluation.{Bindings, new_binding, eval_all}
use Rattle.compose_model.specs.Composing.{forest_after, composed_block, bind, forest, meaning_at, meanings, run_all}
use Rattle.lang_ast.specs.declared.syntax.Ident.{Ident}
use Rattle.lang_ast.specs.declared.syntax.Parameter.{Parameter}
use Rattle.lang_ast.specs.declared.syntax.Function.{Function}
use Rattle.lang_ast.specs.declared.syntax.Expression.{Expression}
use Rattle.lang_ast.specs.declared.syntax.Statement.{Statement, Call as CallOf, If as IfOf, Block as BlockOf}
use Rattle.lang_ast.specs.declared.syntax.Head.{Head}
use Rattle.lang_ast.proofs.Functions.{how_many_functions, functions_at, functions_front}
use Rattle.lang_ast.proofs.Views.{view-Call, view-If, view-Block}
use Rattle.lang_meaning.specs.ComposesForest.{ComposesForest}
use Rattle.compose_model.specs.StatementForests.{statement_forest, body_forest, call_forest, loop_forest}
use Rattle.lang_meaning.specs.declared.composition.ScratchStop.{ScratchStop}
use Rattle.rt_groups.proofs.GroupForests.{how_many-preorder}
use Rattle.recompose_laws.proofs.Meanings.{meaning_found, meaning_none}

pub call_ran : {U : Type 0} (m : Map) (fs : List Function) (s : Statement) (env : Bindings) (at site : ℕ) (name : Ident)
    (function : ℕ) (arguments : Vec Expression Global) (slice : List Expression)
    (d : ℕ) (out out' : List Listed) (asked asked' mine mine' : List ℕ) (result : Result U ScratchStop)
    → s ≡ CallOf at site name function arguments → slice ≡ arguments.items →
    ComposesForest d (forest_after (eval_all m (exprs_view slice) env) (λ vs. call_forest m fs site function vs)) out
    out' asked asked' mine mine' result
    → ComposesForest d (statement_forest m fs (stmt_view s) env) out out' asked asked' mine mine' result
call_ran m fs s env at site name function arguments slice d out out' asked asked' mine mine' result is e1 h =
    subst (λ (t : GroupForest). ComposesForest d t out out' asked asked' mine mine' result)
    (sym (ap (λ (x : Statement). statement_forest m fs (stmt_view x) env) is
    ∙ ap (λ (t : Stmt). statement_forest m fs t env) (view-Call at site name function arguments)
    ∙ ap (λ (l : List Expression). forest_after (eval_all m (exprs_view l) env)
    (λ vs. call_forest m fs site function vs)) (sym e1))) h

pub choice_ran : {U : Type 0} (m : Map) (fs : List Function) (s : Statement) (env : Bindings) (at site : ℕ)
    (condition : Expression) (one two : Vec Statement Global) (front back : List Statement)
    (d : ℕ) (out out' : List Listed) (asked asked' mine mine' : List ℕ) (result : Result U ScratchStop)
    → s ≡ IfOf at site condition one two → front ≡ one.items → back ≡ two.items →
    ComposesForest d (statement_forest m fs (If 0 0 (expr_view condition) (stmts_view front) (stmts_view back)) env) out
    out' asked asked' mine mine' result
    → ComposesForest d (statement_forest m fs (stmt_view s) env) out out' asked asked' mine mine' result
choice_ran m fs s env at site condition one two front back d out out' asked asked' mine mine' result is e1 e2 h =
    subst (λ (t : GroupForest). ComposesForest d t out out' asked asked' mine mine' result)
    (sym (ap (λ (x : Statement). statement_forest m fs (stmt_view x) env) is
    ∙ ap (λ (t : Stmt). statement_forest m fs t env) (view-If at site condition one two)
    ∙ ap (λ (l : List Statement). statement_forest m fs
    (If 0 0 (expr_view condition) (stmts_view l) (stmts_view two.items)) env) (sym e1)
    ∙ ap (λ (l : List Statement). statement_forest m fs
    (If 0 0 (expr_view condition) (stmts_view front) (stmts_view l)) env) (sym e2))) h

pub block_ran : {U : Type 0} (m : Map) (fs : List Function) (s : Statement) (env : Bindings) (at site : ℕ)
    (head : Head) (body : Vec Statement Global) (slice : List Statement)
    (d : ℕ) (out out' : List Listed) (asked asked' mine mine' : List ℕ) (result : Result U ScratchStop)
    → s ≡ BlockOf at site head body → slice ≡ body.items →
    ComposesForest d (composed_block m site (head_view head) env (λ inner. body_forest m fs (stmts_view slice) inner)) out
    out' asked asked' mine mine' result
    → ComposesForest d (statement_forest m fs (stmt_view s) env) out out' asked asked' mine mine' result
block_ran m fs s env at site head body slice d out out' asked asked' mine mine' result is e1 h =
    subst (λ (t : GroupForest). ComposesForest d t out out' asked asked' mine mine' result)
    (sym (ap (λ (x : Statement). statement_forest m fs (stmt_view x) env) is
    ∙ ap (λ (t : Stmt). statement_forest m fs t env) (view-Block at site head body)
    ∙ ap (λ (l : List Statement). composed_block m site (head_view head) env
    (λ inner. body_forest m fs (stmts_view l) inner)) (sym e1))) h

-- Statements with equal variables in scope.

pub body_as : {U : Type 0} (m : Map) (fs : List Function) (body : Stmts) (env env' : Bindings)
    (d : ℕ) (out out' : List Listed) (asked asked' mine mine' : List ℕ) (result : Result U ScratchStop) → env ≡ env'
    → ComposesForest d (body_forest m fs body env) out out' asked asked' mine mine' result
    → ComposesForest d (body_forest m fs body env') out out' asked asked' mine mine' result
body_as m fs body env env' d out out' asked asked' mine mine' result e h =
    subst (λ (s : Bindings). ComposesForest d (body_forest m fs body s) out out' asked asked' mine mine' result) e h

pub bound_as : {U : Type 0} (m : Map) (fs : List Function) (body : Stmts) (name : List ℕ) (env env' : Bindings)
    (v v' : Value) (d : ℕ) (out out' : List Listed) (asked asked' mine mine' : List ℕ) (result : Result U ScratchStop)
    → env ≡ env' → v ≡ v' →
    ComposesForest d (body_forest m fs body (env ++ new_binding name v ∷ [])) out out' asked asked' mine mine' result
    → ComposesForest d (body_forest m fs body (env' ++ new_binding name v' ∷ [])) out out' asked asked' mine mine'
    result
bound_as m fs body name env env' v v' d out out' asked asked' mine mine' result e f h =
    body_as m fs body _ _ d out out' asked asked' mine mine' result
    (ap (λ (s : Bindings). s ++ new_binding name v ∷ []) e ∙ ap (λ (w : Value). env' ++ new_binding name w ∷ []) f) h

pub loop_as : {U : Type 0} (m : Map) (fs : List Function) (body : Stmts) (name : List ℕ) (env env' : Bindings)
    (is is' : List ℤ) (d : ℕ) (out out' : List Listed) (asked asked' mine mine' : List ℕ) (result : Result U ScratchStop)
    → env ≡ env' → is ≡ is' →
    ComposesForest d (loop_forest m fs name body env is) out out' asked asked' mine mine' result
    → ComposesForest d (loop_forest m fs name body env' is') out out' asked asked' mine mine' result
loop_as m fs body name env env' is is' d out out' asked asked' mine mine' result e f h =
    subst (λ (l : List ℤ). ComposesForest d (loop_forest m fs name body env' l) out out' asked asked' mine mine' result) f
    (subst (λ (s : Bindings). ComposesForest d (loop_forest m fs name body s is) out out' asked asked' mine mine' result)
    e h)

-- A call makes the forest of the body of its function, which sees only the earlier functions.

-- The forest inside a call.
abbrev pub inside_call : Map → List Function → ℕ → List Value → GroupForest
inside_call m fs j vs = meaning_at (meanings m (functions_view fs)) j vs

pub call_body : {U : Type 0} (m : Map) (fs : List Function) (j : ℕ) (vs : List Value) (f : Function)
    (slice : List Statement) (parameters : List Parameter) (env : Bindings)
    (d : ℕ) (out out' : List Listed) (asked asked' mine mine' : List ℕ) (result : Result U ScratchStop) → j < length fs
    → f ≡ get_or fs j f → slice ≡ f.body.items → parameters ≡ f.parameters.items → env ≡ bind parameters vs →
    ComposesForest d (body_forest m (take j fs) (stmts_view slice) env) out out' asked asked' mine mine' result
    → ComposesForest d (inside_call m fs j vs) out out' asked asked' mine mine' result
call_body m fs j vs f slice parameters env d out out' asked asked' mine mine' result below is body names named h =
    let found = meaning_found m (functions_view fs) j vs (function_view f) (let e = how_many_functions fs in
    omega (arith, e, below)) in
    let front = ap (λ (l : List Func). run_all m (meanings m l)
    (get_or (functions_view fs) j
    (function_view f)).body (bind (get_or (functions_view fs) j (function_view f)).parameters vs))
    (functions_front fs j) in
    let there = ap (λ (g : Func). run_all m (meanings m (functions_view (take j fs))) g.body (bind g.parameters vs))
    (functions_at fs j f below ∙ ap function_view (sym is)) in
    let inner = ap (λ (b : List Statement). run_all m (meanings m (functions_view (take j fs))) (stmts_view b)
    (bind f.parameters.items vs)) (sym body) in
    let scope = ap (λ (e : Bindings). run_all m (meanings m (functions_view (take j fs))) (stmts_view slice) e)
    (sym (named ∙ ap (λ (p : List Parameter). bind p vs) names)) in
    subst (λ (t : GroupForest). ComposesForest d t out out' asked asked' mine mine' result)
    (sym (found ∙ front ∙ there ∙ inner ∙ scope)) h

-- A call of a missing function makes nothing.
pub call_none : (m : Map) (fs : List Function) (j : ℕ) (vs : List Value) → length fs ≤ j → inside_call m fs j vs ≡ End
call_none m fs j vs past =
    meaning_none m (functions_view fs) j vs (let e = how_many_functions fs in omega (arith, e, past))

-- The forest of a program is that of the call of the root.
pub forest_ran : {U : Type 0} (m : Map) (fs : List Function) (root : ℕ) (vs : List Value) (out out' : List Listed)
    (asked asked' mine mine' : List ℕ) (result : Result U ScratchStop) → vs ≡ [] → out ≡ [] →
    ComposesForest 0 (call_forest m fs 0 root vs) out out' asked asked' mine mine' result
    → ComposesForest 0 (forest (functions_view fs) root m) [] out' asked asked' mine mine' result
forest_ran m fs root vs out out' asked asked' mine mine' result e f h =
    subst (λ (o : List Listed). ComposesForest 0 (forest (functions_view fs) root m) o out' asked asked' mine mine'
    result) f
    (subst (λ (ws : List Value). ComposesForest 0 (call_forest m fs 0 root ws) out out' asked asked' mine mine' result)
    e h)

-- The list of the groups of a forest has as many items as the forest has groups.
pub few : (t : GroupForest) (out : List Listed) (n : ℕ) → out ≡ preorder 0 t → length out ≤ n → how_many t ≤ n
few t out n e h = omega (arith, h, ap length e, how_many-preorder 0 t)

pub many : (t : GroupForest) (n : ℕ) → n < length (preorder 0 t) → n < how_many t
many t n h = omega (arith, h, how_many-preorder 0 t)
