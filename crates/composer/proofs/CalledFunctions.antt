-- The functions at hand, their bodies and their calculations.
use Rattle.std.proofs.Common.{ℕ, zero, suc, ◌<◌, ◌≤◌, List, [], ◌∷◌, ◌≡◌, refl, ap, ◌∙◌, sym, subst, length, take, get_or, arith}
use Rattle.rt_values.specs.declared.value.Value.{Value}
use Rattle.rt_values.specs.Maps.{Map}
use Rattle.rt_groups.specs.GroupForest.{End}
use Rattle.lang_ast.specs.Terms.{Func}
use Rattle.lang_ast.specs.SyntaxView.{function_view, functions_view, stmt_view, stmts_view}
use Rattle.lang_ast.specs.Evaluation.{Bindings}
use Rattle.lang_ast.specs.declared.syntax.Parameter.{Parameter}
use Rattle.lang_ast.specs.declared.syntax.Function.{Function}
use Rattle.lang_ast.specs.declared.syntax.Statement.{Statement}
use Rattle.compose_model.specs.Composing.{bind, run_all, meaning_at, meanings}
use Rattle.compose_model.specs.StatementForests.{body_forest}
use Rattle.recompose_laws.proofs.Meanings.{meaning_found, meaning_none}
use Rattle.recompose_laws.specs.CalculatedCells.{Calculation, Calculates, StmtCalculates, StmtsCalculate, FunctionsCalculate}
use Rattle.composer.specs.BesideContracts.{LastComposition, IsSince}
use Rattle.composer.proofs.OldParts.{since_front, since_calculates}
use Rattle.lang_ast.specs.Programs.{statement_with_inner, statements_in, functions_statements}
use Rattle.lang_ast.proofs.Statements.{each_apart}
use Rattle.lang_ast.proofs.Functions.{functions_front, functions_at}

-- The functions of a program in memory and in their view.

pub slice_is : (fs slice : List Function) (n : ℕ) → slice ≡ take n fs
    → functions_view slice ≡ take n (functions_view fs)
slice_is fs slice n e = ap functions_view e ∙ sym (functions_front fs n)

pub how_many_functions : (fs : List Function) → length (functions_view fs) ≡ length fs
how_many_functions [] = refl
how_many_functions (f ∷ fs) = ap suc (how_many_functions fs)

pub since_slice : {l : LastComposition} (fs slice : List Function) (n : ℕ) → slice ≡ take n fs
    → IsSince l (functions_view fs) → IsSince l (functions_view slice)
since_slice {l = l} fs slice n e s =
    subst (λ (gs : List Func). IsSince l gs) (functions_front fs n ∙ ap functions_view (sym e)) (since_front n s)

-- The calculations of statements.

pub statement_calculates : (calc : Calculation) (body : List Statement) (i : ℕ) (s : Statement) → i < length body
    → s ≡ get_or body i s → StmtsCalculate calc (stmts_view body) → StmtCalculates calc (stmt_view s)
statement_calculates calc [] i s below is h = absurd (omega (arith, below))
statement_calculates calc (x ∷ body) zero s below is h =
    subst (λ (y : Statement). StmtCalculates calc (stmt_view y)) (sym is)
    (each_apart (Calculates calc) (statement_with_inner (stmt_view x)) (statements_in (stmts_view body)) h).0
statement_calculates calc (x ∷ body) (suc i) s below is h =
    statement_calculates calc body i s (omega (arith, below)) is
    (each_apart (Calculates calc) (statement_with_inner (stmt_view x)) (statements_in (stmts_view body)) h).1

function_calculates : (calc : Calculation) (fs : List Function) (j : ℕ) (f : Function) → j < length fs
    → FunctionsCalculate calc (functions_view fs) → StmtsCalculate calc (stmts_view (get_or fs j f).body.items)
function_calculates calc [] j f below h = absurd (omega (arith, below))
function_calculates calc (g ∷ fs) zero f below h =
    (each_apart (Calculates calc) (statements_in (stmts_view g.body.items)) (functions_statements (functions_view fs)) h).0
function_calculates calc (g ∷ fs) (suc j) f below h =
    function_calculates calc fs j f (omega (arith, below))
    (each_apart (Calculates calc) (statements_in (stmts_view g.body.items)) (functions_statements (functions_view fs)) h).1

-- The calculations of the body of a function at hand.
pub body_calculates : {l : LastComposition} (fs : List Function) (j : ℕ) (f : Function) (slice : List Statement)
    → IsSince l (functions_view fs) → j < length fs → f ≡ get_or fs j f → slice ≡ f.body.items
    → StmtsCalculate l.calculation (stmts_view slice)
body_calculates {l = l} fs j f slice s below is body =
    subst (λ (b : List Statement). StmtsCalculate l.calculation (stmts_view b))
    (sym (body ∙ ap (λ (g : Function). g.body.items) is))
    (function_calculates l.calculation fs j f below (since_calculates s))

-- A call makes the forest of the body of its function, which sees only the earlier functions.
pub body_is : (m : Map) (fs : List Function) (j : ℕ) (vs : List Value) (f : Function) (slice : List Statement)
    (parameters : List Parameter) (env : Bindings) →
    j < length fs → f ≡ get_or fs j f → slice ≡ f.body.items → parameters ≡ f.parameters.items
    → env ≡ bind parameters vs →
    meaning_at (meanings m (functions_view fs)) j vs ≡ body_forest m (take j fs) (stmts_view slice) env
body_is m fs j vs f slice parameters env below is body names named =
    let found = meaning_found m (functions_view fs) j vs (function_view f) (let e = how_many_functions fs in
    omega (arith, e, below)) in
    let front = ap (λ (l : List Func). run_all m (meanings m l)
    (get_or (functions_view fs) j
    (function_view f)).body (bind (get_or (functions_view fs) j (function_view f)).parameters vs))
    (functions_front fs j) in
    let there = ap (λ (g : Func). run_all m (meanings m (functions_view (take j fs))) g.body (bind g.parameters vs))
    (functions_at fs j f below ∙ ap function_view (sym is)) in
    let inner = ap (λ (b : List Statement). run_all m (meanings m (functions_view (take j fs))) (stmts_view b)
    (bind f.parameters.items vs)) (sym body) in
    let scope = ap (λ (e : Bindings). run_all m (meanings m (functions_view (take j fs))) (stmts_view slice) e)
    (sym (named ∙ ap (λ (p : List Parameter). bind p vs) names)) in
    found ∙ front ∙ there ∙ inner ∙ scope

-- A call of a missing function makes nothing.
pub body_none : (m : Map) (fs : List Function) (j : ℕ) (vs : List Value) → length fs ≤ j
    → meaning_at (meanings m (functions_view fs)) j vs ≡ End
body_none m fs j vs past_end =
    meaning_none m (functions_view fs) j vs (let e = how_many_functions fs in omega (arith, e, past_end))
