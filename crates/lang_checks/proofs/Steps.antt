-- The faults of one part, and then of those after it.
use Rattle.std.proofs.Common.{◌≡◌, ℕ, ◌+◌, ◌<◌, max, leb, length, drop, get_or, List, [], ◌∷◌, ◌++◌, Option, sym, ap, ◌∙◌, append_assoc}
use Rattle.lang_ast.specs.Terms.{Exprs, Stmts, Named, Func}
use Rattle.lang_ast.specs.SyntaxView.{expr_view, exprs_view, stmt_view, stmts_view, named_view, nameds_view, function_view, functions_view}
use Rattle.lang_ast.specs.declared.program.State.{State}
use Rattle.lang_ast.specs.declared.syntax.Expression.{Expression}
use Rattle.lang_ast.specs.declared.syntax.Statement.{Statement}
use Rattle.lang_ast.specs.declared.syntax.Function.{Function}
use Rattle.lang_ast.specs.declared.syntax.Named as named
use Rattle.lang_checks.specs.declared.environment.TypedName.{TypedName}
use Rattle.lang_checks.specs.declared.faults.CheckKind.TheVariants as kind
use Rattle.lang_checks.specs.declared.faults.ProgramFault.{ProgramFault}
use Rattle.lang_checks.specs.FaultOrder.{least_fault_from, fault_unless}
use Rattle.lang_checks.specs.Scopes.{typed_name}
use Rattle.lang_checks.specs.Expressions.{ExpressionScope, type, types_of, expr_faults, exprs_faults, values_faults, typed_names}
use Rattle.lang_checks.specs.Statements.{StatementContext, stmt_faults, stmts_faults}
use Rattle.lang_checks.specs.Chains.{longest, longest_in}
use Rattle.lang_checks.specs.CappedChains.{capped_chain, capped_faults}
use Rattle.lang_checks.specs.ProgramFaults.{function_faults, functions_faults}
use Rattle.lang_checks.proofs.Rows.{exprs_drop, stmts_drop, nameds_drop, functions_drop}
use Rattle.lang_checks.proofs.Least.{least_append}

pub types_step : (l : ExpressionScope) (es : List Expression) (i : ℕ) (e : Expression) → i < length es
    → e ≡ get_or es i e →
    types_of l (exprs_view (drop i es)) ≡ type l (expr_view e) ∷ types_of l (exprs_view (drop (i + 1) es))
types_step l es i e h is = ap (types_of l) (exprs_drop es i e h is)

pub expressions_step : (l : ExpressionScope) (es : List Expression) (i : ℕ) (e : Expression) (o : Option ProgramFault)
    → i < length es → e ≡ get_or es i e →
    least_fault_from o (exprs_faults l (exprs_view (drop i es)))
    ≡ least_fault_from (least_fault_from o (expr_faults l (expr_view e)))
    (exprs_faults l (exprs_view (drop (i + 1) es)))
expressions_step l es i e o h is =
    ap (λ (x : Exprs). least_fault_from o (exprs_faults l x)) (exprs_drop es i e h is)
    ∙ least_append o (expr_faults l (expr_view e)) (exprs_faults l (exprs_view (drop (i + 1) es)))

pub bounds_step : (l : ExpressionScope) (ns : List named.Named) (i : ℕ) (n : named.Named) → i < length ns
    → n ≡ get_or ns i n →
    typed_names l (nameds_view (drop i ns))
    ≡ typed_name n.name (type l (named_view n).value) ∷ typed_names l (nameds_view (drop (i + 1) ns))
bounds_step l ns i n h is = ap (typed_names l) (nameds_drop ns i n h is)

pub values_step : (l : ExpressionScope) (ns : List named.Named) (i : ℕ) (n : named.Named) (o : Option ProgramFault)
    → i < length ns → n ≡ get_or ns i n →
    least_fault_from o (values_faults l (nameds_view (drop i ns)))
    ≡ least_fault_from (least_fault_from o (expr_faults l (named_view n).value))
    (values_faults l (nameds_view (drop (i + 1) ns)))
values_step l ns i n o h is =
    ap (λ (x : List Named). least_fault_from o (values_faults l x)) (nameds_drop ns i n h is)
    ∙ least_append o (expr_faults l (named_view n).value) (values_faults l (nameds_view (drop (i + 1) ns)))

pub statements_step : (p : StatementContext) (scope : List TypedName) (ss : List Statement) (i : ℕ) (s : Statement)
    (o : Option ProgramFault) → i < length ss → s ≡ get_or ss i s →
    least_fault_from o (stmts_faults p scope (stmts_view (drop i ss)))
    ≡ least_fault_from (least_fault_from o (stmt_faults p scope (stmt_view s)))
    (stmts_faults p scope (stmts_view (drop (i + 1) ss)))
statements_step p scope ss i s o h is =
    ap (λ (x : Stmts). least_fault_from o (stmts_faults p scope x)) (stmts_drop ss i s h is)
    ∙ least_append o (stmt_faults p scope (stmt_view s)) (stmts_faults p scope (stmts_view (drop (i + 1) ss)))

pub longest_step : (chains : List ℕ) (ss : List Statement) (i : ℕ) (s : Statement) → i < length ss → s ≡ get_or ss i s →
    longest_in chains (stmts_view (drop i ss))
    ≡ max (longest chains (stmt_view s)) (longest_in chains (stmts_view (drop (i + 1) ss)))
longest_step chains ss i s h is = ap (longest_in chains) (stmts_drop ss i s h is)

pub chains_step : (chains : List ℕ) (fs : List Function) (i : ℕ) (f : Function) (o : Option ProgramFault)
    → i < length fs → f ≡ get_or fs i f →
    least_fault_from o (capped_faults chains (functions_view (drop i fs)))
    ≡ least_fault_from (least_fault_from o
    (fault_unless (leb (capped_chain chains (function_view f)) 32) kind.Order f.at))
    (capped_faults (chains ++ capped_chain chains (function_view f) ∷ []) (functions_view (drop (i + 1) fs)))
chains_step chains fs i f o h is =
    ap (λ (x : List Func). least_fault_from o (capped_faults chains x)) (functions_drop fs i f h is)
    ∙ least_append o (fault_unless (leb (capped_chain chains (function_view f)) 32) kind.Order f.at)
    (capped_faults (chains ++ capped_chain chains (function_view f) ∷ []) (functions_view (drop (i + 1) fs)))

pub functions_step : (states : List State) (all : List Func) (fs : List Function) (i : ℕ) (f : Function)
    (o : Option ProgramFault) → i < length fs → f ≡ get_or fs i f →
    least_fault_from o (functions_faults states all i (functions_view (drop i fs)))
    ≡ least_fault_from (least_fault_from o (function_faults states all i (function_view f)))
    (functions_faults states all (i + 1) (functions_view (drop (i + 1) fs)))
functions_step states all fs i f o h is =
    ap (λ (x : List Func). least_fault_from o (functions_faults states all i x)) (functions_drop fs i f h is)
    ∙ least_append o (function_faults states all i (function_view f))
    (functions_faults states all (i + 1) (functions_view (drop (i + 1) fs)))

-- An item moves from those to come to those that were seen.
pub one_more : {A : Type 0} (xs extended_chain behind less all : List A) (x : A) → extended_chain ≡ xs ++ x ∷ []
    → behind ≡ x ∷ less → xs ++ behind ≡ all → extended_chain ++ less ≡ all
one_more xs extended_chain behind less all x now is was =
    ap (λ ys. ys ++ less) now ∙ append_assoc xs (x ∷ []) less ∙ ap (λ ys. xs ++ ys) (sym is) ∙ was
