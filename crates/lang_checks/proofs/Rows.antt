-- Expressions, statements and functions in memory, in order.
use Rattle.std.proofs.Common.{◌≡◌, ℕ, ◌+◌, ◌<◌, List, [], ◌∷◌, ◌++◌, length, get_or, take, drop, refl, ap}
use Rattle.lang_ast.proofs.Lists.{drop_item}
use Rattle.lang_ast.specs.Terms.{more, next}
use Rattle.lang_ast.specs.SyntaxView.{expr_view, exprs_view, named_view, nameds_view, stmt_view, stmts_view, function_view, functions_view}
use Rattle.lang_ast.specs.declared.syntax.Expression.{Expression}
use Rattle.lang_ast.specs.declared.syntax.Statement.{Statement}
use Rattle.lang_ast.specs.declared.syntax.Named.{Named}
use Rattle.lang_ast.specs.declared.syntax.Function.{Function}

pub exprs_drop : (es : List Expression) (i : ℕ) (e : Expression) → i < length es → e ≡ get_or es i e
    → exprs_view (drop i es) ≡ more (expr_view e) (exprs_view (drop (i + 1) es))
exprs_drop es i e h is = ap exprs_view (drop_item es i e h is)

pub stmts_drop : (ss : List Statement) (i : ℕ) (s : Statement) → i < length ss → s ≡ get_or ss i s
    → stmts_view (drop i ss) ≡ next (stmt_view s) (stmts_view (drop (i + 1) ss))
stmts_drop ss i s h is = ap stmts_view (drop_item ss i s h is)

pub nameds_drop : (ns : List Named) (i : ℕ) (n : Named) → i < length ns → n ≡ get_or ns i n
    → nameds_view (drop i ns) ≡ named_view n ∷ nameds_view (drop (i + 1) ns)
nameds_drop ns i n h is = ap nameds_view (drop_item ns i n h is)

pub functions_drop : (fs : List Function) (i : ℕ) (f : Function) → i < length fs → f ≡ get_or fs i f
    → functions_view (drop i fs) ≡ function_view f ∷ functions_view (drop (i + 1) fs)
functions_drop fs i f h is = ap functions_view (drop_item fs i f h is)

pub take_first : {A : Type 0} (xs ys : List A) → take (length xs) (xs ++ ys) ≡ xs
take_first [] ys = refl
take_first (x ∷ xs) ys = ap (λ l. x ∷ l) (take_first xs ys)
