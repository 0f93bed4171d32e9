-- Expressions whose parts are all numbers or truth values.
use Rattle.std.proofs.Common.{◌≡◌, ◌<◌, ℕ, zero, suc, List, [], ◌∷◌, length, get_or, Bool, true, false, ◌&&◌, ap, ◌∙◌, refl, arith}
use Rattle.rt_values.specs.Maps.{Map}
use Rattle.lang_ast.specs.Evaluation.{Bindings}
use Rattle.lang_ast.specs.Terms.{Exprs}
use Rattle.lang_ast.specs.SyntaxView.{expr_view, exprs_view}
use Rattle.lang_ast.specs.declared.syntax.Expression.{Expression}
use Rattle.lang_eval.specs.Flatness.{is_flat_expr, are_flat, is_flat_nth}

pub both_first : (a b : Bool) → (a && b) ≡ true → a ≡ true
both_first true b e = refl
both_first false b e = e

pub both_second : (a b : Bool) → (a && b) ≡ true → b ≡ true
both_second true b e = e
both_second false b e = cc

-- A member of flat expressions is flat.
pub flat_at : (m : Map) (es : List Expression) (i : ℕ) (e : Expression) (env : Bindings) → i < length es
    → e ≡ get_or es i e → are_flat m (exprs_view es) env ≡ true → is_flat_expr m (expr_view e) env ≡ true
flat_at m [] i e env below is flat = absurd (omega arith)
flat_at m (x ∷ es) zero e env below is flat = ap (λ (y : Expression). is_flat_expr m (expr_view y) env) is
    ∙ both_first (is_flat_expr m (expr_view x) env) (are_flat m (exprs_view es) env) flat
flat_at m (x ∷ es) (suc i) e env below is flat = flat_at m es i e env (omega arith) is
    (both_second (is_flat_expr m (expr_view x) env) (are_flat m (exprs_view es) env) flat)

-- The operand at an index of flat operands is flat.
pub flat_nth : (m : Map) (es : Exprs) (n : ℕ) (env : Bindings) → are_flat m es env ≡ true
    → is_flat_nth m es n env ≡ true
flat_nth m Exprs.none n env flat = refl
flat_nth m (Exprs.more e es) zero env flat = both_first (is_flat_expr m e env) (are_flat m es env) flat
flat_nth m (Exprs.more e es) (suc n) env flat =
    flat_nth m es n env (both_second (is_flat_expr m e env) (are_flat m es env) flat)

-- The expression that a lookup found is flat where the lookup says so.
pub nth_flat : (m : Map) (es : List Expression) (n : ℕ) (e : Expression) (env : Bindings) → n < length es
    → e ≡ get_or es n e → is_flat_nth m (exprs_view es) n env ≡ true → is_flat_expr m (expr_view e) env ≡ true
nth_flat m [] n e env below is flat = absurd (omega arith)
nth_flat m (x ∷ es) zero e env below is flat = ap (λ (y : Expression). is_flat_expr m (expr_view y) env) is ∙ flat
nth_flat m (x ∷ es) (suc n) e env below is flat = nth_flat m es n e env (omega arith) is flat
