-- The forests of loops and of lists of statements, step by step.
use Rattle.std.proofs.Common.{ℕ, ℤ, pos, suc, ◌+◌, ◌<◌, ◌≤◌, List, ◌≡◌, ap, ◌∙◌, sym, length, drop, get_or, drop-cons, arith}
use Rattle.std.proofs.lemmas.List.{drop_all}
use Rattle.rt_values.specs.Maps.{Map}
use Rattle.rt_groups.specs.GroupForest.{GroupForest, End, joined_forest}
use Rattle.lang_ast.specs.SyntaxView.{stmt_view, stmts_view}
use Rattle.lang_ast.specs.Evaluation.{Bindings}
use Rattle.lang_ast.specs.declared.syntax.Function.{Function}
use Rattle.lang_ast.specs.declared.syntax.Statement.{Statement}
use Rattle.compose_model.specs.Composing.{turns}
use Rattle.compose_model.specs.StatementForests.{statement_forest, body_forest}

-- The turns from index i on are the one at i and the later ones.
pub turns_at : (go : ℤ → GroupForest) (is : List ℤ) (i : ℕ) → i < length is
    → turns go (drop i is) ≡ joined_forest (go (get_or is i (pos 0))) (turns go (drop (i + 1) is))
unfolding turns
turns_at go is i below = ap (λ (l : List ℤ). turns go l) (drop-cons is i (pos 0) below)
    ∙ ap (λ (n : ℕ). joined_forest (go (get_or is i (pos 0))) (turns go (drop n is)))
    (let e : suc i ≡ i + 1 = omega arith in e)

pub turns_end : (go : ℤ → GroupForest) (is : List ℤ) (i : ℕ) → length is ≤ i → turns go (drop i is) ≡ End
unfolding turns
turns_end go is i past = ap (λ (l : List ℤ). turns go l) (drop_all i is past)

-- The statements from index i on are the one at i and the later ones.
pub all_at : (m : Map) (fs : List Function) (body : List Statement) (i : ℕ) (s : Statement) (env : Bindings)
    → i < length body → s ≡ get_or body i s →
    body_forest m fs (stmts_view (drop i body)) env
    ≡ joined_forest (statement_forest m fs (stmt_view s) env)
    (body_forest m fs (stmts_view (drop (i + 1) body)) env)
all_at m fs body i s env below is =
    ap (λ (l : List Statement). body_forest m fs (stmts_view l) env) (drop-cons body i s below)
    ∙ ap (λ (x : Statement). joined_forest (statement_forest m fs (stmt_view x) env)
    (body_forest m fs (stmts_view (drop (suc i) body)) env)) (sym is)
    ∙ ap (λ (n : ℕ). joined_forest (statement_forest m fs (stmt_view s) env)
    (body_forest m fs (stmts_view (drop n body)) env)) (let e : suc i ≡ i + 1 = omega arith in e)

pub all_end : (m : Map) (fs : List Function) (body : List Statement) (i : ℕ) (env : Bindings) → length body ≤ i
    → body_forest m fs (stmts_view (drop i body)) env ≡ End
all_end m fs body i env past = ap (λ (l : List Statement). body_forest m fs (stmts_view l) env) (drop_all i body past)
