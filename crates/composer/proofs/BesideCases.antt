-- A statement in memory, by its parts: the forest that is composed, and the calculations in it.
use Rattle.std.proofs.Common.{ℕ, List, ◌≡◌, Vec, Global, Result, ap, ◌∙◌, sym, subst}
use Rattle.rt_values.specs.Maps.{Map}
use Rattle.rt_groups.specs.GroupForest.{GroupForest}
use Rattle.rt_groups.specs.Paths.{GroupKey}
use Rattle.lang_ast.specs.Terms.{Stmt, Stmts, If, Block}
use Rattle.lang_ast.specs.Terms as terms
use Rattle.lang_ast.specs.Programs.{statements_in}
use Rattle.lang_ast.specs.SyntaxView.{expr_view, exprs_view, head_view, stmt_view, stmts_view}
use Rattle.lang_ast.specs.Evaluation.{Bindings, eval_all}
use Rattle.compose_model.specs.Composing.{forest_after, composed_block}
use Rattle.lang_ast.specs.declared.syntax.Ident.{Ident}
use Rattle.lang_ast.specs.declared.syntax.Head.{Head}
use Rattle.lang_ast.specs.declared.syntax.Function.{Function}
use Rattle.lang_ast.specs.declared.syntax.Expression.{Expression}
use Rattle.lang_ast.specs.declared.syntax.Statement.{Statement, Call as CallOf, If as IfOf, Block as BlockOf}
use Rattle.lang_ast.proofs.Views.{view-Call, view-If, view-Block}
use Rattle.lang_ast.proofs.Statements.{each_apart}
use Rattle.compose_model.specs.StatementForests.{statement_forest, body_forest, call_forest}
use Rattle.composer.specs.declared.stop.ComposeStop.{ComposeStop}
use Rattle.composer.specs.declared.pending.Pending.{Pending}
use Rattle.recompose_laws.specs.CalculatedCells.{Calculation, Calculates, StmtCalculates, StmtsCalculate}
use Rattle.composer.specs.ComposerState.{ComposerState}
use Rattle.composer.specs.Recomposes.{ComposesBeside}
use Rattle.composer.specs.EntersBlock.{HeadCalculates}

pub call_beside : {U : Type 0} (m : Map) (fs : List Function) (s : Statement) (env : Bindings) (at site : ℕ)
    (name : Ident) (function : ℕ) (arguments : Vec Expression Global) (slice : List Expression)
    (owed : List ℕ) (old : GroupForest) (d : ℕ) (seen : List GroupKey) (q q' : ComposerState) (left : Pending)
    (result : Result U ComposeStop) → s ≡ CallOf at site name function arguments → slice ≡ arguments.items →
    ComposesBeside owed old d seen
    (forest_after (eval_all m (exprs_view slice) env) (λ vs. call_forest m fs site function vs)) q q' left result
    → ComposesBeside owed old d seen (statement_forest m fs (stmt_view s) env) q q' left result
call_beside m fs s env at site name function arguments slice owed old d seen q q' left result is e1 h =
    subst (λ (t : GroupForest). ComposesBeside owed old d seen t q q' left result)
    (sym (ap (λ (x : Statement). statement_forest m fs (stmt_view x) env) is
    ∙ ap (λ (t : Stmt). statement_forest m fs t env) (view-Call at site name function arguments)
    ∙ ap (λ (l : List Expression). forest_after (eval_all m (exprs_view l) env)
    (λ vs. call_forest m fs site function vs)) (sym e1))) h

pub choice_beside : {U : Type 0} (m : Map) (fs : List Function) (s : Statement) (env : Bindings) (at site : ℕ)
    (condition : Expression) (one two : Vec Statement Global) (front back : List Statement)
    (owed : List ℕ) (old : GroupForest) (d : ℕ) (seen : List GroupKey) (q q' : ComposerState) (left : Pending)
    (result : Result U ComposeStop) → s ≡ IfOf at site condition one two → front ≡ one.items → back ≡ two.items →
    ComposesBeside owed old d seen
    (statement_forest m fs (If 0 0 (expr_view condition) (stmts_view front) (stmts_view back)) env) q q' left result
    → ComposesBeside owed old d seen (statement_forest m fs (stmt_view s) env) q q' left result
choice_beside m fs s env at site condition one two front back owed old d seen q q' left result is e1 e2 h =
    subst (λ (t : GroupForest). ComposesBeside owed old d seen t q q' left result)
    (sym (ap (λ (x : Statement). statement_forest m fs (stmt_view x) env) is
    ∙ ap (λ (t : Stmt). statement_forest m fs t env) (view-If at site condition one two)
    ∙ ap (λ (l : List Statement). statement_forest m fs
    (If 0 0 (expr_view condition) (stmts_view l) (stmts_view two.items)) env) (sym e1)
    ∙ ap (λ (l : List Statement). statement_forest m fs
    (If 0 0 (expr_view condition) (stmts_view front) (stmts_view l)) env) (sym e2))) h

pub block_beside : {U : Type 0} (m : Map) (fs : List Function) (s : Statement) (env : Bindings) (at site : ℕ)
    (head : Head) (body : Vec Statement Global) (slice : List Statement)
    (owed : List ℕ) (old : GroupForest) (d : ℕ) (seen : List GroupKey) (q q' : ComposerState) (left : Pending)
    (result : Result U ComposeStop) → s ≡ BlockOf at site head body → slice ≡ body.items →
    ComposesBeside owed old d seen
    (composed_block m site (head_view head) env (λ inner. body_forest m fs (stmts_view slice) inner)) q q' left result
    → ComposesBeside owed old d seen (statement_forest m fs (stmt_view s) env) q q' left result
block_beside m fs s env at site head body slice owed old d seen q q' left result is e1 h =
    subst (λ (t : GroupForest). ComposesBeside owed old d seen t q q' left result)
    (sym (ap (λ (x : Statement). statement_forest m fs (stmt_view x) env) is
    ∙ ap (λ (t : Stmt). statement_forest m fs t env) (view-Block at site head body)
    ∙ ap (λ (l : List Statement). composed_block m site (head_view head) env
    (λ inner. body_forest m fs (stmts_view l) inner)) (sym e1))) h

-- The calculations in a statement, by its parts.

-- The calculations of the two lists of statements of an `if`.
branches_calculate : (calc : Calculation) (s : Statement) (at site : ℕ) (condition : Expression)
    (one two : Vec Statement Global) → s ≡ IfOf at site condition one two → StmtCalculates calc (stmt_view s)
    → StmtsCalculate calc (stmts_view one.items) × StmtsCalculate calc (stmts_view two.items)
branches_calculate calc s at site condition one two is h =
    each_apart (Calculates calc) (statements_in (stmts_view one.items)) (statements_in (stmts_view two.items))
    (subst (λ (t : Stmt). StmtCalculates calc t) (ap stmt_view is ∙ view-If at site condition one two) h).1

pub then_calculates : (calc : Calculation) (s : Statement) (at site : ℕ) (condition : Expression)
    (one two : Vec Statement Global) (slice : List Statement) → s ≡ IfOf at site condition one two → slice ≡ one.items →
    StmtCalculates calc (stmt_view s) → StmtsCalculate calc (stmts_view slice)
then_calculates calc s at site condition one two slice is e h =
    subst (λ (l : List Statement). StmtsCalculate calc (stmts_view l)) (sym e)
    (branches_calculate calc s at site condition one two is h).0

pub else_calculates : (calc : Calculation) (s : Statement) (at site : ℕ) (condition : Expression)
    (one two : Vec Statement Global) (slice : List Statement) → s ≡ IfOf at site condition one two → slice ≡ two.items →
    StmtCalculates calc (stmt_view s) → StmtsCalculate calc (stmts_view slice)
else_calculates calc s at site condition one two slice is e h =
    subst (λ (l : List Statement). StmtsCalculate calc (stmts_view l)) (sym e)
    (branches_calculate calc s at site condition one two is h).1

-- The calculation of a head does not depend on the statements that it governs.
head_alone : (calc : Calculation) (at site : ℕ) (head : terms.Head) (body : Stmts)
    → Calculates calc (Block at site head body) → HeadCalculates calc site head
head_alone calc at site (terms.Remember name keys e) body h = h
head_alone calc at site (terms.Node kind attributes) body h = tt
head_alone calc at site (terms.Key key) body h = tt
head_alone calc at site (terms.For name list) body h = tt
head_alone calc at site (terms.Let name e) body h = tt

-- The calculations of the head and of the body of a block.
pub block_calculates : (calc : Calculation) (s : Statement) (at site : ℕ) (head : Head) (body : Vec Statement Global)
    (slice : List Statement) → s ≡ BlockOf at site head body → slice ≡ body.items →
    StmtCalculates calc (stmt_view s)
    → HeadCalculates calc site (head_view head) × StmtsCalculate calc (stmts_view slice)
block_calculates calc s at site head body slice is e h =
    let both = subst (λ (t : Stmt). StmtCalculates calc t) (ap stmt_view is ∙ view-Block at site head body) h in (
      head_alone calc at site (head_view head) (stmts_view body.items) both.0,
      subst (λ (l : List Statement). StmtsCalculate calc (stmts_view l)) (sym e) both.1,
    )
