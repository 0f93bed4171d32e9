-- The calculations of a checked program follow from their sites.
use Rattle.std.proofs.Common.{arith, ◌≡◌, true≢false, List, [], true, false, Option, Some, refl, sym, ap, ◌∙◌, not}
use Rattle.std.proofs.lemmas.Bool.{or_from as both_false}
use Rattle.lang_ast.specs.Terms.{Expr, Literal, Variable, Get, Apply, Exprs, none, more, Remember, Stmt, Block, Func}
use Rattle.lang_ast.specs.Programs.{site_of, functions_statements, statement_at}
use Rattle.lang_ast.specs.declared.program.State.{State}
use Rattle.lang_ast.proofs.Limits.{none_in}
use Rattle.lang_ast.proofs.Statements.{each_of_both}
use Rattle.lang_checks.specs.Expressions.{ExpressionScope, expr_faults, exprs_faults}
use Rattle.lang_checks.specs.Statements.{inside}
use Rattle.lang_checks.proofs.RisingSites.{counts_rise, each_is_found}
use Rattle.lang_checks.proofs.Fine.{held}
use Rattle.recompose_laws.specs.Skipping.{has_get, have_get}
use Rattle.checked_laws.specs.CheckedPrograms.{calculation, calculation_of, CalculationsAreBySite}
use Rattle.recompose_laws.specs.CalculatedCells.{Calculates}
use Rattle.recompose_laws.proofs.CalculatedCells.{pure_calculations_are_by_site}
use Rattle.checked_laws.proofs.Parts.{parts, context, IsFineIn, functions_are_fine, bodies}

-- A calculation without faults has no `get`.

mutual
  no_get : (l : ExpressionScope) (e : Expr) → l.calculating ≡ true → expr_faults l e ≡ [] → has_get e ≡ false
  no_get l (Literal at v) calculating h = refl
  no_get l (Variable name) calculating h = refl
  no_get l (Get at name source) calculating h =
      let free : not l.calculating ≡ true = held _ _ _ (none_in _ _ h).1 in
      absurd (true≢false (sym free ∙ ap not calculating))
  no_get l (Apply at op es) calculating h = no_gets l es calculating (none_in _ _ h).0

  no_gets : (l : ExpressionScope) (es : Exprs) → l.calculating ≡ true → exprs_faults l es ≡ [] → have_get es ≡ false
  no_gets l none calculating h = refl
  no_gets l (more e es) calculating h =
      let both = none_in _ _ h in
      both_false (has_get e) (have_get es) (no_get l e calculating both.0) (no_gets l es calculating both.1)

-- The calculation that a look-up finds at the site of a `remember` has the values of its calculation.
calculates : (states : List State) (functions : List Func) (all : List Stmt) (s : Stmt) → IsFineIn states functions s
    → statement_at (site_of s) all ≡ Some s → Calculates (λ site vs. calculation (statement_at site all) vs) s
calculates states functions all (Block at site (Remember name keys value) body) fine found =
    let p = context states functions fine.0 in
    let whole = Block at site (Remember name keys value) body in
    let rest = (none_in _ _ (parts p fine.1.scope whole fine.1.none).0).1 in
    pure_calculations_are_by_site (λ at vs. calculation (statement_at at all) vs) site keys value
    (no_get (inside states fine.1.scope keys) value refl (none_in _ _ (none_in _ _ rest).1).0)
    (λ vs. ap (λ (o : Option Stmt). calculation o vs) found)
calculates states functions all _ fine found = tt

pub calculations_are_by_site : CalculationsAreBySite
calculations_are_by_site p h e =
    let all = functions_statements p.functions in
    each_of_both (IsFineIn p.states p.functions) (λ s. statement_at (site_of s) all ≡ Some s)
    (Calculates (calculation_of p.functions)) all (calculates p.states p.functions all)
    (functions_are_fine p.states p.functions 0 p.functions (bodies p e))
    (each_is_found 0 all (counts_rise 0 1 _ (omega arith) h.sites))
