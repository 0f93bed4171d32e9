-- An expression without a `Get` reads nothing.
use Rattle.std.proofs.Common.{ℕ, zero, suc, List, [], ◌∷◌, ◌++◌, ◌≡◌, refl, ap, ◌∙◌, sym, subst, Bool, true, false, if◌then◌else◌}
use Rattle.std.proofs.lemmas.Bool.{or_parts}
use Rattle.rt_values.specs.Maps.{Map}
use Rattle.lang_ast.specs.Terms.{Expr, Literal, Variable, Get, Apply, Exprs, none, more}
use Rattle.lang_ast.specs.ResultsWithReads.{Reading, mapped_reading, with}
use Rattle.lang_ast.specs.Evaluation.{Bindings, apply, is_pick, operand_taken, eval, eval_all, eval_nth}
use Rattle.recompose_laws.specs.Skipping.{Agree, has_get, have_get, CellsMayBeKept}
use Rattle.recompose_laws.proofs.Agreeing.{eval_agree}

with_none : {A B : Type 0} (r : Reading A) (go : A → Reading B) → r.reads ≡ [] → ((a : A) → (go a).reads ≡ [])
    → (with r go).reads ≡ []
with_none r go e f = ap (λ l. l ++ (go r.value).reads) e ∙ f r.value

choice_none : {A : Type 0} (c : Bool) (x y : Reading A) → x.reads ≡ [] → y.reads ≡ [] → (if c then x else y).reads ≡ []
choice_none true x y f g = f
choice_none false x y f g = g

mutual
  reads_none : (m : Map) (e : Expr) (env : Bindings) → has_get e ≡ false → (eval m e env).reads ≡ []
  reads_none m (Literal at v) env h = refl
  reads_none m (Variable name) env h = refl
  reads_none m (Get at name source) env h = absurd cc
  reads_none m (Apply at op es) env h =
      choice_none (is_pick op) (with (eval_nth m es 0 env) (λ c. eval_nth m es (operand_taken c) env))
      (mapped_reading (apply op) (eval_all m es env))
      (with_none (eval_nth m es 0 env) (λ c. eval_nth m es (operand_taken c) env) (nth_reads_none m es 0 env h)
      (λ c. nth_reads_none m es (operand_taken c) env h)) (all_reads_none m es env h)

  all_reads_none : (m : Map) (es : Exprs) (env : Bindings) → have_get es ≡ false → (eval_all m es env).reads ≡ []
  all_reads_none m none env h = refl
  all_reads_none m (more e es) env h =
      with_none (eval m e env) (λ v. mapped_reading (λ vs. v ∷ vs) (eval_all m es env))
      (reads_none m e env (or_parts (has_get e) (have_get es) h).0)
      (λ v. all_reads_none m es env (or_parts (has_get e) (have_get es) h).1)

  nth_reads_none : (m : Map) (es : Exprs) (n : ℕ) (env : Bindings) → have_get es ≡ false
      → (eval_nth m es n env).reads ≡ []
  nth_reads_none m none n env h = refl
  nth_reads_none m (more e es) zero env h = reads_none m e env (or_parts (has_get e) (have_get es) h).0
  nth_reads_none m (more e es) (suc n) env h = nth_reads_none m es n env (or_parts (has_get e) (have_get es) h).1

pub cells_may_be_kept : CellsMayBeKept
cells_may_be_kept e h m m' env =
    (reads_none m e env h, eval_agree m m' e env (subst (λ (l : List ℕ). Agree m m' l) (sym (reads_none m e env h)) tt))
