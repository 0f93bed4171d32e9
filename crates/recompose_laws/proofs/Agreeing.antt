-- If the objects that are read agree, the result is the same.
use Rattle.std.proofs.Common.{ℕ, zero, suc, List, [], ◌∷◌, ◌++◌, ◌≡◌, refl, ap, ◌∙◌, Bool, true, false, if◌then◌else◌}
use Rattle.rt_values.specs.declared.value.Value.{Value}
use Rattle.rt_values.specs.Maps.{Map}
use Rattle.lang_ast.specs.declared.syntax.Source.TheVariants as source
use Rattle.lang_ast.specs.Terms.{Expr, Literal, Variable, Get, Apply, Exprs, none, more, Named}
use Rattle.lang_ast.specs.ResultsWithReads.{Reading, mapped_reading, with}
use Rattle.lang_ast.specs.Evaluation.{Bindings, new_binding, apply, is_pick, operand_taken, eval, eval_all, eval_nth, eval_named}
use Rattle.recompose_laws.specs.Skipping.{Agree}

pub agree_front : (m m' : Map) (xs ys : List ℕ) → Agree m m' (xs ++ ys) → Agree m m' xs
agree_front m m' [] ys a = tt
agree_front m m' (x ∷ xs) ys a = (a.0, agree_front m m' xs ys a.1)

pub agree_back : (m m' : Map) (xs ys : List ℕ) → Agree m m' (xs ++ ys) → Agree m m' ys
agree_back m m' [] ys a = a
agree_back m m' (x ∷ xs) ys a = agree_back m m' xs ys a.1

-- Continuations of equal results are equal.
with_agree : {A B : Type 0} (m m' : Map) (r r' : Reading A) (go go' : A → Reading B) → Agree m m' (with r go).reads →
    (Agree m m' r.reads → r ≡ r') → ((a : A) → Agree m m' (go a).reads → go a ≡ go' a) → with r go ≡ with r' go'
with_agree {A = A} m m' r r' go go' a first next =
    let e = first (agree_front m m' r.reads (go r.value).reads a) in
    let g = next r.value (agree_back m m' r.reads (go r.value).reads a) in
    ap (λ b. record { value = b.value; reads = r.reads ++ b.reads }) g ∙ ap (λ (s : Reading A). with s go') e

choice_agree : {A : Type 0} (m m' : Map) (c : Bool) (x y x' y' : Reading A) → (Agree m m' x.reads → x ≡ x')
    → (Agree m m' y.reads → y ≡ y') →
    Agree m m' (if c then x else y).reads → (if c then x else y) ≡ (if c then x' else y')
choice_agree m m' true x y x' y' f g a = f a
choice_agree m m' false x y x' y' f g a = g a

mutual
  pub eval_agree : (m m' : Map) (e : Expr) (env : Bindings) → Agree m m' (eval m e env).reads
      → eval m e env ≡ eval m' e env
  eval_agree m m' (Literal at v) env a = refl
  eval_agree m m' (Variable name) env a = refl
  eval_agree m m' (Get at name (source.State x)) env a = ap (λ (v : Value). record { value = v; reads = x ∷ [] }) a.0
  eval_agree m m' (Apply at op es) env a =
      choice_agree m m' (is_pick op)
      (with (eval_nth m es 0 env) (λ c. eval_nth m es (operand_taken c) env))
      (mapped_reading (apply op) (eval_all m es env))
      (with (eval_nth m' es 0 env) (λ c. eval_nth m' es (operand_taken c) env))
      (mapped_reading (apply op) (eval_all m' es env))
      (λ b. with_agree m m' (eval_nth m es 0 env) (eval_nth m' es 0 env) _ _ b (nth_agree m m' es 0 env)
      (λ c d. nth_agree m m' es (operand_taken c) env d))
      (λ b. ap (λ r. mapped_reading (apply op) r) (all_agree m m' es env b)) a

  pub all_agree : (m m' : Map) (es : Exprs) (env : Bindings) → Agree m m' (eval_all m es env).reads
      → eval_all m es env ≡ eval_all m' es env
  all_agree m m' none env a = refl
  all_agree m m' (more e es) env a =
      with_agree m m' (eval m e env) (eval m' e env) _ _ a (eval_agree m m' e env)
      (λ v b. ap (λ r. mapped_reading (λ vs. v ∷ vs) r) (all_agree m m' es env b))

  nth_agree : (m m' : Map) (es : Exprs) (n : ℕ) (env : Bindings) → Agree m m' (eval_nth m es n env).reads
      → eval_nth m es n env ≡ eval_nth m' es n env
  nth_agree m m' none n env a = refl
  nth_agree m m' (more e es) zero env a = eval_agree m m' e env a
  nth_agree m m' (more e es) (suc n) env a = nth_agree m m' es n env a

pub named_agree : (m m' : Map) (ns : List Named) (env : Bindings) → Agree m m' (eval_named m ns env).reads
    → eval_named m ns env ≡ eval_named m' ns env
named_agree m m' [] env a = refl
named_agree m m' (n ∷ ns) env a =
    with_agree m m' (eval m n.value env) (eval m' n.value env) _ _ a (eval_agree m m' n.value env)
    (λ v b. ap (λ r. mapped_reading (λ bs. new_binding n.name.text v ∷ bs) r) (named_agree m m' ns env b))
