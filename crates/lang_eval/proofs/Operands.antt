-- Evaluating operands one by one.
use Rattle.std.proofs.Common.{◌≡◌, ℕ, zero, suc, ◌<◌, ◌≤◌, ℤ, List, [], ◌∷◌, ◌++◌, length, get_or, drop, take, Bool, true, false, nat_lt, refl, sym, ap, ◌∙◌, append_assoc, append-nil, length-append, drop-cons, arith}
use Rattle.std.proofs.Common.{inl, inr}
use Rattle.std.proofs.lemmas.Bool.{ltb-true, lt-ltb}
use Rattle.std.proofs.lemmas.Bool.Decides.{leb_tells}
use Rattle.std.proofs.lemmas.List.{take_all, take-append-le}
use Rattle.rt_values.specs.declared.value.Value.{Value}
use Rattle.rt_values.specs.Limits.{most_items}
use Rattle.rt_values.specs.Values.{no_value}
use Rattle.rt_values.specs.Operators.{list_with_item}
use Rattle.rt_values.specs.Maps.{Map}
use Rattle.rt_values.specs.Views.{Grew}
use Rattle.lang_ast.specs.ResultsWithReads.{pure_reading}
use Rattle.lang_ast.specs.Evaluation.{Bindings, eval, eval_all, eval_nth, first, second, apply}
use Rattle.lang_ast.specs.SyntaxView.{expr_view, exprs_view}
use Rattle.lang_ast.specs.declared.syntax.Expression.{Expression}
use Rattle.lang_ast.specs.declared.syntax.Operator.{Operator}
use Rattle.lang_ast.specs.declared.syntax.Operator.TheVariants as operator
use Rattle.lang_eval.specs.Operands.{is_list, pair, pair_from, list_with_all}
use Rattle.lang_eval.specs.declared.applying.Pair.{Pair}
use Rattle.lang_eval.proofs.Grows.{grew_front, grew_left}

-- One operand.

pub nth_found : (m : Map) (es : List Expression) (n : ℕ) (e : Expression) (env : Bindings) → n < length es
    → e ≡ get_or es n e → eval_nth m (exprs_view es) n env ≡ eval m (expr_view e) env
nth_found m [] n e env below is = absurd (omega arith)
nth_found m (x ∷ es) zero e env below is = ap (λ (y : Expression). eval m (expr_view y) env) (sym is)
nth_found m (x ∷ es) (suc n) e env below is = nth_found m es n e env (omega arith) is

pub nth_none : (m : Map) (es : List Expression) (n : ℕ) (env : Bindings) → length es ≤ n
    → eval_nth m (exprs_view es) n env ≡ pure_reading no_value
nth_none m [] n env past = refl
nth_none m (x ∷ es) zero env past = absurd (omega arith)
nth_none m (x ∷ es) (suc n) env past = nth_none m es n env (omega arith)

-- A part of the reads.

pub all_part : (m : Map) (es : List Expression) (i : ℕ) (e : Expression) (env : Bindings) (old mid new : List ℕ)
    → i < length es → e ≡ get_or es i e →
    mid ++ (eval_all m (exprs_view (drop i es)) env).reads ≡ old ++ (eval_all m (exprs_view es) env).reads
    → Grew mid new (eval m (expr_view e) env).reads → Grew old new (eval_all m (exprs_view es) env).reads
all_part m es i e env old mid new below is so_far part =
    let here = ap (λ (l : List Expression). mid ++ (eval_all m (exprs_view l) env).reads) (drop-cons es i e below)
    ∙ ap (λ (x : Expression). mid
    ++ ((eval m (expr_view x) env).reads ++ (eval_all m (exprs_view (drop (suc i) es)) env).reads)) (sym is) in
    grew_left old mid new _ _ (sym here ∙ so_far)
    (grew_front mid new (eval m (expr_view e) env).reads (eval_all m (exprs_view (drop (suc i) es)) env).reads part)

-- The first two values.

pair_stays : (p : Pair) (n : ℕ) (vs : List Value) → pair_from p (suc (suc n)) vs ≡ p
pair_stays p n [] = refl
pair_stays p n (v ∷ vs) = pair_stays p (suc n) vs

pub filled_whole : (vs : List Value) → pair_from (pair no_value no_value) 0 vs ≡ pair (first vs) (second vs)
filled_whole [] = refl
filled_whole (v ∷ []) = refl
filled_whole (v ∷ (w ∷ vs)) = pair_stays (pair v w) 0 vs

-- An operator other than `Ints` depends only on the first two values.
pub apply_two : (o : Operator) (vs : List Value) → is_list o ≡ false → apply o vs ≡ apply o (first vs ∷ second vs ∷ [])
apply_two operator.Ints vs h = cc
apply_two _ vs h = refl

-- All numbers.

room_ends : (n : ℕ) → nat_lt n most_items ≡ false → most_items ≤ n
room_ends n full = elim (leb_tells most_items n) [ inl p ↦ p.1 | inr p ↦ let room = lt-ltb n most_items p.1 in cc ]

stays : (l zs : List ℤ) → nat_lt (length l) most_items ≡ false → length l ≤ most_items
    → take most_items (l ++ zs) ≡ take most_items l
stays l zs full few = take-append-le most_items l zs (room_ends (length l) full)

more_of : (b : Bool) (l : List ℤ) (z : ℤ) (zs : List ℤ) → nat_lt (length l) most_items ≡ b → length l ≤ most_items →
    ((k : List ℤ) → length k ≤ most_items → list_with_all k zs ≡ take most_items (k ++ zs))
    → list_with_all (list_with_item l z) zs ≡ take most_items (l ++ z ∷ zs)
more_of true l z zs room few rest =
    rw room (rest (l ++ z ∷ []) (let less = ltb-true (length l) most_items room in
    omega (arith, less, length-append l (z ∷ []))) ∙ ap (λ k. take most_items k) (append_assoc l (z ∷ []) zs))
more_of false l z zs full few rest = rw full (rest l few ∙ stays l zs full few ∙ sym (stays l (z ∷ zs) full few))

gathered_is : (l zs : List ℤ) → length l ≤ most_items → list_with_all l zs ≡ take most_items (l ++ zs)
gathered_is l [] few = sym (ap (λ k. take most_items k) (append-nil l) ∙ take_all most_items l few)
gathered_is l (z ∷ zs) few = more_of (nat_lt (length l) most_items) l z zs refl few (λ k h. gathered_is k zs h)

pub gathered_whole : (zs : List ℤ) → list_with_all [] zs ≡ take most_items zs
gathered_whole zs = gathered_is [] zs (omega arith)
