-- The meaning of a function of a program, by its index.
use Rattle.std.proofs.Common.{ℕ, zero, suc, ◌+◌, ◌<◌, ◌≤◌, ◌++◌, List, [], ◌∷◌, ◌≡◌, refl, ◌∙◌, arith, length, length-append, take, get_or}
use Rattle.rt_values.specs.declared.value.Value.{Value}
use Rattle.rt_values.specs.Maps.{Map}
use Rattle.rt_groups.specs.GroupForest.{End}
use Rattle.lang_ast.specs.Terms.{Func}
use Rattle.compose_model.specs.Composing.{Meaning, meaning, meaning_at, meanings_from, meanings}
use Rattle.recompose_laws.specs.Skipping.{CallsReachEarlierFunctions}

at_front : (xs ys : List Meaning) (i : ℕ) (args : List Value) → i < length xs
    → meaning_at (xs ++ ys) i args ≡ meaning_at xs i args
at_front [] ys i args h = absurd (omega arith)
at_front (x ∷ xs) ys zero args h = refl
at_front (x ∷ xs) ys (suc i) args h = at_front xs ys i args (omega arith)

at_back : (xs : List Meaning) (f : Meaning) (n : ℕ) (args : List Value) → n ≡ length xs
    → meaning_at (xs ++ f ∷ []) n args ≡ f args
at_back [] f zero args e = refl
at_back [] f (suc n) args e = absurd (omega arith)
at_back (x ∷ xs) f zero args e = absurd (omega arith)
at_back (x ∷ xs) f (suc n) args e = at_back xs f n args (omega arith)

kept : (m : Map) (fs : List Func) (before : List Meaning) (i : ℕ) (args : List Value) → i < length before
    → meaning_at (meanings_from m before fs) i args ≡ meaning_at before i args
kept m [] before i args h = refl
kept m (f ∷ fs) before i args h =
    kept m fs (before ++ meaning m before f ∷ []) i args
    (omega (arith, h, length-append before (meaning m before f ∷ [])))
    ∙ at_front before (meaning m before f ∷ []) i args h

found : (m : Map) (fs : List Func) (before : List Meaning) (j n : ℕ) (args : List Value) (d : Func)
    → n ≡ length before + j → j < length fs →
    meaning_at (meanings_from m before fs) n args ≡ meaning m (meanings_from m before (take j fs)) (get_or fs j d) args
found m [] before j n args d e h = absurd (omega arith)
found m (f ∷ fs) before zero n args d e h =
    kept m fs (before ++ meaning m before f ∷ []) n args
    (omega (arith, e, length-append before (meaning m before f ∷ [])))
    ∙ at_back before (meaning m before f) n args (omega (arith, e))
found m (f ∷ fs) before (suc j) n args d e h =
    found m fs (before ++ meaning m before f ∷ []) j n args d
    (omega (arith, e, length-append before (meaning m before f ∷ []))) (omega arith)

pub meaning_found : (m : Map) (fs : List Func) (j : ℕ) (args : List Value) (d : Func) → j < length fs →
    meaning_at (meanings m fs) j args ≡ meaning m (meanings m (take j fs)) (get_or fs j d) args
meaning_found m fs j args d h = found m fs [] j j args d (omega arith) h

how_many_from : (m : Map) (fs : List Func) (before : List Meaning)
    → length (meanings_from m before fs) ≡ length before + length fs
how_many_from m [] before = omega arith
how_many_from m (f ∷ fs) before = how_many_from m fs (before ++ meaning m before f ∷ [])
    ∙ omega (arith, length-append before (meaning m before f ∷ []))

past : (xs : List Meaning) (n : ℕ) (args : List Value) → length xs ≤ n → meaning_at xs n args ≡ End
past [] n args h = refl
past (x ∷ xs) zero args h = absurd (omega arith)
past (x ∷ xs) (suc n) args h = past xs n args (omega arith)

pub meaning_none : (m : Map) (fs : List Func) (j : ℕ) (args : List Value) → length fs ≤ j
    → meaning_at (meanings m fs) j args ≡ End
meaning_none m fs j args h = past (meanings m fs) j args (omega (arith, how_many_from m fs [], h))

pub calls_reach_earlier_functions : CallsReachEarlierFunctions
calls_reach_earlier_functions m fs j args d = (meaning_found m fs j args d, meaning_none m fs j args)
