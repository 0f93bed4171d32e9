-- A call runs exactly if it has a cause.
use Rattle.std.proofs.Common.{ℕ, suc, ◌==◌, arith, List, [], ◌∷◌, ◌≡◌, refl, ap, ◌∙◌, sym, length, map, Bool, true, false, not, ◌||◌, if◌then◌else◌, Option, Some, None}
use Rattle.std.specs.List.{filter, list_any}
use Rattle.rt_values.specs.Maps.{contains}
use Rattle.rt_groups.specs.GroupForest.{GroupKind, asks, own_part}
use Rattle.rt_groups.specs.Paths.{Found, at_path}
use Rattle.rt_groups.specs.Frames.{CallAtPath, calls, same_call, meets, runs_after, call_runs}
use Rattle.run_causes.specs.declared.causes.Cause.TheVariants.{OtherArguments}
use Rattle.run_causes.specs.Causes.{read_or_skipped, owed_among, arguments_of, cause_after, cause_of, is_run}
use Rattle.run_causes.specs.CauseLaws.{CausesTellTheRunning, RanAreThoseWithACause, ReportCountsCauses}

or_same : (a b c d : Bool) → a ≡ c → b ≡ d → (a || b) ≡ (c || d)
or_same a b c d e f = ap (λ x. x || b) e ∙ ap (λ x. c || x) f

eq_sym : (x y : ℕ) → (x == y) ≡ (y == x)
eq_sym x y = grind arith

or_swap : (a b c : Bool) → (a || (b || c)) ≡ (b || (a || c))
or_swap true true c = refl
or_swap true false c = refl
or_swap false true c = refl
or_swap false false c = refl

or_three : (a b c d : Bool) → ((a || b) || (c || d)) ≡ ((a || c) || (b || d))
or_three true b true d = refl
or_three true b false d = refl
or_three false true true d = refl
or_three false false true d = refl
or_three false true false d = refl
or_three false false false d = refl

-- Whether an object of `ys` is x, or in `xs`.
any_or : (x : ℕ) (xs ys : List ℕ)
    → list_any (λ y. contains y (x ∷ xs)) ys ≡ (contains x ys || list_any (λ y. contains y xs) ys)
any_or x xs [] = refl
any_or x xs (y ∷ ys) =
    or_same (contains y (x ∷ xs)) (list_any (λ z. contains z (x ∷ xs)) ys)
    ((y == x) || contains y xs) (contains x ys || list_any (λ z. contains z xs) ys)
    (ap (λ b. b || contains y xs) (eq_sym x y)) (any_or x xs ys)
    ∙ or_three (y == x) (contains y xs) (contains x ys) (list_any (λ z. contains z xs) ys)

none_in : (ys : List ℕ) → list_any (λ y. contains y []) ys ≡ false
none_in [] = refl
none_in (y ∷ ys) = none_in ys

-- Two lists meet whichever of them is searched in the other.
meets_sym : (xs ys : List ℕ) → meets xs ys ≡ list_any (λ y. contains y xs) ys
meets_sym [] ys = sym (none_in ys)
meets_sym (x ∷ xs) ys = ap (λ b. contains x ys || b) (meets_sym xs ys) ∙ sym (any_or x xs ys)

-- One step of such a search.
found_step : (b : Bool) (x : ℕ) (rest : List ℕ) (any : Bool) → is_run (read_or_skipped rest) ≡ any
    → is_run (read_or_skipped (if b then x ∷ rest else rest)) ≡ (b || any)
found_step true x rest any e = refl
found_step false x rest any e = e

-- A list of found objects has a cause exactly if an object is found.
found_runs : (p : ℕ → Bool) (owed : List ℕ) → is_run (read_or_skipped (filter p owed)) ≡ list_any p owed
found_runs p [] = refl
found_runs p (x ∷ owed) = found_step (p x) x (filter p owed) (list_any p owed) (found_runs p owed)

tell_same : (b : Bool) (owed : List ℕ) (old : Found) (what : GroupKind) → same_call old.what what ≡ b
    → is_run (if b then read_or_skipped (owed_among owed (asks (own_part old.inside))) else OtherArguments (arguments_of old.what))
    ≡ (not b || meets (asks (own_part old.inside)) owed)
tell_same true owed old what e =
    found_runs (λ x. contains x (asks (own_part old.inside))) owed ∙ sym (meets_sym (asks (own_part old.inside)) owed)
tell_same false owed old what e = refl

tell : (owed : List ℕ) (found : Option Found) (what : GroupKind)
    → is_run (cause_after owed found what) ≡ runs_after owed found what
tell owed None what = refl
tell owed (Some old) what = tell_same (same_call old.what what) owed old what refl

pub causes_tell_the_running : CausesTellTheRunning
causes_tell_the_running owed old call = tell owed (at_path call.path old) call.what

filter_same : (f g : CallAtPath → Bool) (cs : List CallAtPath) → ((c : CallAtPath) → f c ≡ g c) → filter f cs ≡ filter g cs
filter_same f g [] e = refl
filter_same f g (c ∷ cs) e =
    ap (λ b. if b then c ∷ filter f cs else filter f cs) (e c)
    ∙ ap (λ l. if g c then c ∷ l else l) (filter_same f g cs e)

pub ran_are_those_with_a_cause : RanAreThoseWithACause
ran_are_those_with_a_cause owed old new =
    filter_same (call_runs owed old) (λ call. is_run (cause_of owed old call)) (calls [] [] new)
    (λ call. sym (causes_tell_the_running owed old call))

-- As many items of a mapped list are kept as items of the list.
count_step : {A B : Type 0} (b : Bool) (x : A) (y : B) (xs : List A) (ys : List B) → length xs ≡ length ys
    → length (if b then x ∷ xs else xs) ≡ length (if b then y ∷ ys else ys)
count_step true x y xs ys e = ap (λ n. suc n) e
count_step false x y xs ys e = e

count_mapped : {A B : Type 0} (p : B → Bool) (f : A → B) (xs : List A)
    → length (filter p (map f xs)) ≡ length (filter (λ x. p (f x)) xs)
count_mapped p f [] = refl
count_mapped p f (x ∷ xs) = count_step (p (f x)) (f x) x (filter p (map f xs)) (filter (λ z. p (f z)) xs) (count_mapped p f xs)

pub report_counts_causes : ReportCountsCauses
report_counts_causes owed old new =
    count_mapped is_run (cause_of owed old) (calls [] [] new)
    ∙ ap length (sym (ran_are_those_with_a_cause owed old new))
