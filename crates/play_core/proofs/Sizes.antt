-- The size that the arguments of `gen` give.
use Rattle.std.proofs.Common.{◌≡◌, ◌≤◌, ◌+◌, ◌-◌, ◌*◌, ◌==◌, ◌&&◌, ℕ, List, [], ◌∷◌, Bool, true, false, Option, Some, None, option_map, if◌then◌else◌, refl, sym, ap, ◌∙◌, arith, codes}
use Rattle.std.specs.Prelude.{nat_le}
use Rattle.std.specs.Str.{bytes_eq}
use Rattle.std.specs.Char.{is_ascii_digit}
use Rattle.script_lang.specs.declared.flags.Flags.{Flags}
use Rattle.play_args.specs.declared.command.Command.{Command}
use Rattle.play_args.specs.declared.command.Command.TheVariants.{Run, Threads, Gen}
use Rattle.play_args.specs.CommandWords.{no_flags, flags_after, check_with, with_digits, number_word, gen_of, gen_with, command_of_args}

second : (a b : Bool) → a && b ≡ true → b ≡ true
second true b h = h
second false b h = absurd cc

digits_at_most : (most n : ℕ) (bs : List ℕ) (k : ℕ) → n ≤ most → with_digits most n bs ≡ Some k → k ≤ most
digits_at_most most n [] k few is = let same : n ≡ k = cc in omega (arith, few, same)
digits_at_most most n (b ∷ bs) k few is = by (λ low e. digits_at_most most (10 * n + (b - 48)) bs k low e)
    (is_ascii_digit b && nat_le (10 * n + (b - 48)) most) refl
  where
    by : ((10 * n + (b - 48) ≤ most) → with_digits most (10 * n + (b - 48)) bs ≡ Some k → k ≤ most) → (t : Bool)
        → (is_ascii_digit b && nat_le (10 * n + (b - 48)) most) ≡ t → k ≤ most
    by rest true e =
        let low : nat_le (10 * n + (b - 48)) most ≡ true =
        second (is_ascii_digit b) (nat_le (10 * n + (b - 48)) most) e in
        rest (grind (arith, low)) (ap (λ t. if t then with_digits most (10 * n + (b - 48)) bs else None) (sym e) ∙ is)
    by rest false e =
        let none = ap (λ t. if t then with_digits most (10 * n + (b - 48)) bs else None) (sym e) ∙ is in absurd cc

number_at_most : (most : ℕ) (w : List ℕ) (k : ℕ) → number_word most w ≡ Some k → k ≤ most
number_at_most most [] k is = absurd cc
number_at_most most (b ∷ []) k is = digits_at_most most 0 (b ∷ []) k (omega arith) is
number_at_most most (b ∷ c ∷ bs) k is = by (b == 48) refl
  where
    by : (t : Bool) → (b == 48) ≡ t → k ≤ most
    by true e = let none = ap (λ t. if t then None else with_digits most 0 (b ∷ c ∷ bs)) (sym e) ∙ is in absurd cc
    by false e = digits_at_most most 0 (b ∷ c ∷ bs) k (omega arith)
        (ap (λ t. if t then None else with_digits most 0 (b ∷ c ∷ bs)) (sym e) ∙ is)

-- The size of a command, or 1 for a command without a size.
abbrev size_of : Option Command → ℕ
size_of (Some (Gen number size)) = size
size_of _ = 1

sized : (o p : Option ℕ) (n s : ℕ) → ((k : ℕ) → p ≡ Some k → k ≤ 1000) → gen_of o p ≡ Some (Gen n s)
    → (1 ≤ s) × (s ≤ 1000)
sized None p n s most is = absurd cc
sized (Some a) None n s most is = absurd cc
sized (Some a) (Some b) n s most is = by (b == 0) refl
  where
    by : (t : Bool) → (b == 0) ≡ t → (1 ≤ s) × (s ≤ 1000)
    by true e = let none = ap (λ t. if t then None else Some (Gen a b)) (sym e) ∙ is in absurd cc
    by false e =
        let same : b ≡ s = ap size_of (ap (λ t. if t then None else Some (Gen a b)) (sym e) ∙ is) in
        let few = most b refl in
        (grind (arith, e, same), omega (arith, few, same))

gen_sized : (ws : List (List ℕ)) (n s : ℕ) → gen_with ws ≡ Some (Gen n s) → (1 ≤ s) × (s ≤ 1000)
gen_sized [] n s is = absurd cc
gen_sized (a ∷ []) n s is = absurd cc
gen_sized (a ∷ b ∷ []) n s is =
    sized (number_word 4294967295 a) (number_word 1000 b) n s (λ k e. number_at_most 1000 b k e) is
gen_sized (a ∷ b ∷ c ∷ ws) n s is = absurd cc

run_none : (o : Option Flags) (n s : ℕ) → option_map Run o ≡ Some (Gen n s) → ⊥
run_none None n s is = absurd cc
run_none (Some flags) n s is = absurd cc

threads_none : (o : Option Flags) (n s : ℕ) → option_map Threads o ≡ Some (Gen n s) → ⊥
threads_none None n s is = absurd cc
threads_none (Some flags) n s is = absurd cc

check_none : (ws : List (List ℕ)) (n s : ℕ) → check_with ws ≡ Some (Gen n s) → ⊥
check_none [] n s is = absurd cc
check_none (w ∷ ws) n s is = absurd cc

chosen : (a t b c : Bool) (ws : List (List ℕ)) (n s : ℕ)
    → (if a then option_map Run (flags_after no_flags ws) else if t then option_map Threads (flags_after no_flags ws)
    else if b then check_with ws else if c then gen_with ws else None) ≡ Some (Gen n s) → (1 ≤ s) × (s ≤ 1000)
chosen true t b c ws n s is = absurd (run_none (flags_after no_flags ws) n s is)
chosen false true b c ws n s is = absurd (threads_none (flags_after no_flags ws) n s is)
chosen false false true c ws n s is = absurd (check_none ws n s is)
chosen false false false true ws n s is = gen_sized ws n s is
chosen false false false false ws n s is = absurd cc

-- The size is from 1 to 1,000.
pub size_fits : (ws : List (List ℕ)) (n s : ℕ) → command_of_args ws ≡ Some (Gen n s) → (1 ≤ s) × (s ≤ 1000)
size_fits [] n s is = absurd cc
size_fits (w ∷ ws) n s is = chosen (bytes_eq w (codes "run")) (bytes_eq w (codes "threads")) (bytes_eq w (codes "check")) (bytes_eq w (codes "gen")) ws n s is
