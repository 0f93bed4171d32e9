-- Numbers that are capped at the greatest one.
use Rattle.std.proofs.Common.{◌≡◌, ◌≤◌, ◌<◌, ◌+◌, ◌-◌, ◌^◌, ℕ, min, sym, ap, ◌∙◌, arith, inl, inr}
use Rattle.std.proofs.Common.{◌⊎◌}
use Rattle.std.proofs.Math.Nat.{min-eq_left, min-eq_right}
use Rattle.rt_values.proofs.TextPrefixes.{le_or_gt as le_or_lt}

-- A capped number plus another one.
pub capped_sum : (cap a b : ℕ) → min (min a cap + b) cap ≡ min (a + b) cap
capped_sum cap a b = elim (le_or_lt a cap) [
  | inl le ↦ ap (λ n. min (n + b) cap) (min-eq_left le)
  | inr lt ↦ ap (λ n. min (n + b) cap) (min-eq_right (omega (arith, lt))) ∙ min-eq_right (omega arith)
      ∙ sym (min-eq_right (omega (arith, lt)))
]

-- A count that is complete.
pub capped_here : (count rest all : ℕ) → rest ≡ 0 → count < 2 ^ 64
    → min (count + rest) (2 ^ 64 - 1) ≡ min all (2 ^ 64 - 1) → count ≡ min all (2 ^ 64 - 1)
capped_here count rest all none fits is =
    sym (min-eq_left (omega (arith, fits))) ∙ ap (λ n. min n (2 ^ 64 - 1)) (omega (arith, none)) ∙ is
