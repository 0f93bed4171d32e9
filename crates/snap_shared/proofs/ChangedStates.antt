-- One state changes and keeps its callers.
use Rattle.std.proofs.Common.{◌≡◌, ℕ, List, length, set, sym, ap, ⊎_elim, ◌∙◌, arith}
use mathlib.Core.Option.{some}
use lib.ListN.{get_elem?}
use Rattle.atomic_table.proofs.Lists.{at_set}
use Rattle.snap_shared.specs.declared.rule.Phase.{Phase}
use Rattle.snap_shared.specs.declared.rule.Phase.TheVariants.{HasTurn}
use Rattle.snap_shared.specs.declared.rule.SeatState.{SeatState}
use Rattle.snap_shared.specs.TurnRule.{total, occurrences, caller_total, one_if_below}
use Rattle.snap_shared.proofs.Totals.{total-set}

module _ {W E : Type 0} (views : List (SeatState W E)) (id : ℕ) (v w : SeatState W E)
    (at : get_elem? views id ≡ some v) where
  pub once_kept : (n : ℕ) → ((k : ℕ) → occurrences k w.own ≡ occurrences k v.own)
      → ((k : ℕ) → total (λ (u : SeatState W E). occurrences k u.own) views ≡ one_if_below k n) → (k : ℕ)
      → total (λ (u : SeatState W E). occurrences k u.own) (set views id w) ≡ one_if_below k n
  once_kept n same once k =
      omega (arith, total-set (λ (u : SeatState W E). occurrences k u.own) views id v w at, same k, once k)

  pub callers_kept : (n : ℕ) → length w.own ≡ length v.own → caller_total views ≡ n → caller_total (set views id w) ≡ n
  callers_kept n same all_callers =
      omega (arith, total-set (λ (u : SeatState W E). length u.own) views id v w at, same, all_callers)

  pub distinct_kept : (w.phase ≡ HasTurn → v.phase ≡ HasTurn)
      → ((i j : ℕ) (u x : SeatState W E) → get_elem? views i ≡ some u → get_elem? views j ≡ some x → u.phase ≡ HasTurn
      → x.phase ≡ HasTurn → i ≡ j)
      → (i j : ℕ) (u x : SeatState W E) → get_elem? (set views id w) i ≡ some u → get_elem? (set views id w) j ≡ some x
      → u.phase ≡ HasTurn → x.phase ≡ HasTurn → i ≡ j
  distinct_kept fewer old i j u x eu ex hu hx =
      let has : SeatState W E → Phase = λ y. y.phase in
      ⊎_elim
      (λ a. ⊎_elim
      (λ b. a.0 ∙ sym b.0)
      (λ b. a.0 ∙ old id j v x at b.1 (fewer (ap has a.1 ∙ hu)) hx)
      (at_set views id j w x ex))
      (λ a. ⊎_elim
      (λ b. old i id u v a.1 at hu (fewer (ap has b.1 ∙ hx)) ∙ sym b.0)
      (λ b. old i j u x a.1 b.1 hu hx)
      (at_set views id j w x ex))
      (at_set views id i w u eu)
