-- The rule is true of a new table.
use Rattle.std.proofs.Common.{◌≡◌, ℕ, zero, suc, ◌+◌, List, [], ◌∷◌, refl, ap, sym, subst, inl, ◌∙◌, arith, Some}
use Rattle.std.specs.Prelude.{Option}
use mathlib.Core.Option.{some, some-injective, some-ne-none}
use lib.ListN.{get_elem?}
use Rattle.atomic_table.specs.Table.{opening}
use Rattle.snap_shared.specs.declared.rule.Phase.TheVariants.{Idle}
use Rattle.snap_shared.specs.declared.rule.SeatState.{SeatState}
use Rattle.snap_shared.specs.TurnRule.{IsKept, IsSeatState, first_state, callers_from, occurrences}
use Rattle.snap_shared.proofs.Totals.{own_from, length_from, once_from}

module _ {W E : Type 0} (caller : E → ℕ) (log_of : W → Option (List E)) (leads_to : W → List E → W → Type 0) (key : W)
    (n : ℕ) where
  abbrev first : SeatState W E
  first = first_state key n

  only : (j : ℕ) (v : SeatState W E) → get_elem? (first ∷ []) j ≡ some v → (j ≡ 0) × (first ≡ v)
  only zero v e = (refl, some-injective first v e)
  only (suc j) v e = absurd (some-ne-none v (sym e))

  state : IsSeatState caller log_of leads_to key [] first
  state = record {
    opened = λ o e. let q : key ≡ o = cc in
        sym q;
    begins = ([], refl);
    begins_received = ([], refl);
    own = own_from E caller 0 n;
    turn = λ e. absurd cc;
  }

  idle : (v : SeatState W E) → first ≡ v → v.phase ≡ Idle
  idle v e = ap (λ (x : SeatState W E). x.phase) (sym e)

  pub opens : log_of key ≡ Some [] → leads_to key [] key
      → IsKept caller log_of leads_to key n (opening (0 ∷ []) (Some key ∷ []) first)
  opens none here = record {
    word = 0;
    log = [];
    words_are = refl;
    all_callers = let e = length_from E 0 n in omega (arith, e);
    once = λ k. let e = once_from E n k in plus_zero (occurrences k (callers_from {E = E} 0 n)) ∙ e;
    outside = λ k far. refl;
    states = λ j v e. subst (λ x. IsSeatState caller log_of leads_to key [] x) (only j v e).1 state;
    distinct = λ i j u v eu ev hu hv. (only i u eu).0 ∙ sym (only j v ev).0;
    slot = inl (key, refl, none, here, (λ j v e p. let q = idle v (only j v e).1 in absurd cc), refl);
  } where
    plus_zero : (a : ℕ) → a + 0 ≡ a
    plus_zero a = omega arith

  pub opens_with : (slots : List (Option W)) → slots ≡ Some key ∷ [] → log_of key ≡ Some [] → leads_to key [] key
      → IsKept caller log_of leads_to key n (opening (0 ∷ []) slots first)
  opens_with slots is none here = subst (λ (l : List (Option W)). IsKept caller log_of leads_to key n
      (opening (0 ∷ []) l first)) (sym is) (opens none here)
