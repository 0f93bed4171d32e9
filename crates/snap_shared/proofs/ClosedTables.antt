-- A seat that has all callers finds the world in its slot, since no other seat can have the turn.
use Rattle.std.proofs.Common.{◌≡◌, ℕ, ◌≤◌, List, [], ◌∷◌, length, ap, sym, subst, ⊎_elim, ◌∙◌, Some, arith}
use Rattle.std.specs.Prelude.{Option}
use mathlib.Core.Option as maybe
use mathlib.Core.Option.{some, some-injective}
use mathlib.Core.Logic.{dite}
use native.Mathlib.Decide.{ℕ_discrete}
use lib.ListN.{get_elem?}
use Rattle.atomic_table.specs.Table.{Final, Seen}
use Rattle.snap_shared.specs.declared.rule.Phase.TheVariants.{Idle, HasTurn}
use Rattle.snap_shared.specs.declared.rule.SeatState.{SeatState}
use Rattle.snap_shared.specs.Histories.{StartsWith, calls_by}
use Rattle.snap_shared.specs.TurnRule.{IsKept}
use Rattle.snap_shared.specs.StepResults.{AreCallsIn}
use Rattle.snap_shared.proofs.Totals.{total_two}

module _ {W E : Type 0} (caller : E → ℕ) (log_of : W → Option (List E)) (leads_to : W → List E → W → Type 0)
    (opening : W) (n : ℕ) where
  -- The world that was in the slot.
  pub record FoundWorld (v : SeatState W E) (found : Option W) : Type 0 where
    pub world : W
    pub is : found ≡ Some world
    pub log : List E
    pub log_is : log_of world ≡ Some log
    pub leads : leads_to opening log world
    pub begins : StartsWith log v.seen
    pub own : AreCallsIn caller log v.own
    pub outside : (k : ℕ) → n ≤ k → calls_by caller k log ≡ []

  pub found_world : (id : ℕ) (v : SeatState W E) (words : List ℕ) (slots : List (Option W)) (found : Option W)
      → v.phase ≡ Idle → length v.own ≡ n → Final (Seen (IsKept caller log_of leads_to opening n) id v) words slots
      → get_elem? slots 0 ≡ some found → FoundWorld v found
  found_world id v words slots found idle all f is =
      let s = f.0 in
      let k = f.1.0 in
      let at = f.1.1 in
      let nobody : (j : ℕ) (u : SeatState W E) → get_elem? s.views j ≡ some u → u.phase ≡ HasTurn → ⊥ =
      λ j u e h. dite (ℕ_discrete j id)
      (λ same.
      let there : get_elem? s.views id ≡ some u = subst (λ x. get_elem? s.views x ≡ some u) same e in
      let phase : v.phase ≡ HasTurn = ap (λ (x : SeatState W E). x.phase) (some-injective v u (sym at ∙ there)) ∙ h in
      absurd cc)
      (λ other.
      let both = total_two (λ (x : SeatState W E). length x.own) s.views j id u v other e at in
      let mine = ((k.states j u e).turn h).1 in
      omega (arith, both, mine, k.all_callers, all)) in
      let home : (h : W) × (s.homes ≡ some (Some h) ∷ []) × (log_of h ≡ Some k.log) × leads_to opening k.log h =
      ⊎_elim (λ home. (home.0, home.1, home.2, home.3)) (λ out. absurd (nobody out.2.0 out.2.1 out.2.2 out.2.3))
      k.slot in
      let lies : get_elem? slots 0 ≡ some (Some home.0) =
      f.4 0 (Some home.0) (ap (λ (l : List (maybe.Option (Option W))). get_elem? l 0) home.1) in
      record {
        world = home.0;
        is = some-injective found (Some home.0) (sym is ∙ lies);
        log = k.log;
        log_is = home.2;
        leads = home.3;
        begins = (k.states id v at).begins;
        own = (k.states id v at).own;
        outside = k.outside;
      }
