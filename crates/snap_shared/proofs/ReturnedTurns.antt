-- Returning the turn, with the world and its history, keeps the rule.
use Rattle.std.proofs.Common.{◌≡◌, ℕ, ◌<◌, ◌≢◌, List, [], ◌∷◌, length, set, sym, refl, ap, subst, inl, ⊎_elim, ◌∙◌, arith, Some, append-nil}
use Rattle.std.specs.Prelude.{Option, slice_set}
use mathlib.Core.Option as maybe
use mathlib.Core.Option.{some, some-injective}
use lib.ListN.{get_elem?}
use Rattle.atomic_table.specs.Table.{State, gives, Allows}
use Rattle.atomic_table.proofs.Lists.{at_set}
use Rattle.snap_shared.specs.declared.rule.Phase.TheVariants.{HasTurn}
use Rattle.snap_shared.specs.declared.rule.SeatState.{SeatState}
use Rattle.snap_shared.specs.TurnRule.{IsKept, IsSeatState, after_return, occurrences}
use Rattle.snap_shared.specs.StepResults.{ReturnsTurn, GrowsByAtMostOne}
use Rattle.snap_shared.proofs.Prefixes.{other_calls, starts_on}
use Rattle.snap_shared.proofs.ChangedStates.{once_kept, callers_kept, distinct_kept}
use Rattle.snap_shared.proofs.Totals.{total_one, total_two, times_here, times_renewed, length_renewed, renewed_own, one_below_one, one_below_is}

module _ {W E : Type 0} (caller : E → ℕ) (log_of : W → Option (List E)) (leads_to : W → List E → W → Type 0)
    (opening : W) (n : ℕ) where
  module _ (s : State (Option W) (SeatState W E)) (k : IsKept caller log_of leads_to opening n s) (id : ℕ)
      (v : SeatState W E) (at : get_elem? s.views id ≡ some v) (has : v.phase ≡ HasTurn)
      (c : ℕ) (mine_c : 0 < occurrences c v.own) (h : W) (log : List E) (log_is : log_of h ≡ Some log)
      (grows : GrowsByAtMostOne caller c v.seen log) (leads : leads_to opening log h) where
    abbrev w : SeatState W E
    w = after_return caller v log

    abbrev views : List (SeatState W E)
    views = set s.views id w

    mine : (v.seen ≡ k.log) × (0 < length v.own)
    mine = (k.states id v at).turn has

    grown : GrowsByAtMostOne caller c k.log log
    grown = subst (λ l. GrowsByAtMostOne caller c l log) mine.0 grows

    only : (j : ℕ) (u : SeatState W E) → get_elem? s.views j ≡ some u → u.phase ≡ HasTurn → j ≡ id
    only j u e h = k.distinct j id u v e at h has

    -- A caller of another seat has another number.
    other_number : (j : ℕ) (u : SeatState W E) → j ≢ id → get_elem? s.views j ≡ some u → (x : ℕ)
        → 0 < occurrences x u.own → x ≢ c
    other_number j u ne e x here same =
        let its : 0 < occurrences c u.own = subst (λ y. 0 < occurrences y u.own) same here in
        let both = total_two (λ (y : SeatState W E). occurrences c y.own) s.views j id u v ne e at in
        omega (arith, its, mine_c, both, k.once c, one_below_one c n)

    below : c < n
    below =
        one_below_is c n (omega (
          arith,
          mine_c,
          total_one (λ (y : SeatState W E). occurrences c y.own) s.views id v at,
          k.once c,
        ))

    new_state : IsSeatState caller log_of leads_to opening log w
    new_state = let old = k.states id v at in record {
      opened = old.opened;
      begins = ([], sym (append-nil log));
      begins_received = starts_on caller c k.log log v.received grown old.begins_received;
      own = renewed_own caller log v.own;
      turn = λ e. absurd cc;
    }

    other_state : (j : ℕ) (u : SeatState W E) → j ≢ id → get_elem? s.views j ≡ some u
        → IsSeatState caller log_of leads_to opening log u
    other_state j u ne e = let old = k.states j u e in record {
      opened = old.opened;
      begins = starts_on caller c k.log log u.seen grown old.begins;
      begins_received = starts_on caller c k.log log u.received grown old.begins_received;
      own = λ i p q. other_calls caller c p.0 k.log log (other_number j u ne e p.0 (times_here u.own i p q)) grown
          ∙ old.own i p q;
      turn = λ q. absurd (ne (only j u e q));
    }

    states' : (j : ℕ) (u : SeatState W E) → get_elem? views j ≡ some u
        → IsSeatState caller log_of leads_to opening log u
    states' j u e = ⊎_elim
        (λ a. subst (λ x. IsSeatState caller log_of leads_to opening log x) a.1 new_state)
        (λ a. other_state j u a.0 a.1)
        (at_set s.views id j w u e)

    out : s.homes ≡ maybe.none ∷ []
    out = ⊎_elim (λ home. absurd (home.4 id v at has)) (λ o. o.0) k.slot

    pub returned_state : IsKept caller log_of leads_to opening
        n record { words = slice_set s.words 0 0; homes = slice_set s.homes 0 (some (Some h)); views = views }
    returned_state = record {
      word = 0;
      log = log;
      words_are = rw k.words_are refl;
      all_callers = callers_kept s.views id v w at n (length_renewed caller log v.own) k.all_callers;
      once = once_kept s.views id v w at n (λ x. times_renewed caller log x v.own) k.once;
      outside = λ x far. other_calls caller c x k.log log (λ e. omega (arith, below, far, e)) grown ∙ k.outside x far;
      states = states';
      distinct = distinct_kept s.views id v w at (λ e. absurd cc) k.distinct;
      slot = inl (
        h,
        rw out refl,
        log_is,
        leads,
        λ j u e p. ⊎_elim
            (λ a. let q : w.phase ≡ HasTurn = ap (λ (y : SeatState W E). y.phase) a.1 ∙ p in absurd cc)
            (λ a. a.0 (only j u a.1 p))
            (at_set s.views id j w u e),
        refl,
      );
    }

  pub returns_turn : (slots id : ℕ) (v : SeatState W E) (c : ℕ) (h : W) (log : List E) → v.phase ≡ HasTurn
      → 0 < occurrences c v.own → v.opening ≡ Some opening → log_of h ≡ Some log → GrowsByAtMostOne caller c v.seen log
      → leads_to opening log h
      → Allows (IsKept caller log_of leads_to opening n) slots id (v, (0, Some h) ∷ []) 0 (λ x. 0)
      (ReturnsTurn caller log_of (v, (0, Some h) ∷ []))
  returns_turn slots id v c h log has mine opened log_is grows leads s k many at small = (
    after_return caller v log,
    gives,
    tt,
    returned_state s k id v at has c mine h log log_is grows leads,
    (h, log, refl, log_is, refl),
  )
