-- Trying to take the turn keeps the rule. If the word was 0 the seat takes the turn and the world.
use Rattle.std.proofs.Common.{◌≡◌, ℕ, ◌<◌, List, [], ◌∷◌, Bool, true, false, length, set, sym, refl, ap, subst, inr, ⊎_elim, ◌∙◌, Some, append-nil, eq-eqb, cond, inl}
use Rattle.std.proofs.lemmas.Bool.Decides.{eqb_tells}
use Rattle.std.specs.Prelude.{Option, slice_index, slice_set, ◌==◌}
use Rattle.std.specs.Bool.{MatchBool}
use Rattle.std.proofs.lemmas.Bool.{eqb-true}
use mathlib.Core.Option as maybe
use mathlib.Core.Option.{some}
use lib.ListN.{get_elem?}
use Rattle.atomic_table.specs.Table.{State, Me, Act, keeps, takes, Allows, Valid, stepped, carried_after}
use Rattle.atomic_table.proofs.Lists.{at_set, set_here, set_again}
use Rattle.snap_shared.specs.declared.rule.Phase.TheVariants.{HasTurn}
use Rattle.snap_shared.specs.declared.rule.SeatState.{SeatState}
use Rattle.snap_shared.specs.TurnRule.{IsKept, IsSeatState, IsSlot, with_turn}
use Rattle.snap_shared.specs.StepResults.{TriesTurn, TakesTurn}
use Rattle.snap_shared.proofs.ChangedStates.{once_kept, callers_kept}
use Rattle.snap_shared.proofs.Totals.{index_below}

module _ {W E : Type 0} (caller : E → ℕ) (log_of : W → Option (List E)) (leads_to : W → List E → W → Type 0)
    (opening : W) (n : ℕ) where
  module _ (s : State (Option W) (SeatState W E)) (k : IsKept caller log_of leads_to opening n s) where
    pub same_word : (x : ℕ) → x ≡ slice_index s.words 0 → slice_set s.words 0 x ≡ s.words
    same_word x e = rw e (rw k.words_are refl)

    pub new_word : (x : ℕ) → slice_set s.words 0 x ≡ x ∷ []
    new_word x = rw k.words_are refl

    word_is : slice_index s.words 0 ≡ k.word
    word_is = ap (λ ws. slice_index ws 0) k.words_are

    module _ (id : ℕ) (v : SeatState W E) (at : get_elem? s.views id ≡ some v) (calls : 0 < length v.own) (x : ℕ)
        (not_zero : x ≡ 0 → ⊥)
        (h : W) (here : s.homes ≡ some (Some h) ∷ []) (log_is : log_of h ≡ Some k.log)
        (leads : leads_to opening k.log h)
        (nobody : (j : ℕ) (u : SeatState W E) → get_elem? s.views j ≡ some u → u.phase ≡ HasTurn → ⊥) where
      abbrev w : SeatState W E
      w = with_turn v k.log

      abbrev views : List (SeatState W E)
      views = set s.views id w

      new_state : IsSeatState caller log_of leads_to opening k.log w
      new_state = let old = k.states id v at in record {
        opened = old.opened;
        begins = ([], sym (append-nil k.log));
        begins_received = old.begins_received;
        own = old.own;
        turn = λ e. (refl, calls);
      }

      states' : (j : ℕ) (u : SeatState W E) → get_elem? views j ≡ some u
          → IsSeatState caller log_of leads_to opening k.log u
      states' j u e = ⊎_elim
          (λ a. subst (λ y. IsSeatState caller log_of leads_to opening k.log y) a.1 new_state)
          (λ a. k.states j u a.1)
          (at_set s.views id j w u e)

      only : (j : ℕ) (u : SeatState W E) → get_elem? views j ≡ some u → u.phase ≡ HasTurn → j ≡ id
      only j u e has = ⊎_elim (λ a. a.0) (λ a. absurd (nobody j u a.1 has)) (at_set s.views id j w u e)

      taken : IsKept caller log_of leads_to opening
          n record { words = slice_set s.words 0 x; homes = slice_set s.homes 0 maybe.none; views = views }
      taken = record {
        word = x;
        log = k.log;
        words_are = new_word x;
        all_callers = callers_kept s.views id v w at n refl k.all_callers;
        once = once_kept s.views id v w at n (λ y. refl) k.once;
        outside = k.outside;
        states = states';
        distinct = λ i j u y eu ey hu hy. only i u eu hu ∙ sym (only j y ey hy);
        slot = inr (
          rw here refl,
          (h, leads),
          (id, w, set_here s.views id w (index_below s.views id v at), refl),
          not_zero,
        );
      }

      -- The facts of a seat that has taken the turn.
      takes_turn : (c : List (ℕ × Option W)) → c ≡ [] → TakesTurn caller log_of leads_to (v, c) (w, (0, Some h) ∷ c)
      takes_turn c none = (
        h,
        k.log,
        ap (λ y. (w, (0, Some h) ∷ y)) none,
        record {
          log_is = log_is;
          leads = λ o p. subst (λ y. leads_to y k.log h) (sym ((k.states id v at).opened o p)) leads;
          begins = (k.states id v at).begins;
          own = (k.states id v at).own;
        },
      )

    -- At 0 the world is in its slot.
    at_home : k.word ≡ 0 → IsSlot caller log_of leads_to opening k.log k.word s.homes s.views
        → (h : W) × (s.homes ≡ some (Some h) ∷ []) × (log_of h ≡ Some k.log) × leads_to opening k.log h
        × ((j : ℕ) (u : SeatState W E) → get_elem? s.views j ≡ some u → u.phase ≡ HasTurn → ⊥)
    at_home zero slot = ⊎_elim
        (λ home. (home.0, home.1, home.2, home.3, home.4))
        (λ out. absurd (out.3 zero))
        slot

    -- At another number the word may become any number but 0.
    waits : (k.word ≡ 0 → ⊥) → (x : ℕ) → (x ≡ 0 → ⊥)
        → IsKept caller log_of leads_to opening
        n record { words = slice_set s.words 0 x; homes = s.homes; views = s.views }
    waits taken x not_zero = record {
      word = x;
      log = k.log;
      words_are = new_word x;
      all_callers = k.all_callers;
      once = k.once;
      outside = k.outside;
      states = k.states;
      distinct = k.distinct;
      slot = ⊎_elim (λ home. absurd (taken home.5)) (λ out. inr (out.0, out.1, out.2, not_zero)) k.slot;
    }

  module _ (slots id : ℕ) (me : Me (Option W) (SeatState W E)) (calls : 0 < length me.0.own) (empty : me.1 ≡ [])
      (f : ℕ → ℕ) (not_zero : (x : ℕ) → f x ≡ 0 → ⊥)
      (s : State (Option W) (SeatState W E)) (k : IsKept caller log_of leads_to opening n s)
      (at : get_elem? s.views id ≡ some me.0) where
    abbrev found : ℕ
    found = slice_index s.words 0

    Goal : Bool → Type 0
    Goal b = (w : SeatState W E) × (a : Act (Option W)) × Valid s.homes me.1 a
        × IsKept caller log_of leads_to opening n (stepped s 0 (f found) id me.1 w a)
        × MatchBool b (TakesTurn caller log_of leads_to me (w, carried_after me.1 a)) ((w, carried_after me.1 a) ≡ me)

    go : (b : Bool) → (found == 0) ≡ b → Goal b
    unfolding Goal
    go true e =
        let home = at_home s k (sym (word_is s k) ∙ eqb-true _ _ e) k.slot in
        let h = home.0 in (
          with_turn me.0 k.log,
          takes 0 (Some h),
          ap (λ hs. get_elem? hs 0) home.1,
          taken s k id me.0 at calls (f found) (not_zero found) h home.1 home.2 home.3 home.4,
          takes_turn s k id me.0 at calls (f found) (not_zero found) h home.1 home.2 home.3 home.4 me.1 empty,
        )
    go false e = (
      me.0,
      keeps,
      tt,
      subst (λ vs. IsKept caller log_of leads_to opening
          n record { words = slice_set s.words 0 (f found); homes = s.homes; views = vs })
          (sym (set_again s.views id me.0 at))
          (waits s k (λ z. let q : (found == 0) ≡ true = eq-eqb found 0 (word_is s k ∙ z) in absurd cc) (f found)
          (not_zero found)),
      refl,
    )

  pub tries_turn : (slots id : ℕ) (me : Me (Option W) (SeatState W E)) → 0 < length me.0.own → me.1 ≡ [] → (f : ℕ → ℕ)
      → ((x : ℕ) → f x ≡ 0 → ⊥)
      → Allows (IsKept caller log_of leads_to opening n) slots id me 0 f (TriesTurn caller log_of leads_to me)
  unfolding Goal
  tries_turn slots id me calls empty f not_zero s k many at small =
      let g = go slots id me calls empty f not_zero s k at (slice_index s.words 0 == 0) refl in
      (g.0, g.1, g.2, g.3, g.4)

-- A compare and exchange of 0 for 1 leaves a number that is not 0.
pub exchanged_not_zero : (x : ℕ) → cond (x == 0) 1 x ≡ 0 → ⊥
exchanged_not_zero x e = elim (eqb_tells x 0) [
  | inl h ↦ let q : cond (x == 0) 1 x ≡ 1 = ap (λ (b : Bool). cond b 1 x) h.0 in absurd cc
  | inr h ↦ h.1 (sym (ap (λ (b : Bool). cond b 1 x) h.0) ∙ e)
]
