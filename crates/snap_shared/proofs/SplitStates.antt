-- Splitting and joining states, and seeing the history, keep the rule.
use Rattle.std.proofs.Common.{◌≡◌, ℕ, suc, ◌+◌, List, [], ◌∷◌, ◌++◌, length, set, sym, refl, ap, subst, inl, inr, ⊎_elim, ◌∙◌, arith, length-append}
use Rattle.std.specs.Prelude.{Option, slice_index, slice_set}
use mathlib.Core.Option as maybe
use mathlib.Core.Option.{some, some-injective, some-ne-none}
use mathlib.Core.Logic.{dite}
use native.Mathlib.Decide.{ℕ_discrete}
use lib.ListN.{get_elem?}
use Rattle.atomic_table.specs.Table.{State, Me, keeps, Allows, Splits, Joins}
use Rattle.atomic_table.proofs.Lists.{at_set, set_here, set_else, at_snoc, at_longer}
use Rattle.snap_shared.specs.declared.rule.Phase.TheVariants.{Idle, HasTurn}
use Rattle.snap_shared.specs.declared.rule.SeatState.{SeatState}
use Rattle.snap_shared.specs.TurnRule.{IsKept, IsSeatState, IsSlot, HasWorldAfter, occurrences, note_of, split_left, split_right, joined_state, spent_state, with_seen, first_item, other_items}
use Rattle.snap_shared.specs.StepResults.{SeesHistory, AdoptsReceived, SawHistory}
use Rattle.snap_shared.proofs.Prefixes.{starts_itself}
use Rattle.snap_shared.proofs.TriedTurns.{same_word}
use Rattle.snap_shared.proofs.ChangedStates.{distinct_kept}
use Rattle.snap_shared.proofs.Totals.{total-set, total-snoc, index_below, at_append, occurrences-append, times_first_rest, length_first_rest, at_first, at_rest}

module _ {W E : Type 0} (caller : E → ℕ) (log_of : W → Option (List E)) (leads_to : W → List E → W → Type 0)
    (opening : W) (n : ℕ) where
  abbrev S : Type 0
  S = State (Option W) (SeatState W E)

  abbrev V : Type 0
  V = SeatState W E

  -- The rule without the counts of callers.
  record IsKeptExceptCounts (word : ℕ) (log : List E) (words : List ℕ) (homes : List (maybe.Option (Option W)))
      (views : List V) : Type 0 where
    pub words_are : words ≡ word ∷ []
    pub states : (id : ℕ) (v : V) → get_elem? views id ≡ maybe.some v → IsSeatState caller log_of leads_to opening log v
    pub distinct : (i j : ℕ) (u v : V) → get_elem? views i ≡ maybe.some u → get_elem? views j ≡ maybe.some v
        → u.phase ≡ HasTurn → v.phase ≡ HasTurn → i ≡ j
    pub slot : IsSlot caller log_of leads_to opening log word homes views

  except_counts : (s : S) (k : IsKept caller log_of leads_to opening n s)
      → IsKeptExceptCounts k.word k.log s.words s.homes s.views
  except_counts s k = record { words_are = k.words_are; states = k.states; distinct = k.distinct; slot = k.slot }

  leads : (s : S) (k : IsKept caller log_of leads_to opening n s) → HasWorldAfter caller log_of leads_to opening k.log
  leads s k = ⊎_elim (λ home. (home.0, home.3)) (λ out. out.1) k.slot

  module _ (word : ℕ) (log : List E) (words : List ℕ) (homes : List (maybe.Option (Option W))) (views : List V)
      (k : IsKeptExceptCounts word log words homes views) where
    -- A state without the turn is appended.
    module _ (x : V) (idle : x.phase ≡ Idle) (is : IsSeatState caller log_of leads_to opening log x) where
      no_turn : (u : V) → x ≡ u → u.phase ≡ HasTurn → ⊥
      no_turn u e h = let q : Idle ≡ HasTurn = sym idle ∙ ap (λ (y : V). y.phase) e ∙ h in absurd cc

      longer : IsKeptExceptCounts word log words homes (views ++ x ∷ [])
      longer = record {
        words_are = k.words_are;
        states = λ j u e. ⊎_elim (k.states j u)
            (λ q. subst (λ y. IsSeatState caller log_of leads_to opening log y) q is) (at_snoc views x u j e);
        distinct = λ i j u v eu ev hu hv. ⊎_elim
            (λ a. ⊎_elim (λ b. k.distinct i j u v a b hu hv) (λ q. absurd (no_turn v q hv)) (at_snoc views x v j ev))
            (λ q. absurd (no_turn u q hu))
            (at_snoc views x u i eu);
        slot = ⊎_elim
            (λ home. inl (
              home.0,
              home.1,
              home.2,
              home.3,
              (λ j u e h. ⊎_elim (λ a. home.4 j u a h) (λ q. no_turn u q h) (at_snoc views x u j e)),
              home.5,
            ))
            (λ out. inr (
              out.0,
              out.1,
              (out.2.0, out.2.1, at_longer views (x ∷ []) out.2.0 out.2.1 out.2.2, out.2.3),
              out.3,
            ))
            k.slot;
      }

    -- One state changes and keeps its phase.
    module _ (id : ℕ) (v w : V) (at : get_elem? views id ≡ some v) (ep : w.phase ≡ v.phase)
        (is : IsSeatState caller log_of leads_to opening log w) where
      changed : IsKeptExceptCounts word log words homes (set views id w)
      changed = record {
        words_are = k.words_are;
        states = λ j u e. ⊎_elim (λ a. subst (λ x. IsSeatState caller log_of leads_to opening log x) a.1 is)
            (λ a. k.states j u a.1) (at_set views id j w u e);
        distinct = distinct_kept views id v w at (λ h. sym ep ∙ h) k.distinct;
        slot = ⊎_elim
            (λ home. inl (
              home.0,
              home.1,
              home.2,
              home.3,
              (λ j u e h. ⊎_elim (λ a. home.4 id v at (sym ep ∙ ap (λ (x : V). x.phase) a.1 ∙ h))
                  (λ a. home.4 j u a.1 h) (at_set views id j w u e)),
              home.5,
            ))
            (λ out. inr (
              out.0,
              out.1,
              dite (ℕ_discrete out.2.0 id)
                  (λ e. let there : get_elem? views id ≡ some out.2.1 =
                  subst (λ x. get_elem? views x ≡ some out.2.1) e out.2.2 in (
                    id,
                    w,
                    set_here views id w (index_below views id v at),
                    ep
                        ∙ ap (λ (x : V). x.phase) (some-injective v out.2.1 (sym at ∙ there)) ∙ out.2.3,
                  ))
                  (λ ne. (out.2.0, out.2.1, set_else views id out.2.0 w ne ∙ out.2.2, out.2.3)),
              out.3,
            ))
            k.slot;
      }

  -- A state is split in two, and each caller goes to one of them.
  module _ (s : S) (k : IsKept caller log_of leads_to opening n s) (id : ℕ) (v left right : V)
      (at : get_elem? s.views id ≡ some v) (ep : left.phase ≡ v.phase) (idle : right.phase ≡ Idle)
      (counts : (x : ℕ) → occurrences x left.own + occurrences x right.own ≡ occurrences x v.own)
      (lengths : length left.own + length right.own ≡ length v.own)
      (is_left : IsSeatState caller log_of leads_to opening k.log left)
      (is_right : IsSeatState caller log_of leads_to opening k.log right) where
    one : IsKeptExceptCounts k.word k.log s.words s.homes (set s.views id left)
    one = changed k.word k.log s.words s.homes s.views (except_counts s k) id v left at ep is_left

    two : IsKeptExceptCounts k.word k.log s.words s.homes (set s.views id left ++ right ∷ [])
    two = longer k.word k.log s.words s.homes (set s.views id left) one right idle is_right

    split : IsKept caller log_of leads_to opening
        n record { words = s.words; homes = s.homes; views = set s.views id left ++ right ∷ [] }
    split = record {
      word = k.word;
      log = k.log;
      words_are = two.words_are;
      all_callers = omega (
        arith,
        total-snoc (λ (u : V). length u.own) (set s.views id left) right,
        total-set (λ (u : V). length u.own) s.views id v left at,
        lengths,
        k.all_callers,
      );
      once = λ x. omega (
        arith,
        total-snoc (λ (u : V). occurrences x u.own) (set s.views id left) right,
        total-set (λ (u : V). occurrences x u.own) s.views id v left at,
        counts x,
        k.once x,
      );
      outside = k.outside;
      states = two.states;
      distinct = two.distinct;
      slot = two.slot;
    }

  pub splits_note : (id : ℕ) (v : V) → Splits (IsKept caller log_of leads_to opening n) id v v (note_of v)
  splits_note id v s k at =
      let old = k.states id v at in
      let its : IsSeatState caller log_of leads_to opening k.log (note_of v) = record {
        opened = old.opened;
        begins = old.begins;
        begins_received = (k.log, refl);
        own = λ i p e. absurd (some-ne-none p (sym e));
        turn = λ e. absurd cc;
      } in
      split s k id v v (note_of v) at refl refl (λ x. plus_zero (occurrences x v.own)) (plus_zero (length v.own)) old
      its where
        plus_zero : (a : ℕ) → a + 0 ≡ a
        plus_zero a = omega arith

  pub splits_seat : (id : ℕ) (v : V) → v.phase ≡ Idle
      → Splits (IsKept caller log_of leads_to opening n) id v (split_left v) (split_right v)
  splits_seat id v idle s k at =
      let old = k.states id v at in
      let its : IsSeatState caller log_of leads_to opening k.log (split_right v) = record {
        opened = old.opened;
        begins = old.begins;
        begins_received = (k.log, refl);
        own = λ i p e. old.own i p (at_first v.own i p e);
        turn = λ e. absurd cc;
      } in
      let rest : IsSeatState caller log_of leads_to opening k.log (split_left v) = record {
        opened = old.opened;
        begins = old.begins;
        begins_received = old.begins_received;
        own = λ i p e. old.own (suc i) p (at_rest v.own i p e);
        turn = λ e. let q : Idle ≡ HasTurn = sym idle ∙ e in
            absurd cc;
      } in
      split s k id v (split_left v) (split_right v) at refl refl
      (λ x. swap (occurrences x (first_item v.own)) (occurrences x (other_items v.own)) (occurrences x v.own)
      (times_first_rest x v.own)) (swap (length (first_item v.own)) (length (other_items v.own)) (length v.own)
      (length_first_rest v.own)) rest its where
        swap : (a b c : ℕ) → a + b ≡ c → b + a ≡ c
        swap a b c e = omega arith

  pub joins_seat : (id : ℕ) (v : V) (other : ℕ) (w : V) → w.phase ≡ Idle
      → Joins (IsKept caller log_of leads_to opening n) id v other w (joined_state v w) spent_state
  joins_seat id v other w idle s k at ne there =
      let mine = k.states id v at in
      let its : get_elem? s.views other ≡ some w = sym (set_else s.views id other (joined_state v w) ne) ∙ there in
      let old = k.states other w its in
      let received : IsSeatState caller log_of leads_to opening k.log (joined_state v w) = record {
        opened = mine.opened;
        begins = mine.begins;
        begins_received = old.begins;
        own = λ i p e. ⊎_elim (λ a. mine.own i p a) (λ b. old.own b.0 p b.1) (at_append v.own w.own i p e);
        turn = λ e. let b = mine.turn e in (b.0, omega (arith, b.1, length-append v.own w.own));
      } in
      let one = changed k.word k.log s.words s.homes s.views (except_counts s k) id v (joined_state v w) at refl
      received in
      let gone : IsSeatState caller log_of leads_to opening k.log spent_state = record {
        opened = λ o e. absurd cc;
        begins = (k.log, refl);
        begins_received = (k.log, refl);
        own = λ i p e. absurd (some-ne-none p (sym e));
        turn = λ e. absurd cc;
      } in
      let two = changed k.word k.log s.words s.homes (set s.views id (joined_state v w)) one other w spent_state there
      (sym idle) gone in
      record {
        word = k.word;
        log = k.log;
        words_are = two.words_are;
        all_callers = omega (
          arith,
          total-set (λ (u : V). length u.own) (set s.views id (joined_state v w)) other w
              spent_state there,
          total-set (λ (u : V). length u.own) s.views id v (joined_state v w) at,
          length-append v.own w.own,
          k.all_callers,
        );
        once = λ x. omega (
          arith,
          total-set (λ (u : V). occurrences x u.own) (set s.views id (joined_state v w)) other w
              spent_state there,
          total-set (λ (u : V). occurrences x u.own) s.views id v (joined_state v w) at,
          occurrences-append x v.own w.own,
          k.once x,
        );
        outside = k.outside;
        states = two.states;
        distinct = two.distinct;
        slot = two.slot;
      }

  -- One state changes only in what it has seen.
  seen_changed : (s : S) (k : IsKept caller log_of leads_to opening n s) (id : ℕ) (v w : V)
      (at : get_elem? s.views id ≡ some v) → w.phase ≡ v.phase → w.own ≡ v.own
      → IsSeatState caller log_of leads_to opening k.log w →
      IsKept caller log_of leads_to opening
      n record { words = slice_set s.words 0 (slice_index s.words 0); homes = s.homes; views = set s.views id w }
  seen_changed s k id v w at ep eo is =
      let one = changed k.word k.log s.words s.homes s.views (except_counts s k) id v w at ep is in
      record {
        word = k.word;
        log = k.log;
        words_are = same_word caller log_of leads_to opening n s k (slice_index s.words 0) refl ∙ one.words_are;
        all_callers = omega (
          arith,
          total-set (λ (u : V). length u.own) s.views id v w at,
          ap (λ (l : List (ℕ × List E)). length l) eo,
          k.all_callers,
        );
        once = λ x. omega (
          arith,
          total-set (λ (u : V). occurrences x u.own) s.views id v w at,
          ap (λ (l : List (ℕ × List E)). occurrences x l) eo,
          k.once x,
        );
        outside = k.outside;
        states = one.states;
        distinct = one.distinct;
        slot = one.slot;
      }

  looked : (s : S) (k : IsKept caller log_of leads_to opening n s) (id : ℕ) (v : V) → get_elem? s.views id ≡ some v
      → SawHistory caller leads_to v k.log
  looked s k id v at =
      let mine = k.states id v at in
      record {
        leads = λ o p. subst (λ x. HasWorldAfter caller log_of leads_to x k.log) (sym (mine.opened o p))
            (leads s k);
        begins = mine.begins;
        begins_received = mine.begins_received;
        own = mine.own;
      }

  pub sees_history : (slots id : ℕ) (me : Me (Option W) V) → me.0.phase ≡ Idle
      → Allows (IsKept caller log_of leads_to opening n) slots id me 0 (λ x. x) (SeesHistory caller leads_to me)
  sees_history slots id me idle s k many at small =
      let mine = k.states id me.0 at in
      let w = with_seen me.0 k.log in
      let is : IsSeatState caller log_of leads_to opening k.log w = record {
        opened = mine.opened;
        begins = starts_itself k.log;
        begins_received = mine.begins_received;
        own = mine.own;
        turn = λ e. let q : Idle ≡ HasTurn = sym idle ∙ e in absurd cc;
      } in
      (w, keeps, tt, seen_changed s k id me.0 w at refl refl is, (k.log, refl, looked s k id me.0 at))

  pub adopts_received : (slots id : ℕ) (me : Me (Option W) V) → me.0.phase ≡ Idle
      → Allows (IsKept caller log_of leads_to opening n) slots id me 0 (λ x. x) (AdoptsReceived caller leads_to me)
  adopts_received slots id me idle s k many at small =
      let mine = k.states id me.0 at in
      let w = with_seen me.0 me.0.received in
      let is : IsSeatState caller log_of leads_to opening k.log w = record {
        opened = mine.opened;
        begins = mine.begins_received;
        begins_received = mine.begins_received;
        own = mine.own;
        turn = λ e. let q : Idle ≡ HasTurn = sym idle ∙ e in absurd cc;
      } in
      (w, keeps, tt, seen_changed s k id me.0 w at refl refl is, (k.log, refl, looked s k id me.0 at))
