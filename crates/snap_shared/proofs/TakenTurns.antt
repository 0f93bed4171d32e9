-- What a seat knows after it found that its turn has come.
use Rattle.std.proofs.Common.{◌≡◌, ℕ, List, [], ◌∷◌, ap, sym, subst, ◌∙◌, eq-eqb, Option, Some, None}
use Rattle.std.specs.Bool.{MatchBool}
use Rattle.atomic_table.specs.Table.{Me, rest}
use Rattle.snap_api.specs.declared.data.Entry.{Entry}
use Rattle.snap_shared.specs.declared.rule.SeatState.{SeatState}
use Rattle.snap_shared.specs.SeatSteps.{HasTurn}
use Rattle.snap_shared.specs.Histories.{caller_of}
use Rattle.snap_shared.specs.TurnRule.{with_turn}
use Rattle.snap_shared.specs.StepResults.{TriesTurn, TakesTurn, HoldsWorld}

module _ {W : Type 0} (log_of : W → Option (List Entry)) (leads_to : W → List Entry → W → Type 0) where
  abbrev M : Type 0
  M = Me (Option W) (SeatState W Entry)

  pub took : (v w : M) (found : ℕ) → TriesTurn caller_of log_of leads_to v found w → found ≡ 0
      → TakesTurn caller_of log_of leads_to v w
  took v w found l f = subst (λ x. MatchBool x (TakesTurn caller_of log_of leads_to v w) (w ≡ v)) (eq-eqb found 0 f) l

  -- The world found in the slot is the world that came with the turn.
  pub has_turn : (v w one : M) (found : Option W) (h : W) → TakesTurn caller_of log_of leads_to v w
      → w.1 ≡ (0, found) ∷ rest w.1 → found ≡ Some h → one ≡ (w.0, (0, None) ∷ rest w.1)
      → HasTurn log_of leads_to v.0 h one
  has_turn v w one found h tk e f m =
      let head : List (ℕ × Option W) → Option W = λ l. elim l [ [] ↦ None | x ∷ xs ↦ x.1 ] in
      let p : found ≡ Some tk.0 = ap head (sym e ∙ ap (λ (x : M). x.1) tk.2) in
      let same : tk.0 ≡ h = cc in
      let none : rest w.1 ≡ [] = ap (λ (x : M). rest x.1) tk.2 in
      let view : w.0 ≡ with_turn v.0 tk.1 = ap (λ (x : M). x.0) tk.2 in
      record {
        log = tk.1;
        is = m ∙ (λ i. (view i, (0, None) ∷ none i));
        holds = subst (λ (x : W). HoldsWorld caller_of log_of leads_to v.0 tk.1 x) same tk.3;
      }
