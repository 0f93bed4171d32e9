-- Internal: what each atomic step promises to the seat that makes it.
use Rattle.std.specs.Prelude.{◌≡◌, ℕ, ◌==◌, List, [], ◌∷◌, ◌++◌, ◌⊎◌, Option, Some}
use Rattle.std.specs.Bool.{MatchBool}
use mathlib.Core.Option as maybe
use lib.ListN.{get_elem?}
use Rattle.atomic_table.specs.Table.{Me}
use Rattle.snap_shared.specs.declared.rule.SeatState.{SeatState}
use Rattle.snap_shared.specs.Histories.{StartsWith, calls_by}
use Rattle.snap_shared.specs.TurnRule.{with_turn, after_return, with_seen}

-- The lists of a seat are its callers' calls in the history.
abbrev pub AreCallsIn : {E : Type 0} → (E → ℕ) → List E → List (ℕ × List E) → Type 0
AreCallsIn {E} caller log own =
    (i : ℕ) (p : ℕ × List E) → get_elem? own i ≡ maybe.some p → calls_by caller p.0 log ≡ p.1

-- The history is the same, or has one more call of the caller.
abbrev pub GrowsByAtMostOne : {E : Type 0} → (E → ℕ) → ℕ → List E → List E → Type 0
GrowsByAtMostOne {E} caller n old new = (new ≡ old) ⊎ ((e : E) × (new ≡ old ++ e ∷ []) × (caller e ≡ n))

module _ {W E : Type 0} (caller : E → ℕ) (log_of : W → Option (List E)) (leads_to : W → List E → W → Type 0) where
  -- The world that was taken has this history, which begins with what the seat has seen.
  pub record HoldsWorld (v : SeatState W E) (log : List E) (h : W) : Type 0 where
    pub log_is : log_of h ≡ Some log
    pub leads : (o : W) → v.opening ≡ Some o → leads_to o log h
    pub begins : StartsWith log v.seen
    pub own : AreCallsIn caller log v.own

  -- The seat has the turn and the world, and has seen its history.
  abbrev pub TakesTurn : Me (Option W) (SeatState W E) → Me (Option W) (SeatState W E) → Type 0
  TakesTurn v w = (h : W) × (log : List E) × (w ≡ (with_turn v.0 log, (0, Some h) ∷ [])) × HoldsWorld v.0 log h

  -- If 0 was found, the seat has the turn. Else it is as before.
  abbrev pub TriesTurn : Me (Option W) (SeatState W E) → ℕ → Me (Option W) (SeatState W E) → Type 0
  TriesTurn v found w = MatchBool (found == 0) (TakesTurn v w) (w ≡ v)

-- The turn was returned with the world and its history.
abbrev pub ReturnsTurn : {W E : Type 0} → (E → ℕ) → (W → Option (List E)) → Me (Option W) (SeatState W E) → ℕ
    → Me (Option W) (SeatState W E) → Type 0
ReturnsTurn {W} {E} caller log_of v found w = (h : W) × (log : List E) × (v.1 ≡ (0, Some h) ∷ [])
    × (log_of h ≡ Some log) × (w ≡ (after_return caller v.0 log, []))

module _ {W E : Type 0} (caller : E → ℕ) (leads_to : W → List E → W → Type 0) where
  -- The history begins with what the seat has seen and with what it received.
  pub record SawHistory (v : SeatState W E) (log : List E) : Type 0 where
    pub leads : (o : W) → v.opening ≡ Some o → (now : W) × leads_to o log now
    pub begins : StartsWith log v.seen
    pub begins_received : StartsWith log v.received
    pub own : AreCallsIn caller log v.own

  -- The seat has seen the whole history.
  abbrev pub SeesHistory : Me (Option W) (SeatState W E) → ℕ → Me (Option W) (SeatState W E) → Type 0
  SeesHistory v found w = (log : List E) × (w ≡ (with_seen v.0 log, v.1)) × SawHistory v.0 log

  -- The seat has seen what it received.
  abbrev pub AdoptsReceived : Me (Option W) (SeatState W E) → ℕ → Me (Option W) (SeatState W E) → Type 0
  AdoptsReceived v found w = (log : List E) × (w ≡ (with_seen v.0 v.0.received, v.1)) × SawHistory v.0 log
