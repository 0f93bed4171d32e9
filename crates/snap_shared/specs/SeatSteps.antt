-- Internal: the state of a seat before, during and after a call.
use Rattle.std.specs.Prelude.{◌≡◌, ℕ, ◌<◌, List, [], ◌∷◌, length, Option, Some, None}
use mathlib.Core.Option as maybe
use lib.ListN.{get_elem?}
use Rattle.atomic_table.specs.Table.{Me}
use Rattle.snap_api.specs.declared.data.Entry.{Entry}
use Rattle.snap_shared.specs.declared.rule.Phase.TheVariants as phase
use Rattle.snap_shared.specs.declared.rule.SeatState.{SeatState}
use Rattle.snap_shared.specs.Histories.{caller_of, StartsWith}
use Rattle.snap_shared.specs.SharedCalls.{own_calls}
use Rattle.snap_shared.specs.StepResults.{HoldsWorld, GrowsByAtMostOne, SeesHistory, AdoptsReceived}
use Rattle.snap_shared.specs.TurnRule.{with_turn, occurrences, joined_state, note_of, callers_from}

module _ {W : Type 0} (log_of : W → Option (List Entry)) (leads_to : W → List Entry → W → Type 0) where
  -- The seat has the turn and has taken the world out of the slot.
  pub record HasTurn (v : SeatState W Entry) (h : W) (m : Me (Option W) (SeatState W Entry)) : Type 0 where
    pub log : List Entry
    pub is : m ≡ (with_turn v log, (0, None) ∷ [])
    pub holds : HoldsWorld caller_of log_of leads_to v log h

  -- The seat may return the turn with a world whose history has at most one more call of the caller.
  pub record CanReturn (opening : W) (m : Me (Option W) (SeatState W Entry)) (h : W) : Type 0 where
    pub number : ℕ
    pub log : List Entry
    pub has : m.0.phase ≡ phase.HasTurn
    pub empty : m.1 ≡ (0, None) ∷ []
    pub opened : m.0.opening ≡ Some opening
    pub mine : 0 < occurrences number m.0.own
    pub log_is : log_of h ≡ Some log
    pub grows : GrowsByAtMostOne caller_of number m.0.seen log
    pub leads : leads_to opening log h

-- The seat joined a note of the other seat, and has then seen the whole history.
abbrev pub SeesJoined : {W : Type 0} → (W → List Entry → W → Type 0) → Me (Option W) (SeatState W Entry)
    → Me (Option W) (SeatState W Entry) → Me (Option W) (SeatState W Entry) → Type 0
SeesJoined leads_to v w x = SeesHistory caller_of leads_to (joined_state v.0 (note_of w.0), v.1) 0 x

-- The seat joined a note of the other seat, and has then seen exactly what the note had.
abbrev pub AdoptsJoined : {W : Type 0} → (W → List Entry → W → Type 0) → Me (Option W) (SeatState W Entry)
    → Me (Option W) (SeatState W Entry) → Me (Option W) (SeatState W Entry) → Type 0
AdoptsJoined leads_to v w x = AdoptsReceived caller_of leads_to (joined_state v.0 (note_of w.0), v.1) 0 x

-- A state has the caller with its own calls, and has seen all that the caller's seat had.
pub record CoversSeat {W : Type 0} (v : SeatState W Entry) (number : ℕ) (seen : List Entry) : Type 0 where
  pub index : ℕ
  pub there : get_elem? v.own index ≡ maybe.some (number, own_calls number seen)
  pub begins : StartsWith v.seen seen

-- A seat with this number of callers, at rest.
pub record IsJoinedSeat {W : Type 0} (opening : W) (count : ℕ) (m : Me (Option W) (SeatState W Entry)) : Type 0 where
  pub idle : m.0.phase ≡ phase.Idle
  pub opened : m.0.opening ≡ Some opening
  pub many : length m.0.own ≡ count
  pub empty : m.1 ≡ []

-- A seat that has seen nothing, with `n` callers from number `k` on.
abbrev pub state_with_callers : {W : Type 0} → W → ℕ → ℕ → SeatState W Entry
state_with_callers opening k n =
    record { opening = Some opening; own = callers_from k n; phase = phase.Idle; seen = []; received = [] }
