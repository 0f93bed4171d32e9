-- Internal: the rule of the table, which says whose turn it is, where the world is, and what each seat has seen. It
-- concerns any entries with a caller, any world with a log, and any relation between a world, a history and a later
-- world.
use Rattle.std.specs.Prelude.{◌≡◌, ℕ, zero, suc, ◌+◌, ◌<◌, ◌≤◌, ◌⊎◌, ◌==◌, nat_lt, List, [], ◌∷◌, ◌++◌, length, Option, Some, None, if◌then◌else◌}
use mathlib.Core.Option as maybe
use lib.ListN.{get_elem?}
use Rattle.atomic_table.specs.Table.{State}
use Rattle.snap_shared.specs.declared.rule.Phase.TheVariants.{Idle, HasTurn}
use Rattle.snap_shared.specs.declared.rule.SeatState.{SeatState}
use Rattle.snap_shared.specs.Histories.{StartsWith, calls_by}

-- How often a number occurs in a list of callers.
abbrev pub occurrences : {E : Type 0} → ℕ → List (ℕ × List E) → ℕ
occurrences k [] = 0
occurrences k (p ∷ ps) = (if p.0 == k then 1 else 0) + occurrences k ps

-- 1 if `k` is below `n`, else 0.
abbrev pub one_if_below : ℕ → ℕ → ℕ
one_if_below k n = if nat_lt k n then 1 else 0

-- `n` callers from number `k` on, without calls.
abbrev pub callers_from : {E : Type 0} → ℕ → ℕ → List (ℕ × List E)
callers_from k zero = []
callers_from k (suc n) = (k, []) ∷ callers_from (suc k) n

-- The callers with their calls in a history.
abbrev pub with_calls_in : {E : Type 0} → (E → ℕ) → List E → List (ℕ × List E) → List (ℕ × List E)
with_calls_in caller log [] = []
with_calls_in caller log (p ∷ ps) = (p.0, calls_by caller p.0 log) ∷ with_calls_in caller log ps

-- The first item of a list, as a list.
abbrev pub first_item : {A : Type 0} → List A → List A
first_item [] = []
first_item (x ∷ xs) = x ∷ []

-- A list without its first item.
abbrev pub other_items : {A : Type 0} → List A → List A
other_items [] = []
other_items (x ∷ xs) = xs

module _ {W E : Type 0} where
  -- The sum of a number for each seat.
  abbrev pub total : (SeatState W E → ℕ) → List (SeatState W E) → ℕ
  total f [] = 0
  total f (v ∷ vs) = f v + total f vs

  -- The number of callers of all seats.
  abbrev pub caller_total : List (SeatState W E) → ℕ
  caller_total = total (λ v. length v.own)

  -- The state with the turn, which sees the whole history.
  abbrev pub with_turn : SeatState W E → List E → SeatState W E
  with_turn v log = record { opening = v.opening; own = v.own; phase = HasTurn; seen = log; received = v.received }

  -- The state after returning the turn with this history.
  abbrev pub after_return : (E → ℕ) → SeatState W E → List E → SeatState W E
  after_return caller v log = record {
    opening = v.opening;
    own = with_calls_in caller log v.own;
    phase = Idle;
    seen = log;
    received = v.received;
  }

  -- The state that has seen this history.
  abbrev pub with_seen : SeatState W E → List E → SeatState W E
  with_seen v log = record { opening = v.opening; own = v.own; phase = v.phase; seen = log; received = v.received }

  -- The state of a note of a seat. A note has seen what the seat has seen, and has no caller.
  abbrev pub note_of : SeatState W E → SeatState W E
  note_of v = record { opening = v.opening; own = []; phase = Idle; seen = v.seen; received = [] }

  -- The seat of the first caller, split off.
  abbrev pub split_right : SeatState W E → SeatState W E
  split_right v = record { opening = v.opening; own = first_item v.own; phase = Idle; seen = v.seen; received = [] }

  -- The seat of the other callers, which remains.
  abbrev pub split_left : SeatState W E → SeatState W E
  split_left v =
      record { opening = v.opening; own = other_items v.own; phase = v.phase; seen = v.seen; received = v.received }

  -- A seat that takes another's callers and receives what that seat has seen.
  abbrev pub joined_state : SeatState W E → SeatState W E → SeatState W E
  joined_state v w =
      record { opening = v.opening; own = v.own ++ w.own; phase = v.phase; seen = v.seen; received = w.seen }

  -- The state of a seat that was joined to another.
  abbrev pub spent_state : SeatState W E
  spent_state = record { opening = None; own = []; phase = Idle; seen = []; received = [] }

  -- The state of the first seat, which has all callers.
  abbrev pub first_state : W → ℕ → SeatState W E
  first_state key n = record { opening = Some key; own = callers_from 0 n; phase = Idle; seen = []; received = [] }

module _ {W E : Type 0} (caller : E → ℕ) (log_of : W → Option (List E)) (leads_to : W → List E → W → Type 0) where
  -- A world with this history exists.
  abbrev pub HasWorldAfter : W → List E → Type 0
  HasWorldAfter opening log = (now : W) × leads_to opening log now

  -- The word is 0, the world is in its slot and no seat has the turn; or the word is not 0 and a seat has taken the
  -- turn and the world.
  abbrev pub IsSlot : W → List E → ℕ → List (maybe.Option (Option W)) → List (SeatState W E) → Type 0
  IsSlot opening log word homes views =
      ((h : W) × (homes ≡ maybe.some (Some h) ∷ []) × (log_of h ≡ Some log) × leads_to opening log h
      × ((id : ℕ) (v : SeatState W E) → get_elem? views id ≡ maybe.some v → v.phase ≡ HasTurn → ⊥) × (word ≡ 0))
      ⊎ ((homes ≡ maybe.none ∷ []) × HasWorldAfter opening log
      × ((id : ℕ) × (v : SeatState W E) × (get_elem? views id ≡ maybe.some v) × (v.phase ≡ HasTurn))
      × (word ≡ 0 → ⊥))

  -- The state of one seat follows the rule, for an opening world and a history.
  pub record IsSeatState (opening : W) (log : List E) (v : SeatState W E) : Type 0 where
    pub opened : (o : W) → v.opening ≡ Some o → o ≡ opening
    pub begins : StartsWith log v.seen
    pub begins_received : StartsWith log v.received
    pub own : (i : ℕ) (p : ℕ × List E) → get_elem? v.own i ≡ maybe.some p → calls_by caller p.0 log ≡ p.1
    pub turn : v.phase ≡ HasTurn → (v.seen ≡ log) × (0 < length v.own)

  -- The state of the table follows the rule, for an opening world and `n` callers.
  pub record IsKept (opening : W) (n : ℕ) (s : State (Option W) (SeatState W E)) : Type 0 where
    -- The value of the word, and the history so far.
    pub word : ℕ
    pub log : List E
    pub words_are : s.words ≡ word ∷ []
    -- Each number below `n` is a caller of exactly one seat. No other number is a caller of a seat or in the history.
    pub all_callers : caller_total s.views ≡ n
    pub once : (k : ℕ) → total (λ v. occurrences k v.own) s.views ≡ one_if_below k n
    pub outside : (k : ℕ) → n ≤ k → calls_by caller k log ≡ []
    pub states : (id : ℕ) (v : SeatState W E) → get_elem? s.views id ≡ maybe.some v → IsSeatState opening log v
    -- At most one seat has the turn.
    pub distinct : (i j : ℕ) (u v : SeatState W E) → get_elem? s.views i ≡ maybe.some u
        → get_elem? s.views j ≡ maybe.some v → u.phase ≡ HasTurn → v.phase ≡ HasTurn → i ≡ j
    pub slot : IsSlot opening log word s.homes s.views
