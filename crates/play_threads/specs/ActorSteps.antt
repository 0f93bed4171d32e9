-- Internal: how far an actor on a thread has come with its steps, and what its seat and its memory show of that.
use Rattle.std.specs.Prelude.{◌≡◌, ◌≢◌, ℕ, ◌==◌, ◌<◌, ◌≤◌, ◌+◌, Bool, false, List, [], ◌∷◌, ◌++◌, length, Option, Some, None}
use Rattle.snap_policy.specs.declared.policy.BuiltIn.{BuiltIn}
use Rattle.snap_policy.specs.Table.{table}
use Rattle.snap_api.specs.Valid.{IsValid}
use Rattle.snap_api.specs.World.{World, History, IsLegal, world_after}
use Rattle.snap_api.specs.declared.data.Request.{Request}
use Rattle.snap_shared.specs.Seats.{opening_of, seat_number, seen_by, mine_of, IsSeat}
use Rattle.snap_shared.specs.SharedCalls.{own_calls, HasOnlyCallersBelow}
use Rattle.snap_shared.specs.declared.shared.Seat.{Seat}
use Rattle.snap_shared.specs.declared.shared.Shared.{Shared}
use Rattle.lang_script.specs.SnapshotNames.{NamedNumber, latest, never_taken}
use Rattle.lang_script.specs.StepCalls.{Part, ActorPart, Notes, of_actor, request_of}
use Rattle.script_lang.specs.PrintedCalls.{printed_calls}
use Rattle.play_run.specs.RunState.{AreKnown}
use Rattle.play_laws.specs.FirstParts.{IsFirstPart, SpellsTo}
use Rattle.play_laws.specs.PartTurns.{Alternates}
use Rattle.play_laws.specs.PrintedHistory.{frames_after_calls}
use Rattle.play_laws.specs.Woven.{ActorState, actor_at, initial_actor, SpellsAll}
use Rattle.play_steps.specs.ActorNotes.{IsNoted}
use Rattle.play_steps.specs.declared.memory.ActorMemory.{ActorMemory}
use Rattle.play_threads.specs.declared.worker.Worker.{Worker}

-- The seat is at rest in the shared world, and its caller has this number.
pub record IsSeated {W P : Type 0} (shared : Shared W P) (caller : ℕ) (seat : Seat W) : Type 0 where
  pub fits : IsSeat shared seat
  pub is_callers : seat_number seat ≡ caller

-- A valid world with a global snapshot, whose clock counts the snapshots.
pub record CountsSnapshots (w : World BuiltIn) : Type 0 where
  pub some : 0 < length w.snapshots
  pub few : length w.snapshots ≤ w.clock + 1
  pub valid : IsValid table w

-- The open frame's snapshot exists and is not global, and no name has its number.
pub record IsApart (w : World BuiltIn) (names : List NamedNumber) (frame : ℕ) : Type 0 where
  pub inner : (frame == 0) ≡ false
  pub within : frame < length w.snapshots
  pub below : frame < never_taken
  pub apart : (other : List ℕ) (n : ℕ) → latest names other ≡ Some n → n ≢ frame

-- `FrameIsApart w names frame`: the open frame's snapshot is apart (`IsApart`), if a frame is open.
abbrev pub FrameIsApart : World BuiltIn → List NamedNumber → Option ℕ → Type 0
FrameIsApart w names None = Unit {0}
FrameIsApart w names (Some frame) = IsApart w names frame

-- The snapshot of the open frame, if there is one.
abbrev pub frame_list : Option ℕ → List ℕ
frame_list None = []
frame_list (Some frame) = frame ∷ []

-- Frames begin and end in turn in the parts that are left, of which the first is inside of a frame if one is open.
pub record IsInOrder (frame : Option ℕ) (left : List ActorPart) : Type 0 where
  pub inside : Bool
  pub alternates : Alternates left inside
  pub outside : inside ≡ false → frame ≡ None

-- An actor that was in the state `before` has these parts left. `seen` is the shared history that its seat has seen
-- from the world `o`, and `mine` are its own calls.
pub record IsActorAt (o : World BuiltIn) (before : ActorState) (seen mine : History) (m : ActorMemory)
    (left : List ActorPart) : Type 0 where
  pub notes : Notes
  pub noted : IsNoted m notes
  pub spells : SpellsTo before (printed_calls [] mine) (actor_at notes left)
  pub frames : frames_after_calls [] mine ≡ frame_list notes.frame
  pub known : AreKnown (world_after table o seen) notes.names
  pub apart : FrameIsApart (world_after table o seen) notes.names notes.frame
  pub turn : IsInOrder notes.frame left

-- An actor that was in the state `before` has made the calls of a first part of its steps. Unless it has stopped, it
-- has these parts left.
pub record HasCome {W : Type 0} (o : World BuiltIn) (before : ActorState) (w : Worker W)
    (left : List ActorPart) : Type 0 where
  pub first : IsFirstPart before (printed_calls [] (mine_of w.seat))
  pub on : w.short ≡ false → IsActorAt o before (seen_by w.seat) (mine_of w.seat) w.memory left

-- A worker that has `parts` to make, and then others, has come to where `left` are to be made of them.
abbrev pub Leads : {W : Type 0} → (W → World BuiltIn → Type 0) → Shared W BuiltIn → Worker W → Worker W
    → List ActorPart → List ActorPart → Type 0
Leads stands shared w w' parts left =
    (o : World BuiltIn) → stands (opening_of shared) o → CountsSnapshots o →
    (before : ActorState) (rest : List ActorPart) → HasCome o before w (parts ++ rest) → HasCome o before w' (left ++ rest)

-- A worker has made these parts.
abbrev pub Makes : {W : Type 0} → (W → World BuiltIn → Type 0) → Shared W BuiltIn → Worker W → Worker W
    → List ActorPart → Type 0
Makes stands shared w w' parts = Leads stands shared w w' parts []

-- A worker has made the call of a part, from each state in which the part makes this call.
abbrev pub MakesCall : {W : Type 0} → (W → World BuiltIn → Type 0) → Shared W BuiltIn → ℕ → Worker W → Worker W
    → Part → Request → Type 0
MakesCall stands shared a w w' p q =
    (o : World BuiltIn) → stands (opening_of shared) o → CountsSnapshots o →
    (before : ActorState) (rest : List ActorPart) →
    (now : IsActorAt o before (seen_by w.seat) (mine_of w.seat) w.memory (of_actor a p ∷ rest)) →
    request_of now.notes p ≡ Some q → HasCome o before w' rest

-- The calls of an actor with these parts are those of a first part, and all that the parts make unless it has stopped.
pub record HasActed (parts : List ActorPart) (a : ℕ) (mine : History) (short : Bool) : Type 0 where
  pub first : IsFirstPart (initial_actor parts a) (printed_calls [] mine)
  pub whole : short ≡ false → SpellsAll (initial_actor parts a) (printed_calls [] mine)

-- The actor of this number has acted through the seat, which is at rest.
pub record ActsThrough {W : Type 0} (stands : W → World BuiltIn → Type 0) (shared : Shared W BuiltIn)
    (parts : List ActorPart) (a : ℕ) (seat : Seat W) (short : Bool) : Type 0 where
  pub seated : IsSeated shared a seat
  pub acted : (o : World BuiltIn) → stands (opening_of shared) o → CountsSnapshots o
      → HasActed parts a (mine_of seat) short

-- The whole history of `n` actors with these parts on the world `w`: it is legal, and each actor has acted in it.
pub record IsActorsHistory (n : ℕ) (parts : List ActorPart) (w : World BuiltIn) (h : History)
    (short : Bool) : Type 0 where
  pub legal : IsLegal table w h
  pub acted : (a : ℕ) → a < n → HasActed parts a (own_calls a h) short
  pub others : HasOnlyCallersBelow n h
