-- Trusted: what a frame through a seat finds in the shared history.
use Rattle.std.specs.Prelude.{◌≡◌, ℕ, List, ◌∷◌, ◌++◌, Option, Some, None, Result}
use Rattle.rt_values.specs.Maps.{Map}
use Rattle.rt_values.specs.declared.value.Ty.{Ty}
use Rattle.rt_groups.specs.Frames.{LastFrame}
use Rattle.rt_groups.specs.declared.report.Report.{Report}
use Rattle.compose_model.specs.Frame.{FrameResult}
use Rattle.recomposer.specs.declared.composition.Begun.{Begun}
use Rattle.recomposer.specs.declared.composition.Composition.{Composition}
use Rattle.recomposer.specs.declared.composition.FrameStop.{FrameStop}
use Rattle.recomposer.specs.Compositions.{IsAt, BeginsFrame, MakesFrame}
use Rattle.recomposer.specs.FrameContracts.{KnowsLast, ReadsInFrame, RepliesToTake}
use Rattle.snap_policy.specs.Rules.{Rules}
use Rattle.snap_api.specs.Calls.{Logs}
use Rattle.snap_api.specs.Desks.{Lasts}
use Rattle.snap_api.specs.World.{World, snapshot_of}
use Rattle.snap_api.specs.declared.data.Entry.{Entry}
use Rattle.snap_api.specs.declared.data.Reply.TheVariants.{TakenFor}
use Rattle.snap_api.specs.declared.data.Request.TheVariants.{TakeFor}
use Rattle.snap_shared.specs.SeatDesk.{IsPossibleWorld, SeesMap, SeesFurther, ClockIsAtLeast, IsOnlyTaker, objects_read}
use Rattle.snap_shared.specs.Seats.{opening_of, seat_number, seen_by, mine_of, IsSeat}
use Rattle.snap_shared.specs.SharedCalls.{own_calls}
use Rattle.snap_shared.specs.declared.shared.Seat.{Seat}
use Rattle.snap_shared.specs.declared.shared.Shared.{Shared}

-- The caller's take for the watcher is located in the history directly after the caller's earlier calls `mine`, and `m`
-- is what global shows in a world that is possible after all entries before the take.
pub record IsMapAtTake {P : Type 0} (rules : Rules P) (opens : World P → Type 0) (seen mine : List Entry)
    (number watcher : ℕ) (m : Map) : Type 0 where
  pub before : List Entry
  pub name : ℕ
  pub changed : List ℕ
  pub after : List Entry
  pub is : seen ≡ before ++ record { caller = number; request = TakeFor watcher; reply = TakenFor name changed } ∷ after
  pub mine_before : own_calls number before ≡ mine
  pub world : World P
  pub possible : IsPossibleWorld rules opens before world
  pub shows : m ≡ (snapshot_of world 0).view

-- The seat `before` returns from calls on the shared world as `after`: at rest, with the same number, and with at least
-- as much of the history seen.
pub record ReturnsSeat {W P : Type 0} (rules : Rules P) (stands : W → World P → Type 0) (shared : Shared W P)
    (before after : Seat W) : Type 0 where
  pub fits : IsSeat shared after
  pub number : seat_number after ≡ seat_number before
  pub further : SeesFurther rules (stands (opening_of shared)) (seen_by before) (seen_by after)

module _ {W P : Type 0} (rules : Rules P) (stands : W → World P → Type 0) (shared : Shared W P) where
  -- The watcher's last map after what the seat has seen, with the types of the objects.
  abbrev pub HasLast : Seat W → ℕ → List Ty → Option Map → Type 0
  HasLast seat watcher types l =
      Lasts rules (IsPossibleWorld rules (stands (opening_of shared)) (seen_by seat)) watcher types l

  -- The clock is at least `n` after what the seat has seen.
  abbrev pub HasClock : Seat W → ℕ → Type 0
  HasClock seat n = ClockIsAtLeast rules (stands (opening_of shared)) (seen_by seat) n

  -- The seat's open snapshot `name` shows this map.
  abbrev pub ShowsIn : Seat W → ℕ → Map → Type 0
  ShowsIn seat name m = SeesMap rules (stands (opening_of shared)) (seen_by seat) (seat_number seat) (Some name) m

  -- The seat has made a take for the watcher since it was `before`, and the map at that take is the watcher's last one.
  abbrev pub HasTaken : Seat W → Seat W → ℕ → List Ty → Option Map → Type 0
  HasTaken before seat watcher types None = ⊥
  HasTaken before seat watcher types (Some m) =
      HasLast seat watcher types (Some m)
      × IsMapAtTake rules (stands (opening_of shared)) (seen_by seat) (mine_of before) (seat_number before) watcher m

  -- The composition has kept the state `k` of its last good frame, its watcher's last map is `l` before the frame, and
  -- no other caller has taken for the watcher until after the frame.
  abbrev pub MayCompose : Composition → LastFrame → Seat W → Seat W → List Ty → Option Map → Type 0
  MayCompose c k before after types l =
      IsAt c k l × HasLast before c.watcher types l × IsOnlyTaker (seat_number after) c.watcher (seen_by after)

  -- The caller's own calls grew by the take of a frame with the reply of this result, or stayed after out of memory.
  -- After a refusal this is known only if the watcher's last map was.
  abbrev pub TakesThrough : Seat W → Seat W → ℕ → Result Begun FrameStop → Type 0
  TakesThrough before after watcher result =
      RepliesToTake (Logs (Some (mine_of before)) (Some (mine_of after)) (seat_number before) (TakeFor watcher))
      (KnowsLast (HasLast before watcher) (IsOnlyTaker (seat_number after) watcher (seen_by after))) result

  -- The composition has begun the frame of the map `m`, which the seat's snapshot `name` shows.
  abbrev pub HasBegun : Composition → LastFrame → Seat W → ℕ → Map → Type 0
  HasBegun c k seat name m = IsAt c k (Some m) × ShowsIn seat name m

  -- A frame begins well between the two states of the seat: its map is shown, and is the one at its take.
  abbrev pub BeginsThrough : Composition → LastFrame → Seat W → Seat W → List Ty → Option Map → ℕ → List ℕ → Type 0
  BeginsThrough c k before after types l name changed =
      BeginsFrame (IsAt c k) (ShowsIn after name) (HasTaken before after c.watcher types) l name changed

  -- A frame is made between the two states of the seat: its map is the one at its take, the objects that the caller has
  -- read grow by the frame's reads, and the caller's own calls by the frame's calls. `applies` says what the applier
  -- did.
  abbrev pub MakesThrough : Composition → LastFrame → Seat W → Seat W → List Ty
      → (Option FrameResult → Type 0) → Report → Type 0
  MakesThrough c k before after types applies =
      MakesFrame c.program.now k (IsAt c) (HasTaken before after c.watcher types)
      (ReadsInFrame (objects_read (mine_of before)) (objects_read (mine_of after)) (Some (mine_of before))
      (Some (mine_of after)) (seat_number before) c.watcher) applies
