-- Trusted: the desk of a seat, which shows a map that no other caller can change.
use Rattle.std.specs.Prelude.{◌≡◌, ℕ, ◌≤◌, List, [], ◌∷◌, ◌++◌, length, Option, Some, None, Bool, true, false, not, ◌&&◌, ◌||◌, ◌==◌}
use Rattle.rt_values.specs.Maps.{Map}
use Rattle.rt_values.specs.declared.names.Kind.TheVariants.{Readonly}
use Rattle.snap_policy.specs.Rules.{Rules}
use Rattle.snap_api.specs.ShownMap.{map_of}
use Rattle.snap_api.specs.DeskReads.{LogsReadsIn}
use Rattle.snap_api.specs.Valid.{IsValid}
use Rattle.snap_api.specs.World.{World, snapshot_of, is_closed, world_after, IsLegal}
use Rattle.snap_api.specs.declared.data.Entry.{Entry}
use Rattle.snap_api.specs.declared.data.Request.{Request}
use Rattle.snap_api.specs.declared.data.Request.TheVariants as request
use Rattle.snap_shared.specs.Histories.{StartsWith}
use Rattle.snap_shared.specs.SharedCalls.{own_calls}

-- Whether a request is a read.
abbrev pub is_read : Request → Bool
is_read (request.Read name x) = true
is_read _ = false

-- Whether a request is a take for watcher n.
abbrev pub is_take_for : ℕ → Request → Bool
is_take_for n (request.TakeFor k) = k == n
is_take_for n _ = false

-- Whether an entry is another caller's call, or a read of the caller.
abbrev pub is_other_or_read : ℕ → Entry → Bool
is_other_or_read number e = not (e.caller == number) || is_read e.request

-- Whether each entry is another caller's call, or a read of the caller.
abbrev pub AreOthersOrReads : ℕ → List Entry → Type 0
AreOthersOrReads number [] = Unit {0}
AreOthersOrReads number (e ∷ es) = (is_other_or_read number e ≡ true) × AreOthersOrReads number es

-- No other caller takes for watcher n.
abbrev pub IsOnlyTaker : ℕ → ℕ → List Entry → Type 0
IsOnlyTaker number n [] = Unit {0}
IsOnlyTaker number n (e ∷ es) =
    ((not (e.caller == number) && is_take_for n e.request) ≡ false) × IsOnlyTaker number n es

-- The object of a read.
abbrev pub objects_of_read : Request → List ℕ
objects_of_read (request.Read name x) = x ∷ []
objects_of_read _ = []

-- The objects of all reads, in order.
abbrev pub objects_read : List Entry → List ℕ
objects_read [] = []
objects_read (e ∷ es) = objects_of_read e.request ++ objects_read es

-- An open readonly snapshot of the caller.
pub record IsOwnReadonly {P : Type 0} (w : World P) (number name : ℕ) : Type 0 where
  pub live : is_closed w name ≡ false
  pub owner : (snapshot_of w name).owner ≡ number
  pub kind : (snapshot_of w name).kind ≡ Readonly
  pub inner : (name == 0) ≡ false

-- Whether a snapshot is open, and is a readonly snapshot of the caller.
abbrev pub OpensOwnReadonly : {P : Type 0} → World P → ℕ → Option ℕ → Type 0
OpensOwnReadonly w number None = ⊥
OpensOwnReadonly w number (Some name) = IsOwnReadonly w number name

-- The world after the history, from a valid opening world from which the history is legal.
pub record IsPossibleWorld {P : Type 0} (rules : Rules P) (opens : World P → Type 0) (log : List Entry)
    (w : World P) : Type 0 where
  pub opening : World P
  pub is_opening : opens opening
  pub valid : IsValid rules opening
  pub legal : IsLegal rules opening log
  pub is : w ≡ world_after rules opening log

-- In a world that is possible after the history, the caller's open snapshot shows this map, which has each object.
pub record SeesMap {P : Type 0} (rules : Rules P) (opens : World P → Type 0) (log : List Entry) (number : ℕ)
    (opened : Option ℕ) (m : Map) : Type 0 where
  pub world : World P
  pub now : IsPossibleWorld rules opens log world
  pub mine : OpensOwnReadonly world number opened
  pub shows : m ≡ map_of world opened
  pub full : length m ≡ length world.objects

-- In a world that is possible after the history, the clock is at least k.
pub record ClockIsAtLeast {P : Type 0} (rules : Rules P) (opens : World P → Type 0) (log : List Entry)
    (k : ℕ) : Type 0 where
  pub world : World P
  pub now : IsPossibleWorld rules opens log world
  pub reached : k ≤ world.clock

-- A seat has seen more of one history: what it has seen now begins with what it had seen, and is legal from each
-- opening world from which that was legal.
pub record SeesFurther {P : Type 0} (rules : Rules P) (opens : World P → Type 0)
    (seen seen' : List Entry) : Type 0 where
  pub begins : StartsWith seen' seen
  pub legal : (o : World P) → opens o → IsLegal rules o seen → IsLegal rules o seen'

-- A desk after reads is of the same caller and shows the same snapshot. What it has seen grew by other callers' calls
-- and these reads only.
pub record SeatAfterReads {P : Type 0} (rules : Rules P) (opens opens' : World P → Type 0) (seen seen' : List Entry)
    (number number' : ℕ) (opened opened' : Option ℕ) : Type 0 where
  pub opens_on : (o : World P) → opens o → opens' o
  pub legal_on : (o : World P) → opens o → IsLegal rules o seen → IsLegal rules o seen'
  pub more : List Entry
  pub others_or_reads : AreOthersOrReads number more
  pub is : seen' ≡ seen ++ more
  pub same_number : number' ≡ number
  pub same_name : opened' ≡ opened
  pub read : List ℕ
  pub asks : objects_read (own_calls number' seen') ≡ objects_read (own_calls number seen) ++ read
  pub tells : LogsReadsIn (Some (own_calls number seen)) (Some (own_calls number' seen')) number opened read
