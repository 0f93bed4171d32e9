-- Law: what a snapshot for a watcher shows, and which objects its take lists.
use Rattle.std.specs.Prelude.{◌≡◌, ℕ, ◌<◌, List, [], length, Some, true, false, ◌||◌}
use Rattle.std.specs.Option.{unwrap_or}
use Rattle.rt_values.specs.declared.value.Value.{Value}
use Rattle.rt_values.specs.Maps.{Map, entry_at, value_at, differ, contains}
use Rattle.snap_policy.specs.Rules.{Rules}
use Rattle.snap_api.specs.Valid.{IsValid, MovedOn}
use Rattle.snap_api.specs.World.{World, call, world_after, History, snapshot_of, last_of}
use Rattle.snap_api.specs.declared.data.Reply.TheVariants as reply
use Rattle.snap_api.specs.declared.data.Request.TheVariants as request

module _ {P : Type 0} (rules : Rules P) where
  -- A snapshot that is taken for a watcher shows what global showed at the take, after any calls of any callers.
  abbrev pub FrameShowsItsTake : Type 0
  FrameShowsItsTake = (w : World P) (caller watcher name : ℕ) (changed : List ℕ) (calls : History) → IsValid rules w →
      (call rules w caller (request.TakeFor watcher)).1 ≡ reply.TakenFor name changed →
      (snapshot_of (world_after rules (call rules w caller (request.TakeFor watcher)).0 calls) name).view
      ≡ (snapshot_of w 0).view

  -- A read of a snapshot that was taken for a watcher returns the value that global had at the take, if it succeeds.
  abbrev pub FrameReadsItsTake : Type 0
  FrameReadsItsTake = (w : World P) (caller watcher name : ℕ) (changed : List ℕ) (calls : History) (reader x : ℕ)
      (value : Value) → IsValid rules w →
      (call rules w caller (request.TakeFor watcher)).1 ≡ reply.TakenFor name changed →
      (call rules (world_after rules (call rules w caller (request.TakeFor watcher)).0 calls) reader
      (request.Read name x)).1 ≡ reply.Got value →
      value ≡ value_at (snapshot_of w 0).view x

  -- An object that a take for a watcher does not list has the stamped value of the watcher's last map. An object that it
  -- lists exists, and is new since that map or has a later stamp.
  abbrev pub WatcherMissesNothing : Type 0
  WatcherMissesNothing = (w : World P) (caller watcher name : ℕ) (changed : List ℕ) (x : ℕ) → IsValid rules w →
      (call rules w caller (request.TakeFor watcher)).1 ≡ reply.TakenFor name changed →
      let last = unwrap_or (last_of w watcher) [] in
      let now = (snapshot_of w 0).view in
      (contains x changed ≡ false → x < length now → (x < length last) × (entry_at now x ≡ entry_at last x))
      × (contains x changed ≡ true →
      (x < length now) × (x < length last → (entry_at last x).stamp < (entry_at now x).stamp))

  -- A second take for a watcher, right after the first, lists no object.
  abbrev pub WatcherHearsNothingTwice : Type 0
  WatcherHearsNothingTwice = (w : World P) (caller other watcher name again : ℕ) (changed more : List ℕ) →
      IsValid rules w → (call rules w caller (request.TakeFor watcher)).1 ≡ reply.TakenFor name changed →
      (call rules (call rules w caller (request.TakeFor watcher)).0 other (request.TakeFor watcher)).1
      ≡ reply.TakenFor again more → more ≡ []

-- Between three maps of one world, each later than the one before, an object differs between the first and the last
-- exactly if it differs in one of the two steps.
abbrev pub ListsAddUp : Type 0
ListsAddUp = (l m n : Map) (x : ℕ) → MovedOn l m → MovedOn m n →
    contains x (differ (Some l) n) ≡ (contains x (differ (Some l) m) || contains x (differ (Some m) n))
