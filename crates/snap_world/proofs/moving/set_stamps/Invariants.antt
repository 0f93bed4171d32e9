use Rattle.std.proofs.Common.{◌≡◌, ℕ, ◌<◌, true, false, length, take}
use Rattle.std.specs.Prelude.{slice_index_or}
use Rattle.rt_values.specs.Maps.{contains}
use Rattle.rt_values.specs.declared.maps.StampedValue.{StampedValue}
use Rattle.snap_world.specs.Choices.{EntriesAre, objects_of}
use Rattle.snap_world.proofs.moving.set_stamps.Given as goal

abbrev pub invariant-loop-s : goal.invariant-loop-s
invariant-loop-s l = record {
  put : (f : ℕ → StampedValue) → EntriesAre f l.settled → (x : ℕ) → x < length l.initial.stamps.items
      → contains x (take l.s-index (objects_of l.settled)) ≡ true → slice_index_or l.stamps.items x 0 ≡ (f x).stamp;
  left : (x : ℕ) → contains x (take l.s-index (objects_of l.settled)) ≡ false
      → slice_index_or l.stamps.items x 0 ≡ slice_index_or l.initial.stamps.items x 0;
  many : length l.stamps.items ≡ length l.initial.stamps.items;
}
