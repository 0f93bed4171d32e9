use Rattle.std.proofs.Common.{◌≡◌, ℕ, ◌<◌, true, length, Some, take}
use Rattle.std.specs.Prelude.{slice_get}
use Rattle.rt_values.specs.Maps.{contains}
use Rattle.rt_values.specs.declared.maps.StampedValue.{StampedValue}
use Rattle.snap_records.specs.Edits.{Padded, blank}
use Rattle.snap_records.specs.Chains.{chain_of}
use Rattle.snap_world.specs.Choices.{EntriesAre, objects_of}
use Rattle.snap_world.proofs.moving.pad_all.Given as goal

abbrev pub invariant-loop-s : goal.invariant-loop-s
invariant-loop-s l = record {
  padded : (x : ℕ) → Padded (chain_of l.initial.chains x) (chain_of l.chains x);
  head : (f : ℕ → StampedValue) → EntriesAre f l.settled → (x : ℕ) → x < length l.initial.chains.heads.items
      → contains x (take l.s-index (objects_of l.settled)) ≡ true
      → slice_get (chain_of l.chains x) 0 ≡ Some (blank (f x));
  many : length l.chains.heads.items ≡ length l.initial.chains.heads.items;
}
