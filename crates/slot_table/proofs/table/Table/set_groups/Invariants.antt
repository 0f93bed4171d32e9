use Rattle.std.proofs.Common.{◌≡◌, length}
use Rattle.slot_table.specs.KeptRuns.{set_all, KeepDepths}
use Rattle.slot_table.proofs.table.Table.set_groups.Given as goal

abbrev pub invariant-loop-place : goal.invariant-loop-place
invariant-loop-place l = record {
  long : length l.places.items ≡ length l.fresh;
  depths : KeepDepths l.self.groups l.places.items l.fresh;
  same : set_all l.self.groups l.places.items l.fresh
      ≡ set_all l.initial.self.groups l.initial.places.items l.initial.fresh;
}

abbrev pub decreases-loop-place : goal.decreases-loop-place
decreases-loop-place l = length l.places.items
