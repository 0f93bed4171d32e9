use Rattle.std.proofs.Common.{◌≡◌, ℕ, ◌<◌, true}
use Rattle.rt_values.specs.Maps.{contains}
use Rattle.snap_records.specs.Chains.{chain_of}
use Rattle.snap_records.specs.Records.{Rec, Has}
use Rattle.snap_world.proofs.used_ids.add_record_ids.Given as goal

abbrev pub invariant-loop-x : goal.invariant-loop-x
invariant-loop-x l = record {
  more : (i : ℕ) → contains i l.initial.used ≡ true → contains i l.used ≡ true;
  all : (y : ℕ) (p : Rec) → y < l.x → Has (chain_of l.chains y) p → contains p.id l.used ≡ true;
}
