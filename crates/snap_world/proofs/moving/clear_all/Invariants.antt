use Rattle.std.proofs.Common.{◌≡◌, ℕ, ◌≤◌, length}
use Rattle.snap_records.specs.Edits.{chain_without_ids}
use Rattle.snap_records.specs.Chains.{chain_of}
use Rattle.snap_world.proofs.NotedLoops.{IsDone}
use Rattle.snap_world.proofs.moving.clear_all.Given as goal

abbrev pub invariant-loop-x : goal.invariant-loop-x
invariant-loop-x l = record {
  done : IsDone (chain_without_ids l.ids) l.x-items l.count (chain_of l.initial.chains) l.x-index (chain_of l.chains);
  past : (x : ℕ) → l.count ≤ x → chain_of l.chains x ≡ chain_of l.initial.chains x;
  many : length l.chains.heads.items ≡ length l.initial.chains.heads.items;
}
