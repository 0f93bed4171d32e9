use Rattle.std.proofs.Common.{◌≡◌, ◌≤◌, reverse, length}
use Rattle.std.specs.Option.{option_map}
use Rattle.node_tree.specs.Calls.{AllAllowed, insert_count}
use Rattle.node_tree.specs.Calls as calls
use Rattle.node_tree.proofs.carrying.carry.Given as goal

abbrev pub invariant-loop-op : goal.invariant-loop-op
invariant-loop-op g l = record {
  tree : option_map (λ t. calls.tree_after_calls t (reverse l.rest.items)) (g.A.Applier.tree l.applier) ≡ option_map
      (λ t. calls.tree_after_calls t l.fn.ops) (g.A.Applier.tree l.fn.applier);
  may : AllAllowed (g.A.Applier.tree l.applier) (reverse l.rest.items);
  room : insert_count (reverse l.rest.items) ≤ g.A.Applier.spare l.applier;
  faults : g.A.Applier.faults l.fn.applier ≤ g.A.Applier.faults l.applier;
}

abbrev pub decreases-loop-op : goal.decreases-loop-op
decreases-loop-op g l = length l.rest.items
