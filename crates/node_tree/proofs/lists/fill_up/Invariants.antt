use Rattle.std.proofs.Common.{◌≤◌, length, max}
use Rattle.node_tree.proofs.lists.fill_up.Given as goal

abbrev pub invariant-loop : goal.invariant-loop
invariant-loop l = record {
  kept : length l.initial.list ≤ length l.list;
  at : length l.list ≤ max (length l.initial.list) l.counter;
  counted : l.counter ≤ length l.list;
  few : l.counter ≤ max (length l.initial.list) l.count;
}
