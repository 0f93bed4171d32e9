use Rattle.std.proofs.Common.{◌≤◌, ◌-◌, length, drop}
use Rattle.composer.specs.QuietRuns.{Layers, AreLayers, QuietWalk}
use Rattle.composer.proofs.runs.next_call_around.Given as goal

abbrev pub invariant-loop-next : goal.invariant-loop-next
invariant-loop-next l = record {
  low : l.first ≤ l.next;
  inside : l.next ≤ length l.last.groups;
  quiet : (ls : Layers) → AreLayers l.depth ls (drop l.first l.last.groups)
      → QuietWalk l.last.owed.objects l.depth l.last.groups l.first l.next ls;
}

abbrev pub decreases-loop-next : goal.decreases-loop-next
decreases-loop-next l = length l.last.groups - l.next
