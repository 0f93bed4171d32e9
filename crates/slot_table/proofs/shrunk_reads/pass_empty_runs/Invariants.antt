use Rattle.std.proofs.Common.{◌≡◌, ◌∷◌, List, length}
use Rattle.rt_groups.specs.declared.groups.Group.{Group}
use Rattle.slot_table.specs.KeptRuns.{patched, gaps, AreInside}
use Rattle.slot_table.proofs.shrunk_reads.pass_empty_runs.Given as goal

abbrev pub invariant-loop-run : goal.invariant-loop-run
invariant-loop-run l = record {
  groups : (olds fresh : List Group) →
      patched olds fresh (l.run ∷ l.left) ≡ patched olds fresh (l.initial.run ∷ l.initial.runs);
  gaps_are : gaps (l.run ∷ l.left) ≡ gaps (l.initial.run ∷ l.initial.runs);
  inside : (olds : List Group) → AreInside olds (l.initial.run ∷ l.initial.runs) → AreInside olds (l.run ∷ l.left);
}

abbrev pub decreases-loop-run : goal.decreases-loop-run
decreases-loop-run l = length l.left
