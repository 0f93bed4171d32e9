use Rattle.std.proofs.Common.{◌≡◌, ◌++◌, length}
use Rattle.play_gen.specs.GeneratedScript.{rounds}
use Rattle.play_gen.proofs.rounds.add_rounds.Given as goal

abbrev pub invariant-loop-left : goal.invariant-loop-left
invariant-loop-left l =
    (l.size ≡ length l.items) × (l.steps ++ rounds l.size l.left l.draws l.items
    ≡ l.initial.steps ++ rounds l.size l.size l.initial.draws l.initial.items)

abbrev pub decreases-loop-left : goal.decreases-loop-left
decreases-loop-left l = l.left
