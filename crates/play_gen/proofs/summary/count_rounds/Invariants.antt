use Rattle.std.proofs.Common.{◌≡◌, ◌++◌, length, List, None}
use Rattle.lang_ast.specs.Terms.{Func}
use Rattle.lang_script.specs.StepCalls.{ActorPart}
use Rattle.play_run.specs.RunOutput.{Run}
use Rattle.play_run.specs.RunState.{RunFacts}
use Rattle.play_gen.specs.GeneratedScript.{rounds}
use Rattle.play_gen.specs.Counting.{CountsAt, forms_parts}
use Rattle.play_gen.proofs.summary.count_rounds.Given as goal

abbrev pub invariant-loop-left : goal.invariant-loop-left
invariant-loop-left g l =
    (l.size ≡ length l.items)
    × ((functions : List Func) (r : Run)
    → RunFacts functions g.V.Versions.stands l.initial.world l.initial.counting.memory.composition 0 None r →
    (done : List ActorPart) × (done ++ forms_parts (rounds l.size l.left l.draws l.items)
    ≡ forms_parts (rounds l.size l.size l.initial.draws l.initial.items))
    × CountsAt functions g.V.Versions.stands done l.world l.counting None l.initial.counting.tally r)

abbrev pub decreases-loop-left : goal.decreases-loop-left
decreases-loop-left g l = l.left
