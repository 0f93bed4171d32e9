use Rattle.std.proofs.Common.{◌≡◌, ◌+◌, length}
use Rattle.snap_policy.specs.declared.policy.BuiltIn.{BuiltIn}
use Rattle.snap_api.specs.World.{World, start}
use Rattle.lang_script.specs.StepCalls.{with_states}
use Rattle.compose_app.specs.Openings.{IsOpened}
use Rattle.compose_app.proofs.opening.make_states.Given as goal

abbrev pub invariant-loop-state : goal.invariant-loop-state
invariant-loop-state g l = (n : World BuiltIn) × IsOpened (g.V.Versions.stands l.world) n
    × (with_states n l.rest ≡ with_states (start 0) l.states) × (length n.objects + length l.rest ≡ length l.states)

abbrev pub decreases-loop-state : goal.decreases-loop-state
decreases-loop-state g l = length l.rest
