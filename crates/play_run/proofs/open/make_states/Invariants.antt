use Rattle.std.proofs.Common.{◌≡◌, ◌+◌, length}
use Rattle.snap_policy.specs.declared.policy.BuiltIn.{BuiltIn}
use Rattle.snap_api.specs.World.{World, start}
use Rattle.lang_script.specs.StepCalls.{with_states}
use Rattle.play_run.specs.Opening.{StatesFit}
use Rattle.play_run.proofs.open.make_states.Given as goal

abbrev pub invariant-loop-state : goal.invariant-loop-state
invariant-loop-state g l = (g.V.Versions.log l.world ≡ g.V.Versions.log l.fn.world) × StatesFit l.rest
    × ((n : World BuiltIn) × g.V.Versions.stands l.world n × (with_states n l.rest ≡ with_states (start 0) l.states)
    × (length n.objects + length l.rest ≡ length l.states))

abbrev pub decreases-loop-state : goal.decreases-loop-state
decreases-loop-state g l = length l.rest
