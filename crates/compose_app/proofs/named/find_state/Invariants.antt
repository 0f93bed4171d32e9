use Rattle.std.proofs.Common.{◌≡◌, ◌+◌, length}
use Rattle.lang_script.specs.Scripts.{index_of}
use Rattle.compose_app.specs.Programs.{state_names}
use Rattle.compose_app.proofs.named.find_state.Given as goal

abbrev pub invariant-loop-state : goal.invariant-loop-state
invariant-loop-state l =
    (l.number + length l.rest ≡ length l.states)
    × (l.number + index_of l.name (state_names l.rest) ≡ index_of l.name (state_names l.states))

abbrev pub decreases-loop-state : goal.decreases-loop-state
decreases-loop-state l = length l.rest
