use Rattle.std.proofs.Common.{◌≡◌, ◌<◌, ◌+◌, ◌-◌, ◌^◌, min, length}
use Rattle.lang_script.specs.Scripts.{steps_count}
use Rattle.lang_script.proofs.limits.steps_count.Given as goal

abbrev pub invariant-loop-step : goal.invariant-loop-step
invariant-loop-step l =
    (l.count < 2 ^ 64) × (min (l.count + steps_count l.rest) (2 ^ 64 - 1) ≡ min (steps_count l.steps) (2 ^ 64 - 1))

abbrev pub decreases-loop-step : goal.decreases-loop-step
decreases-loop-step l = length l.rest
