use Rattle.std.proofs.Common.{◌≡◌, ◌<◌, ◌+◌, ◌-◌, ◌^◌, min, length}
use Rattle.lang_script.specs.Scripts.{forms_count}
use Rattle.lang_script.proofs.limits.forms_count.Given as goal

abbrev pub invariant-loop-form : goal.invariant-loop-form
invariant-loop-form l =
    (l.count < 2 ^ 64) × (min (l.count + forms_count l.rest) (2 ^ 64 - 1) ≡ min (forms_count l.forms) (2 ^ 64 - 1))

abbrev pub decreases-loop-form : goal.decreases-loop-form
decreases-loop-form l = length l.rest
