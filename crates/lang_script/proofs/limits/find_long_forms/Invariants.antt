use Rattle.std.proofs.Common.{◌≡◌, ◌≤◌, length}
use Rattle.lang_script.specs.ScriptFaults.{long_forms, most_steps, first_of_faults}
use Rattle.lang_script.proofs.limits.find_long_forms.Given as goal

abbrev pub invariant-loop-form : goal.invariant-loop-form
invariant-loop-form l = (l.left ≤ most_steps)
    × (first_of_faults l.least (long_forms l.left l.rest)
    ≡ first_of_faults l.initial.least (long_forms most_steps l.forms))

abbrev pub decreases-loop-form : goal.decreases-loop-form
decreases-loop-form l = length l.rest
