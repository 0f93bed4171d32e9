use Rattle.std.proofs.Common.{◌≡◌, length}
use Rattle.lang_script.specs.ScriptFaults.{forms_wrong_repeats, first_of_faults}
use Rattle.lang_script.proofs.limits.find_all_wrong_repeats.Given as goal

abbrev pub invariant-loop-form : goal.invariant-loop-form
invariant-loop-form l =
    first_of_faults l.least (forms_wrong_repeats l.rest) ≡ first_of_faults l.initial.least (forms_wrong_repeats l.forms)

abbrev pub decreases-loop-form : goal.decreases-loop-form
decreases-loop-form l = length l.rest
