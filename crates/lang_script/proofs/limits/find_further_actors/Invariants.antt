use Rattle.std.proofs.Common.{◌≡◌, length}
use Rattle.lang_script.specs.ScriptFaults.{further_actors, first_of_faults}
use Rattle.lang_script.proofs.limits.find_further_actors.Given as goal

abbrev pub invariant-loop-form : goal.invariant-loop-form
invariant-loop-form l = first_of_faults l.least (further_actors l.actors l.rest)
    ≡ first_of_faults l.initial.least (further_actors l.actors l.forms)

abbrev pub decreases-loop-form : goal.decreases-loop-form
decreases-loop-form l = length l.rest
