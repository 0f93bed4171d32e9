use Rattle.std.proofs.Common.{◌≡◌, length}
use Rattle.lang_script.specs.Scripts.{actors_from, actors_of}
use Rattle.lang_script.proofs.limits.first_actors.Given as goal

abbrev pub invariant-loop-form : goal.invariant-loop-form
invariant-loop-form l = actors_from l.actors.items l.rest ≡ actors_of l.forms

abbrev pub decreases-loop-form : goal.decreases-loop-form
decreases-loop-form l = length l.rest
