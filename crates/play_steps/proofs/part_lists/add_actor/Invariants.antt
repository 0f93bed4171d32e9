use Rattle.std.proofs.Common.{◌≡◌, ◌++◌, length}
use Rattle.play_laws.specs.Woven.{actor_parts}
use Rattle.play_steps.specs.PartLists.{parts_in}
use Rattle.play_steps.proofs.part_lists.add_actor.Given as goal

abbrev pub invariant-loop-form : goal.invariant-loop-form
invariant-loop-form l = parts_in l.parts.items ++ actor_parts l.actor l.actors l.rest
    ≡ parts_in l.fn.parts.items ++ actor_parts l.actor l.actors l.forms

abbrev pub decreases-loop-form : goal.decreases-loop-form
decreases-loop-form l = length l.rest
