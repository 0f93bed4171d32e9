use Rattle.std.proofs.Common.{refl}
use Rattle.lang_forms.specs.Sketch.{unplaced_sketch}
use Rattle.lang_forms.specs.Forms.{steps_forms}
use Rattle.lang_write.proofs.Written.{none_left}
use Rattle.lang_write.proofs.write_script.put_steps.Goals as goal

pub returns : goal.returns
returns c = none_left (λ xs. unplaced_sketch (steps_forms xs)) refl _ _ c.loop-step.rest.now c.in_default.ensures.cases
    c.loop-step.invariant
