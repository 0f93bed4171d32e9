use Rattle.std.proofs.Common.{refl}
use Rattle.lang_forms.specs.Sketch.{unplaced_sketch}
use Rattle.lang_forms.specs.Forms.{parameters_forms}
use Rattle.lang_write.proofs.Written.{none_left}
use Rattle.lang_write.proofs.write_program.put_parameters.Goals as goal

pub returns : goal.returns
returns c = none_left (λ xs. unplaced_sketch (parameters_forms xs)) refl _ _ c.loop-parameter.rest.now
    c.in_default.ensures.cases c.loop-parameter.invariant
