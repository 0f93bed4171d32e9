use Rattle.std.proofs.Common.{refl}
use Rattle.lang_forms.specs.Sketch.{unplaced_sketch}
use Rattle.lang_forms.specs.Forms.{scripts_forms}
use Rattle.lang_write.proofs.Written.{none_left}
use Rattle.lang_write.proofs.write_script.script_forms_of.Goals as goal

pub returns : goal.returns
returns c = none_left (λ xs. unplaced_sketch (scripts_forms xs)) refl _ _ c.loop-form.rest.now
    c.in_default.ensures.cases c.loop-form.invariant
