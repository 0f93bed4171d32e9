use Rattle.std.proofs.Common.{refl}
use Rattle.lang_forms.specs.Sketch.{unplaced_sketch}
use Rattle.lang_forms.specs.Forms.{numbers}
use Rattle.lang_write.proofs.Written.{none_left}
use Rattle.lang_write.proofs.write_expressions.put_numbers.Goals as goal

pub returns : goal.returns
returns c = none_left (λ xs. unplaced_sketch (numbers xs)) refl _ _ c.loop-item.rest.now c.in_default.ensures.cases
    c.loop-item.invariant
