use Rattle.std.proofs.Common.{refl}
use Rattle.lang_ast.specs.SyntaxView.{nameds_view}
use Rattle.lang_forms.specs.Sketch.{unplaced_sketch}
use Rattle.lang_forms.specs.Forms.{pairs_forms}
use Rattle.lang_write.proofs.Written.{none_left}
use Rattle.lang_write.proofs.write_expressions.put_pairs.Goals as goal

pub returns : goal.returns
returns c = none_left (λ xs. unplaced_sketch (pairs_forms (nameds_view xs))) refl _ _ c.loop-pair.rest.now
    c.in_default.ensures.cases c.loop-pair.invariant
