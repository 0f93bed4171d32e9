use Rattle.lang_checks.specs.Views.{expression_scope_view}
use Rattle.lang_checks.proofs.Steps.{types_step, expressions_step, one_more}
use Rattle.lang_checks.proofs.expression.+types.Goals as goal

pub infer_expressions-loop-e-preserved : goal.infer_expressions-loop-e-preserved
infer_expressions-loop-e-preserved t c =
    let l = expression_scope_view c.args.look.now in
    let i = c.loop-e.e-index in
    let step = expressions_step l c.args.es.now i c.e-item.result c.loop-e.least c.loop-e-test.true c.e-item.is in
    record {
      types = one_more _ _ _ _ _ _ c.in_ok-least.ensures.types
          (types_step l c.args.es.now i c.e-item.result c.loop-e-test.true c.e-item.is) c.loop-e.invariant.types;
      least = rw (c.in_ok-least.ensures.least, ← step) c.loop-e.invariant.least;
    }
