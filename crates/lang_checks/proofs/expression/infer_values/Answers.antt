use Rattle.lang_checks.specs.Views.{expression_scope_view}
use Rattle.lang_checks.proofs.Steps.{bounds_step, values_step, one_more}
use Rattle.lang_checks.proofs.expression.infer_values.Goals as goal

pub loop-named-preserved : goal.loop-named-preserved
loop-named-preserved c =
    let l = expression_scope_view c.args.look.now in
    let i = c.loop-named.named-index in
    let step = values_step l c.args.all.now i c.named-item.result c.loop-named.least c.loop-named-test.true
    c.named-item.is in
    record {
      typed_names = one_more _ _ _ _ _ _ c.in_ok-least.ensures.bounds
          (bounds_step l c.args.all.now i c.named-item.result c.loop-named-test.true c.named-item.is)
          c.loop-named.invariant.typed_names;
      least = rw (c.in_ok-least.ensures.least, ← step) c.loop-named.invariant.least;
    }
