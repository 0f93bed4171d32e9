use Rattle.std.proofs.Common.{◌∙◌, rules, sym, ap, length, arith}
use Rattle.trace_play.proofs.Histories.{told_none, told_next, told_stop, told_all}
use Rattle.trace_play.proofs.telling.tell_calls.Goals as goal

pub loop-call-init : goal.loop-call-init
loop-call-init g c = record {
  faults = search rules;
  counted = search rules;
  says = λ t at legal. told_none t _ _ _ c.into_iter-call-iterator.ensures.into_iter_gives.0 at legal;
}

pub loop-call-preserved : goal.loop-call-preserved
loop-call-preserved g c =
    let steps = c.in-Some.ensures.steps.0 in
    record {
      faults = c.in-Ok.ensures.faults ∙ c.loop-call.invariant.faults;
      counted = (let was = c.loop-call.invariant.counted in let gone = c.in-Some.ensures.steps.1 in
          let short = ap length steps in omega arith);
      says = λ t at legal. told_next c.in-Some.call _ c.in-Ok.left steps
          (c.loop-call.invariant.says t at legal) c.in-Ok.ensures.tells;
    }

pub returns-in-Err-clause-says : goal.returns-in-Err-clause-says
returns-in-Err-clause-says g c t at legal =
    told_stop c.in-Some.call _ c.in-Err.stop c.in-Some.ensures.steps.0
    (c.loop-call.invariant.says t at legal) c.in-Err.ensures.tells

pub returns-clause-says : goal.returns-clause-says
returns-clause-says g c t at legal =
    told_all _ (sym c.loop-call.invariant.counted ∙ c.in-None.ensures.steps.0)
    (c.loop-call.invariant.says t at legal)
