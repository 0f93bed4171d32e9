use Rattle.std.proofs.Common.{◌∙◌, rules, sym, ap, length, arith}
use Rattle.play_run.proofs.Replays.{replayed_none, replayed_next, replayed_stopped, replayed_all}
use Rattle.play_run.proofs.replaying.replay_calls.Goals as goal

pub loop-call-init : goal.loop-call-init
loop-call-init g c = record {
  faults = search rules;
  counted = search rules;
  plays = λ s at legal turn. replayed_none s _ _ _ c.into_iter-call-iterator.ensures.into_iter_gives.0 at legal turn;
}

pub loop-call-preserved : goal.loop-call-preserved
loop-call-preserved g c =
    let steps = c.in-Some.ensures.steps.0 in
    record {
      faults = c.in-Ok.ensures.faults ∙ c.loop-call.invariant.faults;
      counted = (let was = c.loop-call.invariant.counted in let gone = c.in-Some.ensures.steps.1 in
          let short = ap length steps in omega arith);
      plays = λ s at legal turn. replayed_next c.in-Some.call _ c.in-Ok.left steps
          (c.loop-call.invariant.plays s at legal turn) c.in-Ok.ensures.plays;
    }

pub returns-in-Err-clause-says : goal.returns-in-Err-clause-says
returns-in-Err-clause-says g c s at legal turn =
    replayed_stopped c.in-Some.call _ c.in-Err.stop c.in-Some.ensures.steps.0
    (c.loop-call.invariant.plays s at legal turn) c.in-Err.ensures.plays

pub returns-clause-says : goal.returns-clause-says
returns-clause-says g c s at legal turn =
    replayed_all _ (sym c.loop-call.invariant.counted ∙ c.in-None.ensures.steps.0)
    (c.loop-call.invariant.plays s at legal turn)
