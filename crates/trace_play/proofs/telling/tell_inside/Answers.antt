use Rattle.std.proofs.Common.{◌∙◌, ◌++◌, ◌∷◌, [], refl, sym, ap, Some}
use Rattle.play_run.specs.RunPromise.{job_titles}
use Rattle.play_run.specs.ReplayState.{as_open}
use Rattle.trace_play.proofs.CallSteps.{told_nothing, told_read, unasked}
use Rattle.trace_play.proofs.telling.tell_inside.Goals as goal

pub returns-then-not-is_in_turn-clause-tells : goal.returns-then-not-is_in_turn-clause-tells
returns-then-not-is_in_turn-clause-tells g c t h legal =
    told_nothing (job_titles c.args.job.now) t c.args.call (Some (as_open c.args.frame)) _ _

pub returns-in_default-record-clause-tells : goal.returns-in_default-record-clause-tells
returns-in_default-record-clause-tells g c t h legal =
    told_nothing (job_titles c.args.job.now) t c.args.call (Some (as_open c.args.frame)) _ _

pub returns-in-Some-clause-tells : goal.returns-in-Some-clause-tells
returns-in-Some-clause-tells g c t h legal =
    told_read (job_titles c.args.job.now) t c.args.call (as_open c.args.frame) c.in-Some.object
    (sym c.object_asked.ensures ∙ c.in-Some.is) (Some c.args.frame) _ refl legal h refl c.record.ensures.given
    (c.in-Ok.ensures.reads ∙ ap (λ v. c.args.memory.now.replay.reads.reads.items ++ (c.in-Some.object, v) ∷ [])
    c.into_value.ensures) refl refl refl

pub returns-clause-tells : goal.returns-clause-tells
returns-clause-tells g c t h legal =
    c.tell_printed.ensures.tells t h legal (c.is_in_turn.ensures.turn c.if-not-is_in_turn.false)
    (unasked (as_open c.args.frame) c.args.call (sym c.object_asked.ensures ∙ c.in_default.is)
    (c.is_in_turn.ensures.own c.if-not-is_in_turn.false))
