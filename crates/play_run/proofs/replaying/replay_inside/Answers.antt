use Rattle.std.proofs.Common.{◌∙◌, ◌++◌, ◌∷◌, [], refl, sym, ap, Some}
use Rattle.play_run.specs.RunPromise.{job_style}
use Rattle.play_run.specs.ReplayState.{as_open}
use Rattle.play_run.proofs.Replays.{plays_read, plays_nothing, printed_unless}
use Rattle.play_run.proofs.replaying.replay_inside.Goals as goal

pub returns-in_default-record-clause-plays : goal.returns-in_default-record-clause-plays
returns-in_default-record-clause-plays g c s h legal turn =
    plays_nothing s c.args.call (job_style c.args.job.now c.args.flags) (Some (as_open c.args.frame)) _ _

pub returns-in-Some-clause-plays : goal.returns-in-Some-clause-plays
returns-in-Some-clause-plays g c s h legal turn =
    plays_read s c.args.call (as_open c.args.frame) c.in-Some.object (sym c.object_asked.ensures ∙ c.in-Some.is)
    (job_style c.args.job.now c.args.flags) (Some c.args.frame) _ refl legal h refl c.record.ensures.given
    (c.in-Ok.ensures.reads ∙ ap (λ v. c.args.memory.now.reads.reads.items ++ (c.in-Some.object, v) ∷ [])
    c.into_value.ensures)

pub returns-clause-plays : goal.returns-clause-plays
returns-clause-plays g c s h legal turn =
    c.print_inside.ensures.plays s h legal turn
    (printed_unless (as_open c.args.frame) c.args.call (sym c.object_asked.ensures ∙ c.in_default.is))
