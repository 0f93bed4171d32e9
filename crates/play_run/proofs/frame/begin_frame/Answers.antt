use Rattle.std.proofs.Common.{refl, sym, subst, append-nil}
use Rattle.rt_streams.specs.Streams.{AppendsPart}
use Rattle.play_run.proofs.FrameParts.{begun_run, begin_stops}
use Rattle.play_run.specs.RunPromise.{job_style, job_functions}
use Rattle.play_run.proofs.frame.begin_frame.Goals as goal

pub returns-in-Ok-clause-left : goal.returns-in-Ok-clause-left
returns-in-Ok-clause-left g c r h =
    begun_run _ c.args.actor.number r c.in-Ok.reply c.note_frame.result
    (c.in-Ok.ensures.reply r.standing.world h.facts.world_stands) c.note_frame.ensures.frame
    (record {
      taken = c.note_frame.ensures.noted;
      refused = c.note_frame.ensures.refused;
      program = c.note_frame.ensures.program;
    }) h
    (c.in-Ok.ensures.left r.standing.world h.facts.world_stands)
    (c.in-Ok.ensures.log r.standing.world h.facts.world_stands) refl

pub returns-in-Err-clause-says : goal.returns-in-Err-clause-says
returns-in-Err-clause-says g c r h =
    record {
      all = tt;
      part = subst (AppendsPart _ _) (sym (append-nil _))
          (c.in-Err.ensures.says r.standing.world h.facts.world_stands).part;
    }

pub returns-in-Err-clause-stops : goal.returns-in-Err-clause-stops
returns-in-Err-clause-stops g c r h =
    begin_stops (job_style c.args.actor.job.now c.args.actor.flags) (job_functions c.args.actor.job.now)
    c.args.actor.number r _ _ _ _ h.logged
    (c.in-Err.ensures.stops r.standing.world h.facts.world_stands)
    (c.in-Err.ensures.says r.standing.world h.facts.world_stands).part
