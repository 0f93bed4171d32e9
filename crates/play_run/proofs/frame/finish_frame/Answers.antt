use Rattle.std.proofs.Common.{inr, [], sym, subst, ap, ◌∙◌, Option, Some}
use Rattle.std.specs.Option.{option_map}
use Rattle.compose_model.specs.Frame.{FrameResult, kept_after}
use Rattle.recomposer.specs.Compositions.{IsAt}
use Rattle.rt_streams.proofs.Parts.{part-all, part-front}
use Rattle.lang_script.specs.NamesInMemory.{Holds}
use Rattle.lang_script.specs.StepCalls.{EndFrame, of_actor}
use Rattle.play_run.specs.RunOutput.{part_after}
use Rattle.play_run.specs.RunState.{MadeCalls, LogsFrameReads}
use Rattle.play_run.specs.RunPromise.{job_style, job_functions}
use Rattle.play_run.proofs.FrameParts.{frame_map, outcome, frame_shows, frame_at, frame_is, end_facts, end_logged, end_stops, end_names, end_bytes}
use Rattle.play_run.proofs.Written.{says_behind, says_same, anyway, after_error}
use Rattle.play_run.proofs.frame.finish_frame.Goals as goal

pub returns-in-Ok-composed-clause-runs : goal.returns-in-Ok-composed-clause-runs
returns-in-Ok-composed-clause-runs g c r h =
    let fs = job_functions c.args.actor.job.now in
    let k = r.standing.kept in
    let m = frame_map r c.args.name in
    let a = c.args.actor.number in
    let shows = frame_shows a c.args.name r h.facts in
    let at = frame_at a c.args.name r h.facts in
    let stood = c.compose-composed.ensures.same r.standing.world h.facts.world_stands in
    let left = c.in-Ok-composed.ensures.frame.left k m at shows in
    let good = frame_is a c.args.name r h.facts in
    let bytes = end_bytes a c.args.name r h.facts (job_style c.args.actor.job.now c.args.actor.flags) in
    let says = says_same c.write_frame.result _ _ _ _ (sym bytes)
    (says_behind c.write_frame.result _ _ _ _ _
    (c.in-Ok.ensures.says r.standing.world stood).all (c.write_frame.ensures.says k (Some m)
    (outcome fs r c.args.name)
    (c.in-Ok-composed.ensures.frame.told k m at shows
    ∙ ap (λ (o : Option FrameResult). option_map (λ (f : FrameResult). f.told) o) good)
    (subst (λ (o : Option FrameResult). IsAt c.compose-composed.new.memory.composition (kept_after k o) (Some m))
    good left)
    (subst (λ (o : Option FrameResult). MadeCalls c.args.actor.flags k o
    c.compose-composed.new.memory.composition.ops) good (c.in-Ok-composed.ensures.frame.calls k m at shows)))) in
    record {
      says = says;
      left = anyway c.write_frame.result (record {
        facts = end_facts a c.args.name r h.facts (c.in-Ok.ensures.left r.standing.world stood) left
            c.compose-composed.ensures.frame.program;
        named = subst (λ n. Holds n (part_after fs r (of_actor a EndFrame)).notes.names)
            (sym c.compose-composed.ensures.names)
            (subst (Holds c.args.memory.now.names) (sym (end_names a c.args.name r h.facts)) h.named);
        logged = end_logged a c.args.name r h.facts (g.V.Versions.log c.args.world.now)
            (g.V.Versions.log c.compose-composed.new.world) (g.V.Versions.log c.make_call.new.world) h.logged
            (subst (λ f. LogsFrameReads f (g.V.Versions.stands c.args.world.now) a c.args.name k m
            (g.V.Versions.log c.args.world.now) (g.V.Versions.log c.compose-composed.new.world))
            h.facts.same_program (c.in-Ok-composed.ensures.log k m at shows))
            (c.in-Ok.ensures.log r.standing.world stood);
      });
      stops = after_error c.write_frame.result
          (λ part. end_stops a c.args.name r h.facts (job_style c.args.actor.job.now c.args.actor.flags)
          c.compose-composed.ensures.reads.xs (g.V.Versions.log c.args.world.now)
          (g.V.Versions.log c.compose-composed.new.world) (g.V.Versions.log c.make_call.new.world) _ _
          h.logged c.compose-composed.ensures.reads.reads c.compose-composed.ensures.reads.legal
          (inr (c.in-Ok.ensures.log r.standing.world stood)) part) says.part;
    }

pub returns-in-Ok-clause-runs : goal.returns-in-Ok-clause-runs
returns-in-Ok-clause-runs g c r h =
    let stood = c.compose-composed.ensures.same r.standing.world h.facts.world_stands in
    record {
      says =
          says_same _ _ _ _ _ (sym (end_bytes c.args.actor.number c.args.name r h.facts
          (job_style c.args.actor.job.now c.args.actor.flags)))
          (record { all = tt; part = part-all _ _ _ _ (c.in-Ok.ensures.says r.standing.world stood).all });
      left = tt;
      stops = end_stops c.args.actor.number c.args.name r h.facts (job_style c.args.actor.job.now c.args.actor.flags)
          c.compose-composed.ensures.reads.xs (g.V.Versions.log c.args.world.now)
          (g.V.Versions.log c.compose-composed.new.world) (g.V.Versions.log c.make_call.new.world) _ _
          h.logged c.compose-composed.ensures.reads.reads c.compose-composed.ensures.reads.legal
          (inr (c.in-Ok.ensures.log r.standing.world stood))
          (part-all _ _ _ [] (c.in-Ok.ensures.says r.standing.world stood).all);
    }

pub returns-clause-runs : goal.returns-clause-runs
returns-clause-runs g c r h =
    let stood = c.compose-composed.ensures.same r.standing.world h.facts.world_stands in
    record {
      says =
          says_same _ _ _ _ _ (sym (end_bytes c.args.actor.number c.args.name r h.facts
          (job_style c.args.actor.job.now c.args.actor.flags)))
          (record { all = tt; part = part-front _ _ _ _ (c.in-Err.ensures.says r.standing.world stood).part });
      left = tt;
      stops = end_stops c.args.actor.number c.args.name r h.facts (job_style c.args.actor.job.now c.args.actor.flags)
          c.compose-composed.ensures.reads.xs (g.V.Versions.log c.args.world.now)
          (g.V.Versions.log c.compose-composed.new.world) (g.V.Versions.log c.make_call.new.world) _ _
          h.logged c.compose-composed.ensures.reads.reads c.compose-composed.ensures.reads.legal
          (c.in-Err.ensures.stops r.standing.world stood) (c.in-Err.ensures.says r.standing.world stood).part;
    }
