use Rattle.std.proofs.Common.{◌≡◌, ◌+◌, ap, ◌∙◌, sym, subst, Some}
use Rattle.rt_values.specs.Maps.{differ}
use Rattle.lang_ast.specs.Programs.{functions_of}
use Rattle.compose_model.specs.Frame.{frame as frame_at, kept_after}
use Rattle.recomposer.specs.Compositions.{IsAt}
use Rattle.recomposer.specs.declared.composition.Composition.{Composition}
use Rattle.script_lang.specs.Lines.{actor_name}
use Rattle.play_run.specs.RunPromise.{job_titles, job_functions}
use Rattle.play_run.proofs.Written.{anyway, says_same}
use Rattle.trace_lines.specs.TraceLines.{FrameHead}
use Rattle.trace_play.specs.TraceText.{frame_line}
use Rattle.trace_play.specs.TraceState.{frame_head}
use Rattle.trace_play.proofs.frames.tell_frame.Goals as goal

pub returns-in-Ok-compose_recorded-clause-says : goal.returns-in-Ok-compose_recorded-clause-says
returns-in-Ok-compose_recorded-clause-says g c k m at same agree new last =
    let job = c.args.job.now in
    let old = c.args.memory.now in
    let good = frame_at (functions_of old.replay.composition.program.now) k m in
    let told = c.in-Ok-compose_recorded.ensures.frame in
    let actor = actor_name job.script.actors.items c.args.frame.caller in
    let head_is : frame_head c.in-Some.number c.actor_name.result.now c.args.frame.name c.numbers.result.now
    c.deref.result.now ≡ frame_head (old.frames + 1) actor c.args.frame.name old.changed (differ k.seen m) =
    ap (λ n. frame_head n c.actor_name.result.now c.args.frame.name c.numbers.result.now c.deref.result.now)
    c.in-Some.ensures.1
    ∙ ap (λ a. frame_head (old.frames + 1) a c.args.frame.name c.numbers.result.now c.deref.result.now)
    (c.actor_name.ensures ∙ ap (λ names. actor_name names c.args.frame.caller) c.as_slice.ensures.value)
    ∙ ap (λ xs. frame_head (old.frames + 1) actor c.args.frame.name xs c.deref.result.now)
    (c.numbers.ensures ∙ c.replace-changed.ensures.value)
    ∙ ap (λ xs. frame_head (old.frames + 1) actor c.args.frame.name old.changed xs)
    (c.deref.ensures.value ∙ c.in-Ok.ensures k m at same) in
    says_same c.tell_composed.result _ _ _ _
    (ap (λ (h : FrameHead). frame_line (job_titles job) (job_functions job) h k good) head_is)
    (c.tell_composed.ensures.says k (Some m) good (told.told k m at (new, agree)) (told.left k m at (new, agree))
    (told.calls k m at (new, agree)) last)

pub returns-in-Ok-compose_recorded-clause-left : goal.returns-in-Ok-compose_recorded-clause-left
returns-in-Ok-compose_recorded-clause-left g c k m at agree new =
    let good = frame_at (functions_of c.args.memory.now.replay.composition.program.now) k m in
    anyway c.tell_composed.result (subst (λ (x : Composition). IsAt x (kept_after k good) (Some m))
    (sym c.tell_composed.ensures.replay) (c.in-Ok-compose_recorded.ensures.frame.left k m at (new, agree)))

pub returns-in-Ok-compose_recorded-clause-last : goal.returns-in-Ok-compose_recorded-clause-last
returns-in-Ok-compose_recorded-clause-last g c k m at agree new last =
    let told = c.in-Ok-compose_recorded.ensures.frame in
    c.tell_composed.ensures.last k (Some m) (frame_at (functions_of c.args.memory.now.replay.composition.program.now) k m)
    (told.told k m at (new, agree)) (told.left k m at (new, agree)) last
