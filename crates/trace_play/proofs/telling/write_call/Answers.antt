use Rattle.std.proofs.Common.{ap, ◌∙◌, ◌++◌}
use Rattle.script_lang.specs.Lines.{call_text, reply_text}
use Rattle.play_run.specs.RunPromise.{job_titles}
use Rattle.play_run.proofs.Written.{says_same}
use Rattle.trace_lines.specs.TraceLines.{line, call_tokens}
use Rattle.trace_play.proofs.telling.write_call.Goals as goal

pub returns-clause-says : goal.returns-clause-says
returns-clause-says g c =
    let titles = job_titles c.args.job.now in
    let e = c.args.call.now in
    let words = call_text titles e.caller e.request ++ reply_text titles e.reply in
    says_same c.end_line.result _ _ _ _
    (ap line (c.in-Ok-put_call.ensures.tokens
    ∙ ap (λ ts. ts ++ call_tokens c.deref.result.now) c.begin_line-line.ensures.tokens
    ∙ ap call_tokens (c.deref.ensures.value ∙ c.in-Ok.ensures ∙ ap (λ xs. xs ++ words) c.clear.ensures.items)))
    c.end_line.ensures.says
