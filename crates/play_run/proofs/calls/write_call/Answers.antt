use Rattle.snap_api.specs.declared.data.Entry.{Entry}
use Rattle.play_run.specs.RunPromise.{job_titles}
use Rattle.play_run.proofs.CallLines.{whole_line}
use Rattle.play_run.proofs.Written.{says_same}
use Rattle.play_run.proofs.calls.write_call.Goals as goal

pub returns-clause-says : goal.returns-clause-says
returns-clause-says g c =
    let e : Entry = record { caller = c.args.caller; request = c.args.request.now; reply = c.args.reply.now } in
    says_same _ _ _ _ _ (whole_line (job_titles c.args.job.now) e _ c.in-Ok.ensures) c.end_line.ensures.says
