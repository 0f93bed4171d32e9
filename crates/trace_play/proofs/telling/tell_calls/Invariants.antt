use Rattle.std.proofs.Common.{◌≡◌, [], length, None}
use Rattle.std.specs.Vec.Iter.{into_iter_items, into_iter_len}
use Rattle.snap_policy.specs.Table.{table}
use Rattle.snap_api.specs.World.{IsLegal}
use Rattle.script_lang.specs.PrintedCalls.{printed_calls}
use Rattle.play_run.specs.RunPromise.{job_titles, job_functions}
use Rattle.play_run.specs.RunState.{flat}
use Rattle.trace_play.specs.TraceText.{TraceStanding, trace_lines}
use Rattle.trace_play.specs.TraceState.{IsTrace}
use Rattle.trace_play.proofs.Histories.{Told}
use Rattle.trace_play.proofs.telling.tell_calls.Given as goal

abbrev pub invariant-loop-call : goal.invariant-loop-call
invariant-loop-call g l = record {
  faults : g.K.Sink.faults l.sink ≡ g.K.Sink.faults l.fn.sink;
  counted : into_iter_len l.call-iterator ≡ length (into_iter_items l.call-iterator);
  says : (t : TraceStanding) → IsTrace (job_functions l.job) l.fn.memory None t → IsLegal table t.at.world l.fn.calls.items
      → Told (job_titles l.job) (job_functions l.job) l.memory l.frame (g.K.Sink.written l.fn.sink)
      (g.K.Sink.written l.sink)
      (flat (trace_lines (job_titles l.job) (job_functions l.job) t (printed_calls [] l.fn.calls.items)))
      (into_iter_items l.call-iterator);
}
