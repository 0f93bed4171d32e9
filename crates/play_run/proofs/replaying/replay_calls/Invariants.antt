use Rattle.std.proofs.Common.{◌≡◌, length, None}
use Rattle.std.specs.Vec.Iter.{into_iter_items, into_iter_len}
use Rattle.snap_policy.specs.Table.{table}
use Rattle.snap_api.specs.World.{IsLegal}
use Rattle.script_lang.specs.Lines.{Standing, lines}
use Rattle.play_laws.specs.FramesInTurn.{AreInTurn}
use Rattle.play_laws.specs.PrintedHistory.{printed_history}
use Rattle.play_run.specs.RunPromise.{job_style, job_functions}
use Rattle.play_run.specs.RunState.{flat}
use Rattle.play_run.specs.ReplayState.{IsReplay}
use Rattle.play_run.proofs.Replays.{Replayed}
use Rattle.play_run.proofs.replaying.replay_calls.Given as goal

abbrev pub invariant-loop-call : goal.invariant-loop-call
invariant-loop-call g l = record {
  faults : g.K.Sink.faults l.sink ≡ g.K.Sink.faults l.fn.sink;
  counted : into_iter_len l.call-iterator ≡ length (into_iter_items l.call-iterator);
  plays : (s : Standing) → IsReplay (job_functions l.job) l.fn.memory None s → IsLegal table s.world l.fn.calls.items
      → AreInTurn None (printed_history l.fn.calls.items) →
      Replayed (job_style l.job l.flags) (job_functions l.job) l.memory l.frame (g.K.Sink.written l.fn.sink)
      (g.K.Sink.written l.sink)
      (flat (lines (job_style l.job l.flags) (job_functions l.job) s (printed_history l.fn.calls.items)))
      (into_iter_items l.call-iterator);
}
