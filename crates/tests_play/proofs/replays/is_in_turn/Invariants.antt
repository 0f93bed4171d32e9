use Rattle.std.proofs.Common.{None, length}
use Rattle.play_laws.specs.FramesInTurn.{AreInTurn}
use Rattle.play_laws.specs.PrintedHistory.{printed_from, printed_history}
use Rattle.play_run.specs.CallsInFrames.{frames_by}
use Rattle.tests_play.proofs.Histories.{seen}
use Rattle.tests_play.proofs.replays.is_in_turn.Given as goal

abbrev pub invariant-loop-call : goal.invariant-loop-call
invariant-loop-call l =
    AreInTurn (seen l.frame) (printed_from (frames_by (seen l.frame)) l.rest) → AreInTurn None (printed_history l.calls)

abbrev pub decreases-loop-call : goal.decreases-loop-call
decreases-loop-call l = length l.rest
