use Rattle.std.proofs.Common.{Option, sym, subst, List}
use Rattle.snap_api.specs.declared.data.Entry.{Entry}
use Rattle.play_laws.specs.FramesInTurn.{OpenFrame, AreInTurn}
use Rattle.play_laws.specs.PrintedHistory.{printed_from}
use Rattle.play_run.specs.CallsInFrames.{frames_by}
use Rattle.play_run.proofs.PrintedCalls.{turn_before}
use Rattle.tests_play.proofs.Histories.{seen}
use Rattle.tests_play.proofs.replays.is_in_turn.Goals as goal

pub loop-call-preserved : goal.loop-call-preserved
loop-call-preserved c turn =
    c.loop-call.invariant (subst (λ (es : List Entry). AreInTurn (seen c.loop-call.frame)
    (printed_from (frames_by (seen c.loop-call.frame)) es)) (sym c.in-Some.ensures.cases.0)
    (turn_before (seen c.loop-call.frame) c.in-Some.call.now c.in-Some.more.now c.in-Some-next_frame.ensures.0
    (subst (λ (o : Option OpenFrame). AreInTurn o (printed_from (frames_by o) c.in-Some.more.now))
    c.in-Some-next_frame.ensures.1 turn)))
