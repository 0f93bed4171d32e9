use Rattle.std.proofs.Common.{◌∙◌, sym}
use Rattle.play_run.proofs.FrameParts.{same_changed}
use Rattle.trace_play.proofs.telling.open_frame.Goals as goal

pub returns-in-TakenFor-clause-noted : goal.returns-in-TakenFor-clause-noted
returns-in-TakenFor-clause-noted c name changed k l m is h follows listed =
    c.note.ensures.noted k l m h follows
    (c.numbers.ensures ∙ same_changed c.in-TakenFor.name name c.in-TakenFor.changed changed
    (sym c.in-TakenFor.is ∙ is) ∙ listed)

pub returns-in-TakenFor-clause-program : goal.returns-in-TakenFor-clause-program
returns-in-TakenFor-clause-program c = c.note.ensures.calls.settings.program
