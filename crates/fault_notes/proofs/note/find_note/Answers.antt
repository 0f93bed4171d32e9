use Rattle.std.proofs.Common.{◌∙◌, ap, subst, Err}
use Rattle.fault_notes.specs.Pointing.{PointsInto}
use Rattle.fault_notes.proofs.OneFault.{no_fault, one_fault}
use Rattle.fault_notes.proofs.note.find_note.Goals as goal

pub returns-in-Ok : goal.returns-in-Ok
returns-in-Ok c fault f = no_fault c.parse_input.result c.in-Ok.input fault c.in-Ok.is (c.parse_input.ensures.told fault f)

pub returns-in_ok-note_on-in-Err-Bad : goal.returns-in_ok-note_on-in-Err-Bad
returns-in_ok-note_on-in-Err-Bad c fault f =
    subst (λ g. PointsInto c.args.bytes.now g c.in_ok-note_on-in-Err-Bad.field-0.position)
    (one_fault c.parse_input.result c.in-Err-Bad.fault fault (c.in-Err-Bad.is ∙ ap Err c.in-Err-Bad.field-0-is)
    (c.parse_input.ensures.told fault f)) c.in_ok-note_on-in-Err-Bad.ensures
