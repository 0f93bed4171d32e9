use Rattle.std.proofs.Common.{sym, ◌∙◌}
use Rattle.snap_shared.specs.Seats.{seen_by, mine_of}
use Rattle.play_steps.specs.ActorNotes.{part_of}
use Rattle.play_threads.proofs.PartsMade.{part_passed, came_on}
use Rattle.play_threads.proofs.worker.make_part.Goals as goal

pub returns-in-Ok-Some-clause-makes : goal.returns-in-Ok-Some-clause-makes
returns-in-Ok-Some-clause-makes g c o stood counts before rest h =
    let at = h.on c.if-worker.false in
    c.make_call.ensures.makes o stood counts before rest at
    (sym (c.in-Ok-Some.ensures at.notes at.noted) ∙ c.in-Ok-Some.field-0-is)

pub returns-in-Ok-None-clause-makes : goal.returns-in-Ok-None-clause-makes
returns-in-Ok-None-clause-makes g c o stood counts before rest h =
    let at = h.on c.if-worker.false in
    let w = c.args.worker.now in
    came_on o before w rest
    (part_passed o before (seen_by w.seat) (mine_of w.seat) w.memory c.args.run.now.number (part_of c.args.part.now) rest
    at (sym (c.in-Ok-None.ensures at.notes at.noted) ∙ c.in-Ok-None.field-0-is))
