use Rattle.std.proofs.Common.{ℕ, ap, sym, ◌∙◌, refl}
use Rattle.snap_shared.specs.Seats.{opening_of, seat_number, seen_by, mine_of}
use Rattle.snap_shared.specs.SharedCalls.{own_calls}
use Rattle.play_steps.specs.ActorNotes.{part_of}
use Rattle.play_threads.proofs.PartsMade.{first_made, part_made, came_on, came_short}
use Rattle.play_threads.proofs.worker.make_call.Goals as goal

pub returns-in-Ok-clause-makes : goal.returns-in-Ok-clause-makes
returns-in-Ok-clause-makes g c o stood counts before rest now asks =
    let s = c.args.worker.now.seat in
    let t = c.call-reply.new.seat in
    let seen = c.call-reply.ensures.call in
    came_on o before _ rest
    (part_made g.V.Versions.stands (opening_of c.args.run.now.shared.now) o stood counts before (seat_number s)
    c.args.run.now.number c.requires.seated.is_callers (seen_by s) (seen_by t) (mine_of s) (mine_of t)
    c.args.request c.call-reply.result seen (sym c.is_no_memory.ensures ∙ c.if-is_no_memory.false)
    (ap (λ (n : ℕ). own_calls n (seen_by t)) c.call-reply.ensures.number ∙ seen.mine)
    c.args.worker.now.memory (part_of c.args.part.now) rest now asks c.note.new.self
    (c.in-Ok.ensures now.notes now.noted))

pub returns-in-Err-clause-makes : goal.returns-in-Err-clause-makes
returns-in-Err-clause-makes g c o stood counts before rest now asks =
    let s = c.args.worker.now.seat in
    let t = c.call-reply.new.seat in
    let seen = c.call-reply.ensures.call in
    came_short o before _ rest (mine_of t) refl refl
    (first_made g.V.Versions.stands (opening_of c.args.run.now.shared.now) o stood counts before (seat_number s)
    c.args.run.now.number c.requires.seated.is_callers (seen_by s) (seen_by t) (mine_of s) (mine_of t)
    c.args.request c.call-reply.result seen (sym c.is_no_memory.ensures ∙ c.if-is_no_memory.false)
    (ap (λ (n : ℕ). own_calls n (seen_by t)) c.call-reply.ensures.number ∙ seen.mine)
    c.args.worker.now.memory (part_of c.args.part.now) rest now asks)
