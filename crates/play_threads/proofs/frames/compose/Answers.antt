use Rattle.std.proofs.Common.{sym, subst}
use Rattle.snap_shared.specs.Seats.{seat_number, seen_by, mine_of}
use Rattle.play_threads.specs.ActorSteps.{IsActorAt}
use Rattle.play_steps.specs.declared.memory.ActorMemory.{ActorMemory}
use Rattle.play_threads.proofs.PartsMade.{frame_read, came_on}
use Rattle.play_threads.proofs.frames.compose.Goals as goal

pub returns-clause-makes : goal.returns-clause-makes
returns-clause-makes g c o stood counts before rest h =
    let s = c.new-view.result in
    let t = c.recompose-frame.new.view in
    let m = c.args.worker.memory in
    let m' : ActorMemory = record m { composition = c.recompose-frame.new.self } in
    let name = c.args.name in
    let at = subst (λ x. IsActorAt o before (seen_by x) (mine_of x) m rest) (sym c.new-view.ensures.seat)
    (h.on c.requires.going) in
    let read = frame_read o _ _ before (seen_by s.seat) (seen_by t.seat) (seat_number s.seat) (seat_number t.seat) s.opened
    t.opened m m' name rest c.recompose-frame.ensures.keeps.1 c.new-view.ensures.rest.1
    (λ n k. record { has_names = k.has_names; has_value = k.has_value; has_frame = k.has_frame })
    c.requires.open_frame at in
    came_on o before _ rest
    (subst (λ x. IsActorAt o before (seen_by x) (mine_of x) m' rest) (sym c.into_seat-seat.ensures.0)
    read)
