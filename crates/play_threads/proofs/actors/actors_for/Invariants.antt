use Rattle.std.proofs.Common.{◌≡◌, ◌++◌, length, map}
use Rattle.snap_shared.specs.SharedCalls.{numbers_below}
use Rattle.play_threads.proofs.actors.actors_for.Given as goal

abbrev pub invariant-loop-seat : goal.invariant-loop-seat
invariant-loop-seat g l =
    (l.fn.seats.items ≡ l.yielded ++ l.seat-iterator.rest.items)
    × (map (λ x. x.seat) l.actors.items ≡ l.yielded)
    × (map (λ x. x.number) l.actors.items ≡ numbers_below (length l.yielded))
