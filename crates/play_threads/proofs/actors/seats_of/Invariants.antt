use Rattle.std.proofs.Common.{◌≡◌, ◌≤◌, ◌++◌, map, false, length}
use Rattle.std.specs.List.{All}
use Rattle.std.specs.Vec.{vec_capacity}
use Rattle.play_threads.proofs.actors.seats_of.Given as goal

abbrev pub invariant-loop-actor : goal.invariant-loop-actor
invariant-loop-actor g l =
    (l.fn.actors.items ≡ l.yielded ++ l.actor-iterator.rest.items)
    × (l.seats.items ≡ map (λ x. x.seat) l.yielded)
    × (length l.fn.actors.items ≤ vec_capacity l.seats)
    × (l.any_short ≡ false → All (λ x. x.short ≡ false) l.yielded)
