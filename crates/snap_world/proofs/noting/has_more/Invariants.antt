use Rattle.std.proofs.Common.{◌≡◌, drop}
use Rattle.snap_world.specs.Choices.{with_taken}
use Rattle.snap_world.proofs.noting.has_more.Given as goal

abbrev pub invariant-loop-s : goal.invariant-loop-s
invariant-loop-s l = with_taken (drop l.s-index l.settled) l.noted ≡ with_taken l.settled l.noted
