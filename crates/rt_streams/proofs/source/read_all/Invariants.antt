use Rattle.std.proofs.Common.{◌+◌, ◌-◌, length}
use Rattle.rt_streams.specs.Pieces.{HasRead, state_of}
use Rattle.rt_streams.proofs.source.read_all.Given as goal

abbrev pub invariant-loop-all : goal.invariant-loop-all
invariant-loop-all g l = HasRead l.limit
    (state_of (g.S.Source.left l.fn.source) (g.S.Source.taken l.fn.source) (g.S.Source.faults l.fn.source))
    (state_of (g.S.Source.left l.source) (g.S.Source.taken l.source) (g.S.Source.faults l.source)) l.all.items

abbrev pub decreases-loop-all : goal.decreases-loop-all
decreases-loop-all g l = (l.limit + 1) - length l.all.items
