use Rattle.std.proofs.Common.{arith, ◌-◌}
use Rattle.slot_table.proofs.ShrunkItems.{moved_more, moved_nowhere}
use Rattle.slot_table.proofs.runs.move_items.Goals as goal

pub returns-then-at-from-clause-before : goal.returns-then-at-from-clause-before
returns-then-at-from-clause-before g c =
    moved_nowhere c.args.items.now.items c.args.at c.args.from (c.args.to - c.args.from) c.if-at-from.true

pub loop-i-preserved : goal.loop-i-preserved
loop-i-preserved g c =
    let down = c.requires.down in
    let apart = c.if-at-from.false in
    let more = c.loop-i-test.true in
    let inside = c.requires.inside in
    moved_more c.args.items.now.items c.loop-i.items.items c.swap.new.self.items c.args.at c.args.from c.loop-i.i
    c.loop-i.invariant (omega (arith, down, apart)) (omega (arith, more, inside)) c.swap.ensures.items
