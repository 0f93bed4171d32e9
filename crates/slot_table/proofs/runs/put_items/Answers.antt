use Rattle.std.specs.Vec.Iter.{into_iter_items}
use Rattle.slot_table.proofs.ShrunkItems.{put_more}
use Rattle.slot_table.proofs.runs.put_items.Goals as goal

pub loop-i-preserved : goal.loop-i-preserved
loop-i-preserved g c =
    put_more c.args.items.now.items c.loop-i.items.items c.set.new.self.items (into_iter_items c.args.fresh.now)
    (into_iter_items c.loop-i.fresh) (into_iter_items c.next.new.self) c.in-Some.item c.args.at c.args.count c.loop-i.i
    c.loop-i.invariant c.loop-i-test.true c.requires.inside c.in-Some.ensures.items c.set.ensures.items
