use Rattle.slot_table.proofs.JoinedGroups.{popped_parts}
use Rattle.slot_table.proofs.storage.TableBuilder.pop.Goals as goal

pub returns : goal.returns
returns c =
    let w = c.self.inside in
    (popped_parts w.heads.items c.pop.new.self.items w.slots.items c.pop-2.new.self.items c.args.self.now
    c.in-Some.head c.in-Some-pop.slots
    (record { joined = c.self.view_is; long = c.self.invariant.0; nodes = c.self.invariant.1 })
    c.in-Some.ensures.items c.in-Some-pop.ensures.items).popped
