use Rattle.std.proofs.Common.{arith}
use Rattle.slot_table.proofs.JoinedGroups.{inside_heads, slot_is}
use Rattle.slot_table.proofs.storage.TableBuilder.slot.Goals as goal

pub index-requires : goal.index-requires
index-requires c =
    let inside = inside_heads c.args.self.now c.self.inside.heads.items c.self.inside.slots.items c.args.i
    c.self.view_is c.self.invariant.0 c.requires in
    let long = c.len-length.ensures in
    let same = c.self.invariant.0 in
    omega (arith, inside, long, same)

pub returns-clause-what : goal.returns-clause-what
returns-clause-what c = (slot_is c.args.self.now c.self.inside.heads.items c.self.inside.slots.items c.args.i
    c.index.result.now c.self.view_is c.self.invariant.0 c.requires c.index.ensures).0

pub returns-clause-reads : goal.returns-clause-reads
returns-clause-reads c = (slot_is c.args.self.now c.self.inside.heads.items c.self.inside.slots.items c.args.i
    c.index.result.now c.self.view_is c.self.invariant.0 c.requires c.index.ensures).1
