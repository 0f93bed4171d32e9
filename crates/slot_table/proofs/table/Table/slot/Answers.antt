use Rattle.std.proofs.Common.{ap, arith}
use Rattle.slot_table.proofs.JoinedGroups.{inside_heads, slot_is}
use Rattle.slot_table.proofs.table.Table.slot.Goals as goal

pub get-requires : goal.get-requires
get-requires c =
    let inside = inside_heads c.args.self.now.groups c.self.inside.groups.items c.self.inside.slots.items c.args.i
    (ap (λ t. t.groups) c.self.view_is) c.self.invariant.0 c.requires in
    let same = c.self.invariant.0 in
    omega (arith, inside, same)

pub returns-clause-what : goal.returns-clause-what
returns-clause-what c = (slot_is c.args.self.now.groups c.self.inside.groups.items c.self.inside.slots.items c.args.i
    c.get.result.now (ap (λ t. t.groups) c.self.view_is) c.self.invariant.0 c.requires c.get.ensures).0

pub returns-clause-reads : goal.returns-clause-reads
returns-clause-reads c = (slot_is c.args.self.now.groups c.self.inside.groups.items c.self.inside.slots.items c.args.i
    c.get.result.now (ap (λ t. t.groups) c.self.view_is) c.self.invariant.0 c.requires c.get.ensures).1
