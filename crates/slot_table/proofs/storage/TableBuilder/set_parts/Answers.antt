use Rattle.std.proofs.Common.{arith, refl, set}
use Rattle.slot_table.proofs.JoinedGroups.{inside_heads, put_parts}
use Rattle.slot_table.proofs.storage.TableBuilder.set_parts.Goals as goal

pub index_mut-requires : goal.index_mut-requires
index_mut-requires c =
    let inside = inside_heads c.args.self.now c.self.inside.heads.items c.self.inside.slots.items c.args.i
    c.self.view_is c.self.invariant.0 c.requires.index in
    let long = c.len-length.ensures in
    omega (arith, inside, long)

pub index_mut-requires-2 : goal.index_mut-requires-2
index_mut-requires-2 c =
    let inside = inside_heads c.args.self.now c.self.inside.heads.items c.self.inside.slots.items c.args.i
    c.self.view_is c.self.invariant.0 c.requires.index in
    let same = c.self.invariant.0 in
    let long = c.len-slots.ensures in
    omega (arith, inside, same, long)

pub invariant_of-self : goal.invariant_of-self
invariant_of-self c =
    let w = c.self.inside in
    let parts = put_parts w.heads.items (set w.heads.items c.args.i c.args.head) w.slots.items
    (set w.slots.items c.args.i c.args.slots) c.args.self.now c.args.i c.args.head c.args.slots
    (record { joined = c.self.view_is; long = c.self.invariant.0; nodes = c.self.invariant.1 }) c.requires.node refl
    refl in
    (parts.long, parts.nodes)

pub returns : goal.returns
returns c =
    let w = c.self.inside in
    (put_parts w.heads.items (set w.heads.items c.args.i c.args.head) w.slots.items
    (set w.slots.items c.args.i c.args.slots) c.args.self.now c.args.i c.args.head c.args.slots
    (record { joined = c.self.view_is; long = c.self.invariant.0; nodes = c.self.invariant.1 }) c.requires.node refl
    refl).joined
