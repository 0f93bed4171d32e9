use Rattle.std.proofs.Common.{arith, ap}
use Rattle.slot_table.proofs.JoinedGroups.{inside_heads, set_parts}
use Rattle.slot_table.proofs.storage.TableBuilder.set_reads.Goals as goal

pub index-requires : goal.index-requires
index-requires c =
    let inside = inside_heads c.args.self.now c.self.inside.heads.items c.self.inside.slots.items c.args.i
    c.self.view_is c.self.invariant.0 c.requires in
    let long = c.len-length.ensures in
    let same = c.self.invariant.0 in
    omega (arith, inside, long, same)

pub index_mut-requires : goal.index_mut-requires
index_mut-requires c =
    let inside = inside_heads c.args.self.now c.self.inside.heads.items c.self.inside.slots.items c.args.i
    c.self.view_is c.self.invariant.0 c.requires in
    let long = c.len-length.ensures in
    let same = c.self.invariant.0 in
    omega (arith, inside, long, same)

pub invariant_of-self : goal.invariant_of-self
invariant_of-self c =
    let parts = set_parts c.self.inside.heads.items c.self.inside.slots.items c.args.self.now c.args.i
    c.in_ok-slots.slots c.index.result.now c.args.reads
    (record { joined = c.self.view_is; long = c.self.invariant.0; nodes = c.self.invariant.1 }) c.requires
    c.index.ensures (ap (λ s. s.what) c.in_ok-slots.ensures) (ap (λ s. s.reads) c.in_ok-slots.ensures) in
    (parts.long, parts.nodes)

pub returns-clause-set : goal.returns-clause-set
returns-clause-set c =
    (set_parts c.self.inside.heads.items c.self.inside.slots.items c.args.self.now c.args.i c.in_ok-slots.slots
    c.index.result.now c.args.reads
    (record { joined = c.self.view_is; long = c.self.invariant.0; nodes = c.self.invariant.1 }) c.requires
    c.index.ensures (ap (λ s. s.what) c.in_ok-slots.ensures) (ap (λ s. s.reads) c.in_ok-slots.ensures)).joined
