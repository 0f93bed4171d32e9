use Rattle.std.proofs.Common.{arith}
use Rattle.slot_table.proofs.JoinedGroups.{inside_heads, head_is, node_is}
use Rattle.slot_table.proofs.storage.TableBuilder.head.Goals as goal

pub index-requires : goal.index-requires
index-requires c =
    let inside = inside_heads c.args.self.now c.self.inside.heads.items c.self.inside.slots.items c.args.i
    c.self.view_is c.self.invariant.0 c.requires in
    let long = c.len-length.ensures in
    omega (arith, inside, long)

pub returns-clause-depth : goal.returns-clause-depth
returns-clause-depth c = (head_is c.args.self.now c.self.inside.heads.items c.self.inside.slots.items c.args.i
    c.index.result.now c.self.view_is c.self.invariant.0 c.requires c.index.ensures).0

pub returns-clause-node : goal.returns-clause-node
returns-clause-node c = node_is c.args.self.now c.self.inside.heads.items c.self.inside.slots.items c.args.i
    c.index.result.now c.self.view_is c.self.invariant.1 c.self.invariant.0 c.requires c.index.ensures

pub returns-clause-site : goal.returns-clause-site
returns-clause-site c = (head_is c.args.self.now c.self.inside.heads.items c.self.inside.slots.items c.args.i
    c.index.result.now c.self.view_is c.self.invariant.0 c.requires c.index.ensures).1

pub returns-clause-number : goal.returns-clause-number
returns-clause-number c = (head_is c.args.self.now c.self.inside.heads.items c.self.inside.slots.items c.args.i
    c.index.result.now c.self.view_is c.self.invariant.0 c.requires c.index.ensures).2
