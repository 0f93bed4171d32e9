use Rattle.std.proofs.Common.{ap}
use Rattle.slot_table.proofs.JoinedGroups.{inside_heads, head_is, node_is}
use Rattle.slot_table.proofs.table.Table.head.Goals as goal

pub get-requires : goal.get-requires
get-requires c = inside_heads c.args.self.now.groups c.self.inside.groups.items c.self.inside.slots.items c.args.i
    (ap (λ t. t.groups) c.self.view_is) c.self.invariant.0 c.requires

pub returns-clause-depth : goal.returns-clause-depth
returns-clause-depth c = (head_is c.args.self.now.groups c.self.inside.groups.items c.self.inside.slots.items c.args.i
    c.get.result.now (ap (λ t. t.groups) c.self.view_is) c.self.invariant.0 c.requires c.get.ensures).0

pub returns-clause-site : goal.returns-clause-site
returns-clause-site c = (head_is c.args.self.now.groups c.self.inside.groups.items c.self.inside.slots.items c.args.i
    c.get.result.now (ap (λ t. t.groups) c.self.view_is) c.self.invariant.0 c.requires c.get.ensures).1

pub returns-clause-number : goal.returns-clause-number
returns-clause-number c = (head_is c.args.self.now.groups c.self.inside.groups.items c.self.inside.slots.items c.args.i
    c.get.result.now (ap (λ t. t.groups) c.self.view_is) c.self.invariant.0 c.requires c.get.ensures).2

pub returns-clause-node : goal.returns-clause-node
returns-clause-node c = node_is c.args.self.now.groups c.self.inside.groups.items c.self.inside.slots.items c.args.i
    c.get.result.now (ap (λ t. t.groups) c.self.view_is) c.self.invariant.2 c.self.invariant.0 c.requires c.get.ensures
