use Rattle.std.proofs.Common.{◌≡◌, List, [], arith, ap, ◌∙◌, sym}
use Rattle.rt_groups.specs.declared.groups.Group.{Group}
use Rattle.rt_groups.specs.PreorderGroups.{flat_group}
use Rattle.slot_table.specs.TableGroups.{group_at}
use Rattle.slot_table.specs.InnerCounts.{inner_counts}
use Rattle.slot_table.proofs.InnerCounts.{counts_set}
use Rattle.slot_table.proofs.JoinedGroups.{inside_heads, put_parts}
use Rattle.slot_table.proofs.table.Table.set_group.Goals as goal

pub set-requires : goal.set-requires
set-requires c = inside_heads c.args.self.now.groups c.self.inside.groups.items c.self.inside.slots.items c.args.i
    (ap (λ t. t.groups) c.self.view_is) c.self.invariant.0 c.requires.index

pub replace-requires : goal.replace-requires
replace-requires c =
    let inside = inside_heads c.args.self.now.groups c.self.inside.groups.items c.self.inside.slots.items c.args.i
    (ap (λ t. t.groups) c.self.view_is) c.self.invariant.0 c.requires.index in
    let same = c.self.invariant.0 in
    omega (arith, inside, same)

pub invariant_of-self : goal.invariant_of-self
invariant_of-self c =
    let w = c.self.inside in
    let gs : List Group = c.args.self.now.groups in
    let joined = ap (λ t. t.groups) c.self.view_is in
    let g : Group = flat_group c.args.head.depth c.args.head.site c.args.head.number c.args.slots.what
    c.args.slots.reads in
    let parts = put_parts w.groups.items c.set.new.self.items w.slots.items c.replace.new.self.items gs c.args.i
    c.args.head c.args.slots
    (record { joined = joined; long = c.self.invariant.0; nodes = c.self.invariant.2 }) c.requires.node
    c.set.ensures.items c.replace.ensures.items in
    let counts : w.counts.items ≡ inner_counts gs = c.self.invariant.1 ∙ ap inner_counts joined in (
      parts.long,
      counts ∙ sym (counts_set gs c.args.i g (group_at [] c.args.i) c.requires.depth)
          ∙ ap inner_counts (sym parts.joined),
      parts.nodes,
    )

pub returns : goal.returns
returns c =
    let w = c.self.inside in
    (put_parts w.groups.items c.set.new.self.items w.slots.items c.replace.new.self.items c.args.self.now.groups c.args.i
    c.args.head c.args.slots
    (record { joined = ap (λ t. t.groups) c.self.view_is; long = c.self.invariant.0; nodes = c.self.invariant.2 })
    c.requires.node c.set.ensures.items c.replace.ensures.items).joined
