use Rattle.std.proofs.Common.{arith, ap, ◌∙◌, sym, length, take}
use Rattle.std.proofs.lemmas.List.{take-append-le, take_all}
use Rattle.slot_table.specs.Storage.{AreParts}
use Rattle.slot_table.proofs.ShrunkParts.{counts_bare}
use Rattle.slot_table.proofs.ExchangedBlocks.{blocks_of_heads, blocks_of_slots, parts_exchanged, heads_after, counts_long, counts_after, counts_exchanged}
use Rattle.slot_table.proofs.table.Table.exchange.Goals as goal

pub first_recount-from-requires : goal.first_recount-from-requires
first_recount-from-requires c = blocks_of_heads c.self.inside.groups.items c.self.inside.slots.items
    c.args.self.now.groups c.args.exchange
    (record { joined = ap (λ t. t.groups) c.self.view_is; long = c.self.invariant.0; nodes = c.self.invariant.2 })
    c.requires.blocks

pub exchange_items-requires : goal.exchange_items-requires
exchange_items-requires c = blocks_of_heads c.self.inside.groups.items c.self.inside.slots.items c.args.self.now.groups
    c.args.exchange
    (record { joined = ap (λ t. t.groups) c.self.view_is; long = c.self.invariant.0; nodes = c.self.invariant.2 })
    c.requires.blocks

pub exchange_items-requires-2 : goal.exchange_items-requires-2
exchange_items-requires-2 c = blocks_of_slots c.self.inside.groups.items c.self.inside.slots.items
    c.args.self.now.groups c.args.exchange
    (record { joined = ap (λ t. t.groups) c.self.view_is; long = c.self.invariant.0; nodes = c.self.invariant.2 })
    c.requires.blocks

pub set_counts_between-requires-clause-long : goal.set_counts_between-requires-clause-long
set_counts_between-requires-clause-long c =
    let w = c.self.inside in
    let parts : AreParts w.groups.items w.slots.items c.args.self.now.groups =
    record { joined = ap (λ t. t.groups) c.self.view_is; long = c.self.invariant.0; nodes = c.self.invariant.2 } in
    ap (λ l. length l) c.deref_mut.ensures.value
    ∙ counts_long w.groups.items w.slots.items c.args.self.now.groups w.counts.items parts c.self.invariant.1
    ∙ sym (heads_after w.groups.items c.exchange_items.new.items.items w.slots.items c.args.self.now.groups
    c.args.exchange parts c.requires.blocks c.exchange_items.ensures)

pub set_counts_between-requires-clause-small : goal.set_counts_between-requires-clause-small
set_counts_between-requires-clause-small c =
    let w = c.self.inside in
    let small = c.requires.small in
    let long = heads_after w.groups.items c.exchange_items.new.items.items w.slots.items c.args.self.now.groups
    c.args.exchange
    (record { joined = ap (λ t. t.groups) c.self.view_is; long = c.self.invariant.0; nodes = c.self.invariant.2 })
    c.requires.blocks c.exchange_items.ensures in
    omega (arith, small, long)

pub set_counts_between-requires-clause-inside : goal.set_counts_between-requires-clause-inside
set_counts_between-requires-clause-inside c =
    let w = c.self.inside in
    let inside = c.requires.blocks.inside in
    let long = heads_after w.groups.items c.exchange_items.new.items.items w.slots.items c.args.self.now.groups
    c.args.exchange
    (record { joined = ap (λ t. t.groups) c.self.view_is; long = c.self.invariant.0; nodes = c.self.invariant.2 })
    c.requires.blocks c.exchange_items.ensures in
    omega (arith, inside, long)

pub set_counts_between-requires-clause-known : goal.set_counts_between-requires-clause-known
set_counts_between-requires-clause-known c =
    let w = c.self.inside in
    counts_after w.groups.items c.exchange_items.new.items.items w.slots.items c.args.self.now.groups
    c.deref_mut.result.now c.args.exchange
    (record { joined = ap (λ t. t.groups) c.self.view_is; long = c.self.invariant.0; nodes = c.self.invariant.2 })
    c.requires.blocks c.exchange_items.ensures (c.deref_mut.ensures.value ∙ c.self.invariant.1)

pub invariant_of-self : goal.invariant_of-self
invariant_of-self c =
    let w = c.self.inside in
    let news = parts_exchanged w.groups.items c.exchange_items.new.items.items w.slots.items
    c.exchange_items-2.new.items.items c.args.self.now.groups c.args.exchange
    (record { joined = ap (λ t. t.groups) c.self.view_is; long = c.self.invariant.0; nodes = c.self.invariant.2 })
    c.requires.blocks c.exchange_items.ensures c.exchange_items-2.ensures in
    let heads = c.exchange_items.new.items.items in
    let counts = c.set_counts_between.new.counts in
    let kept = c.set_counts_between.auto.counts in
    let count = c.deref_mut.ensures.len in
    let from = c.first_recount-from.result in (
      news.long,
      take-append-le w.counts.len counts _ (omega (arith, kept, count))
          ∙ take_all w.counts.len counts (omega (arith, kept, count))
          ∙ counts_exchanged w.groups.items heads w.slots.items w.counts.items counts c.args.exchange from
          c.self.invariant.0 c.exchange_items.ensures c.self.invariant.1 c.first_recount-from.ensures.same
          (c.set_counts_between.ensures.before ∙ ap (λ l. take from l) c.deref_mut.ensures.value)
          c.set_counts_between.ensures.after
          ∙ sym (counts_bare heads c.exchange_items-2.new.items.items news.long),
      news.nodes,
    )

pub returns : goal.returns
returns c =
    let w = c.self.inside in
    (parts_exchanged w.groups.items c.exchange_items.new.items.items w.slots.items
    c.exchange_items-2.new.items.items c.args.self.now.groups c.args.exchange
    (record { joined = ap (λ t. t.groups) c.self.view_is; long = c.self.invariant.0; nodes = c.self.invariant.2 })
    c.requires.blocks c.exchange_items.ensures c.exchange_items-2.ensures).joined
