use Rattle.std.proofs.Common.{◌≡◌, arith, ap, ◌∙◌, sym, length, take}
use Rattle.std.proofs.lemmas.List.{take-append-le, take_all}
use Rattle.slot_table.specs.Storage.{AreParts}
use Rattle.slot_table.proofs.JoinedGroups.{heads_long}
use Rattle.slot_table.proofs.ShrunkParts.{heads_shrunk, slots_shrunk, parts_shrunk, counts_bare, first_counts}
use Rattle.slot_table.proofs.table.Table.shrink.Goals as goal

pub shrink_items-requires : goal.shrink_items-requires
shrink_items-requires c =
    let w = c.self.inside in
    heads_shrunk w.groups.items c.into_parts-heads.result.0.items w.slots.items c.into_parts-heads.result.1.items
    c.args.self.now.groups c.args.fresh c.args.runs.now c.args.len
    (record { joined = ap (λ t. t.groups) c.self.view_is; long = c.self.invariant.0; nodes = c.self.invariant.2 })
    c.into_parts-heads.ensures c.requires.shrunk

pub shrink_items-requires-2 : goal.shrink_items-requires-2
shrink_items-requires-2 c =
    let w = c.self.inside in
    slots_shrunk w.groups.items c.into_parts-heads.result.0.items w.slots.items c.into_parts-heads.result.1.items
    c.args.self.now.groups c.args.fresh c.args.runs.now c.args.len
    (record { joined = ap (λ t. t.groups) c.self.view_is; long = c.self.invariant.0; nodes = c.self.invariant.2 })
    c.into_parts-heads.ensures c.requires.shrunk

pub set_counts-requires-clause-long : goal.set_counts-requires-clause-long
set_counts-requires-clause-long c =
    let w = c.self.inside in
    let parts : AreParts w.groups.items w.slots.items c.args.self.now.groups =
    record { joined = ap (λ t. t.groups) c.self.view_is; long = c.self.invariant.0; nodes = c.self.invariant.2 } in
    let news = parts_shrunk w.groups.items c.shrink_items.new.items.items c.into_parts-heads.result.0.items
    w.slots.items c.shrink_items-2.new.items.items c.into_parts-heads.result.1.items c.args.self.now.groups
    c.args.fresh c.args.runs.now parts c.into_parts-heads.ensures c.shrink_items.ensures c.shrink_items-2.ensures in
    let long = heads_long c.shrink_items.new.items.items c.shrink_items-2.new.items.items _ news in
    let is = c.requires.shrunk.len_is in
    let first = first_counts w.groups.items w.slots.items c.args.self.now.groups w.counts.items c.args.len parts
    c.self.invariant.1 c.requires.shrunk.fewer in
    let kept : length c.deref_mut.result.now ≡ length (take c.args.len w.counts.items) =
    ap (λ l. length l) (c.deref_mut.ensures.value ∙ c.truncate.ensures.items) in
    omega (arith, long, is, first, kept)

pub set_counts-requires-clause-small : goal.set_counts-requires-clause-small
set_counts-requires-clause-small c =
    let w = c.self.inside in
    let news = parts_shrunk w.groups.items c.shrink_items.new.items.items c.into_parts-heads.result.0.items
    w.slots.items c.shrink_items-2.new.items.items c.into_parts-heads.result.1.items c.args.self.now.groups
    c.args.fresh c.args.runs.now
    (record { joined = ap (λ t. t.groups) c.self.view_is; long = c.self.invariant.0; nodes = c.self.invariant.2 })
    c.into_parts-heads.ensures c.shrink_items.ensures c.shrink_items-2.ensures in
    let long = heads_long c.shrink_items.new.items.items c.shrink_items-2.new.items.items _ news in
    let is = c.requires.shrunk.len_is in
    let small = c.requires.small in
    omega (arith, long, is, small)

pub invariant_of-self : goal.invariant_of-self
invariant_of-self c =
    let w = c.self.inside in
    let news = parts_shrunk w.groups.items c.shrink_items.new.items.items c.into_parts-heads.result.0.items
    w.slots.items c.shrink_items-2.new.items.items c.into_parts-heads.result.1.items c.args.self.now.groups
    c.args.fresh c.args.runs.now
    (record { joined = ap (λ t. t.groups) c.self.view_is; long = c.self.invariant.0; nodes = c.self.invariant.2 })
    c.into_parts-heads.ensures c.shrink_items.ensures c.shrink_items-2.ensures in
    let heads = c.shrink_items.new.items.items in
    let counts = c.set_counts.new.counts in
    let kept = c.set_counts.auto.counts in
    let count = c.deref_mut.ensures.len in (
      news.long,
      take-append-le c.truncate.new.self.len counts _ (omega (arith, kept, count))
          ∙ take_all c.truncate.new.self.len counts (omega (arith, kept, count))
          ∙ c.set_counts.ensures
          ∙ sym (counts_bare heads c.shrink_items-2.new.items.items news.long),
      news.nodes,
    )

pub returns : goal.returns
returns c =
    let w = c.self.inside in
    (parts_shrunk w.groups.items c.shrink_items.new.items.items c.into_parts-heads.result.0.items
    w.slots.items c.shrink_items-2.new.items.items c.into_parts-heads.result.1.items c.args.self.now.groups
    c.args.fresh c.args.runs.now
    (record { joined = ap (λ t. t.groups) c.self.view_is; long = c.self.invariant.0; nodes = c.self.invariant.2 })
    c.into_parts-heads.ensures c.shrink_items.ensures c.shrink_items-2.ensures).joined
