use Rattle.std.proofs.Common.{◌≡◌, List, arith, ap, ◌∙◌, subst}
use Rattle.rt_groups.specs.declared.groups.Group.{Group}
use Rattle.slot_table.specs.AppliedChanges.{IsChange}
use Rattle.slot_table.proofs.ExchangedBlocks.{long_after, same_blocks}
use Rattle.slot_table.proofs.table.Table.apply.Goals as goal

pub exchange-requires-clause-blocks : goal.exchange-requires-clause-blocks
exchange-requires-clause-blocks c =
    let olds : List Group = c.changes.inside.olds.groups in
    let is = subst (λ change. IsChange olds change) c.in-Exchanged.is c.changes.invariant in
    let same : olds ≡ c.args.self.now.groups = ap (λ s. s.olds) c.changes.view_is ∙ c.requires in
    same_blocks olds c.set_groups-in-Exchanged.new.self.groups c.in-Exchanged.exchange
    (long_after olds c.args.self.now.groups c.set_groups-in-Exchanged.new.self.groups c.in-Exchanged.places.items
    c.in-Exchanged.fresh same c.set_groups-in-Exchanged.ensures) is.2

pub exchange-requires-clause-small : goal.exchange-requires-clause-small
exchange-requires-clause-small c =
    let olds : List Group = c.changes.inside.olds.groups in
    let is = subst (λ change. IsChange olds change) c.in-Exchanged.is c.changes.invariant in
    let small = is.3 in
    let same : olds ≡ c.args.self.now.groups = ap (λ s. s.olds) c.changes.view_is ∙ c.requires in
    let long = long_after olds c.args.self.now.groups c.set_groups-in-Exchanged.new.self.groups
    c.in-Exchanged.places.items c.in-Exchanged.fresh same c.set_groups-in-Exchanged.ensures in
    omega (arith, small, long)
