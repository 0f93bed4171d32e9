use Rattle.std.proofs.Common.{◌≡◌, List, arith, ap, ◌∙◌, sym, subst}
use Rattle.rt_groups.specs.declared.groups.Group.{Group}
use Rattle.slot_table.specs.AppliedChanges.{IsChange}
use Rattle.slot_table.proofs.ExchangedBlocks.{long_after, same_blocks}
use Rattle.slot_table.proofs.changes.ChangeList.preview.Goals as goal

pub exchange-requires-clause-blocks : goal.exchange-requires-clause-blocks
exchange-requires-clause-blocks c =
    let olds : List Group = c.self.inside.olds.groups in
    let is = subst (λ change. IsChange olds change) c.in-Exchanged.is c.self.invariant in
    let same : olds ≡ c.args.table.now.groups = ap (λ s. s.olds) c.self.view_is ∙ sym c.requires in
    same_blocks olds c.in_ok-made-in-Exchanged.made.groups c.in-Exchanged.exchange
    (long_after olds c.args.table.now.groups c.in_ok-made-in-Exchanged.made.groups c.deref-in-Exchanged.result.now
    c.in-Exchanged.fresh same c.in_ok-made-in-Exchanged.ensures) is.2

pub exchange-requires-clause-small : goal.exchange-requires-clause-small
exchange-requires-clause-small c =
    let olds : List Group = c.self.inside.olds.groups in
    let is = subst (λ change. IsChange olds change) c.in-Exchanged.is c.self.invariant in
    let small = is.3 in
    let same : olds ≡ c.args.table.now.groups = ap (λ s. s.olds) c.self.view_is ∙ sym c.requires in
    let long = long_after olds c.args.table.now.groups c.in_ok-made-in-Exchanged.made.groups
    c.deref-in-Exchanged.result.now c.in-Exchanged.fresh same c.in_ok-made-in-Exchanged.ensures in
    omega (arith, small, long)
