use Rattle.std.proofs.Common.{List, arith, ap, ◌∙◌, sym, subst}
use Rattle.rt_groups.specs.declared.groups.Group.{Group}
use Rattle.slot_table.specs.declared.changes.Change.TheVariants as change
use Rattle.slot_table.specs.AppliedChanges.{IsChange}
use Rattle.slot_table.specs.KeptRuns.{AreExchanged, AreOutside, KeepDepths, set_all, after_exchange}
use Rattle.slot_table.proofs.KeptRuns.{seen}
use Rattle.slot_table.proofs.ExchangedBlocks.{exchanged_in_place}
use Rattle.slot_table.proofs.changes.ChangeListWriter.into_moves.Goals as goal

pub invariant_of-result : goal.invariant_of-result
invariant_of-result c =
    let w = c.self.inside in
    let olds : List Group = w.table.now.groups in
    let e = c.in-Some.exchange in
    let fits = c.if-fits_around.true in
    let size = c.fits_around.ensures.size fits in
    let small = c.fits_around.ensures.small fits in
    let runs : AreExchanged 0 w.runs.items e = subst (λ l. AreExchanged 0 l e) c.deref.ensures.value
    c.in-Some.ensures in
    let out : AreOutside e w.places.items = subst (λ l. AreOutside e l) c.deref-in-Some.ensures.value
    (c.fits_around.ensures.outside fits) in
    let depths : KeepDepths olds w.places.items w.fresh = subst (λ l. KeepDepths olds l w.fresh)
    c.deref-in-Some.ensures.value (c.fits_around.ensures.depths fits) in
    let all = exchanged_in_place olds w.fresh w.runs.items w.places.items w.before w.len w.nodes e c.self.invariant size
    runs out in
    let is : IsChange olds (change.Exchanged w.fresh w.places e) =
    (c.self.invariant.long, depths, all.both, omega (arith, small, size)) in
    subst (λ l. IsChange l (change.Exchanged w.fresh w.places e)) (sym c.of-olds.ensures) is

pub returns-then-fits_around : goal.returns-then-fits_around
returns-then-fits_around c =
    let w = c.self.inside in
    let olds : List Group = w.table.now.groups in
    let e = c.in-Some.exchange in
    let fits = c.if-fits_around.true in
    let runs : AreExchanged 0 w.runs.items e = subst (λ l. AreExchanged 0 l e) c.deref.ensures.value
    c.in-Some.ensures in
    let out : AreOutside e w.places.items = subst (λ l. AreOutside e l) c.deref-in-Some.ensures.value
    (c.fits_around.ensures.outside fits) in
    let all = exchanged_in_place olds w.fresh w.runs.items w.places.items w.before w.len w.nodes e c.self.invariant
    (c.fits_around.ensures.size fits) runs out in
    ap (λ l. seen l (after_exchange e (set_all l w.places.items w.fresh))) c.of-olds.ensures
    ∙ ap (λ l. seen olds l) (sym all.is)
    ∙ c.self.view_is
