use Rattle.std.proofs.Common.{List, ap, ◌∙◌, sym, subst}
use Rattle.rt_groups.specs.declared.groups.Group.{Group}
use Rattle.slot_table.specs.KeptRuns.{HaveOwnIndexes, set_all}
use Rattle.slot_table.proofs.KeptRuns.{seen}
use Rattle.slot_table.proofs.ChangesInPlace.{changed_in_place}
use Rattle.slot_table.proofs.changes.ChangeListWriter.into_change_list.Goals as goal

pub returns-then-fits_in_place : goal.returns-then-fits_in_place
returns-then-fits_in_place c =
    let w = c.self.inside in
    let olds : List Group = w.table.now.groups in
    let stays = c.if-fits_in_place.true in
    let own : HaveOwnIndexes 0 w.runs.items = subst (λ l. HaveOwnIndexes 0 l) c.deref-2.ensures.value
    (c.fits_in_place.ensures.own stays) in
    ap (λ l. seen l (set_all l w.places.items w.fresh)) c.of-olds.ensures
    ∙ ap (λ l. seen olds l) (sym (changed_in_place olds w.fresh w.runs.items w.places.items w.before w.len w.nodes
    c.self.invariant (c.fits_in_place.ensures.size stays) own))
    ∙ c.self.view_is
