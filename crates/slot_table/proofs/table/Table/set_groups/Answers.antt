use Rattle.std.proofs.Common.{ap, ◌∙◌, sym, subst}
use Rattle.rt_groups.specs.PreorderGroups.{flat_group}
use Rattle.slot_table.specs.KeptRuns.{set_all, KeepDepths}
use Rattle.slot_table.proofs.ChangesInPlace.{one_set}
use Rattle.slot_table.proofs.table.Table.set_groups.Goals as goal

pub loop-place-preserved : goal.loop-place-preserved
loop-place-preserved c =
    let h = c.in-Some-pop.head in
    let s = c.in-Some-pop.slots in
    let popped = c.in-Some-pop.ensures in
    let one = one_set c.loop-place.self.groups c.loop-place.places.items c.pop.new.self.items c.loop-place.fresh
    c.pop-in-Some.new.self c.in-Some.place (flat_group h.depth h.site h.number s.what s.reads)
    c.loop-place.invariant.long c.loop-place.invariant.depths c.in-Some.ensures.items popped.last in
    record {
      long = one.long;
      depths = subst (λ l. KeepDepths l c.pop.new.self.items c.pop-in-Some.new.self) (sym c.replace_group.ensures)
          one.depths;
      same = ap (λ l. set_all l c.pop.new.self.items c.pop-in-Some.new.self) c.replace_group.ensures ∙ one.same
          ∙ c.loop-place.invariant.same;
    }
