use Rattle.std.proofs.Common.{◌≡◌, ◌∙◌, ◌-◌, sym, ap, subst, arith, ℕ, [], Some, inl, inr}
use Rattle.std.proofs.lemmas.Bool.Decides.{eqb_tells}
use Rattle.std.proofs.lemmas.Option.{slice_get_within}
use Rattle.std.specs.Prelude.{slice_get}
use Rattle.rt_values.specs.Maps.{contains}
use Rattle.snap_records.specs.Chains.{keys_at, record_at}
use Rattle.snap_records.specs.Records.{Rec}
use Rattle.snap_ids.specs.IdLists.{IsRising}
use Rattle.snap_ids.proofs.IdLists.{rising-with_id}
use Rattle.snap_nested.proofs.Needed.{set_keeps, set_has, set_only}
use Rattle.snap_world.proofs.UsedIds.{key_of}
use Rattle.snap_world.proofs.Sorted.{only_zero, held_at}
use Rattle.snap_world.proofs.searched_ids.sorted_ids.Goals as goal

pub loop-i-init : goal.loop-i-init
loop-i-init c =
    let keys = keys_at c.args.chains.now c.args.x in
    record {
      rising = subst IsRising (sym c.in_ok-order.ensures) (rising-with_id 0 [] tt);
      within = omega (arith, c.count-i.ensures);
      of = λ i h positive. absurd (only_zero i c.in_ok-order.order c.in_ok-order.ensures h positive);
      all = λ j r past there. absurd (omega (arith, past, c.count-i.ensures, slice_get_within keys j r there));
    }

pub loop-i-preserved : goal.loop-i-preserved
loop-i-preserved c =
    let chains = c.args.chains.now in
    let keys = keys_at chains c.args.x in
    let id = c.id_at.result in
    let old = c.loop-i.order in
    let new = c.set.new.self in
    let inv = c.loop-i.invariant in
    let held = held_at chains c.args.x (c.loop-i.i - 1) id (omega (arith, inv.within, c.loop-i-test.true))
    c.id_at.ensures in
    record {
      rising = subst IsRising (sym c.in_ok-set.ensures.ok) (rising-with_id id old inv.rising);
      within = omega (arith, inv.within);
      of = λ i h positive. elim (set_only i id old new c.in_ok-set.ensures.ok h) [
        | inl e ↦ inv.of i e positive
        | inr e ↦ (held.0, held.1, held.2 ∙ sym e)
      ];
      all = λ j r past there. elim (eqb_tells j (c.loop-i.i - 1)) [
        | inl e ↦
            let same : id ≡ (record_at chains r).id =
            c.id_at.ensures r (subst (λ (k : ℕ). slice_get keys k ≡ Some r) e.1 there) in
            ap (λ (n : ℕ). contains n new) (sym same) ∙ set_has id old new c.in_ok-set.ensures.ok
        | inr e ↦ set_keeps (record_at chains r).id id old new c.in_ok-set.ensures.ok
            (inv.all j r (omega (arith, past, e.1, c.loop-i-test.true)) there)
      ];
    }

pub returns : goal.returns
returns c =
    let chains = c.args.chains.now in
    let keys = keys_at chains c.args.x in
    let inv = c.loop-i.invariant in
    record {
      rising = inv.rising;
      of = inv.of;
      all = λ p there.
          let k = key_of (λ key. record_at chains key) keys there.at p there.is in
          ap (λ (q : Rec). contains q.id c.loop-i.order) (sym k.2)
          ∙ inv.all there.at k.0 (omega (arith, c.loop-i-test.false)) k.1;
    }
