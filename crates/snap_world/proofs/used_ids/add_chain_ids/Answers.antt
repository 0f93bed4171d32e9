use Rattle.std.proofs.Common.{◌≡◌, ◌∙◌, sym, ap, subst, arith, ℕ, Some, inl, inr}
use Rattle.std.proofs.lemmas.Bool.Decides.{eqb_tells}
use Rattle.std.proofs.lemmas.Option.{slice_get_within}
use Rattle.std.specs.Prelude.{slice_get}
use Rattle.rt_values.specs.Maps.{contains}
use Rattle.snap_records.specs.Chains.{keys_at, record_at}
use Rattle.snap_records.specs.Records.{Rec}
use Rattle.snap_nested.proofs.Needed.{set_keeps, set_has}
use Rattle.snap_world.proofs.UsedIds.{key_of}
use Rattle.snap_world.proofs.used_ids.add_chain_ids.Goals as goal

pub loop-i-preserved : goal.loop-i-preserved
loop-i-preserved c =
    let keys = keys_at c.args.chains.now c.args.x in
    let id = c.id_at.result in
    let old = c.loop-i.used in
    let new = c.set.new.self in
    let inv = c.loop-i.invariant in
    record {
      more = λ i h. set_keeps i id old new c.in_ok-set.ensures.ok (inv.more i h);
      all = λ j r low there. elim (eqb_tells j c.loop-i.i) [
        | inl e ↦
            let same : id ≡ (record_at c.args.chains.now r).id =
            c.id_at.ensures r (subst (λ (k : ℕ). slice_get keys k ≡ Some r) e.1 there) in
            ap (λ (n : ℕ). contains n new) (sym same) ∙ set_has id old new c.in_ok-set.ensures.ok
        | inr e ↦ set_keeps (record_at c.args.chains.now r).id id old new c.in_ok-set.ensures.ok
            (inv.all j r (omega (arith, low, e.1)) there)
      ];
    }

pub returns-clause-all : goal.returns-clause-all
returns-clause-all c = λ p there.
    let chains = c.args.chains.now in
    let keys = keys_at chains c.args.x in
    let k = key_of (λ key. record_at chains key) keys there.at p there.is in
    ap (λ (q : Rec). contains q.id c.loop-i.used) (sym k.2)
    ∙ c.loop-i.invariant.all there.at k.0
    (omega (arith, slice_get_within keys there.at k.0 k.1, c.loop-i-test.false, c.count-i-end.ensures)) k.1
