use Rattle.std.proofs.Common.{subst, arith, ℕ, List, [], inl, inr}
use Rattle.std.proofs.lemmas.Bool.{cases_lt}
use Rattle.std.proofs.lemmas.Bool.Decides.{eqb_tells}
use Rattle.std.specs.Prelude.{length}
use Rattle.snap_records.specs.Chains.{chain_of}
use Rattle.snap_records.specs.Records.{Rec, Has}
use Rattle.snap_world.proofs.Forgetting.{chain_past}
use Rattle.snap_world.proofs.used_ids.add_record_ids.Goals as goal

pub loop-x-preserved : goal.loop-x-preserved
loop-x-preserved c =
    let chains = c.args.chains.now in
    let inv = c.loop-x.invariant in
    record {
      more = λ i h. c.in_ok-add_chain_ids.ensures.more i (inv.more i h);
      all = λ y p low there. elim (eqb_tells y c.loop-x.x) [
        | inl e ↦ c.in_ok-add_chain_ids.ensures.all p (subst (λ (k : ℕ). Has (chain_of chains k) p) e.1 there)
        | inr e ↦ c.in_ok-add_chain_ids.ensures.more p.id (inv.all y p (omega (arith, low, e.1)) there)
      ];
    }

pub returns-clause-all : goal.returns-clause-all
returns-clause-all c = λ x p there.
    let chains = c.args.chains.now in
    elim (cases_lt x (length chains.heads.items)) [
      | inl within ↦ c.loop-x.invariant.all x p
          (omega (arith, within, c.loop-x-test.false, c.objects-x-end.ensures)) there
      | inr past ↦ absurd (none p (subst (λ (l : List Rec). Has l p) (chain_past chains x past) there))
    ] where
      none : (p : Rec) → Has [] p → ⊥
      none p h = let is = h.is in cc
