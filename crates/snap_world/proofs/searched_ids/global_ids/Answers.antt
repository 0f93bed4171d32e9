use Rattle.std.proofs.Common.{◌≡◌, ◌+◌, [], sym, ap, subst, ◌∙◌, ℕ, List, drop, true, arith, inl, inr}
use Rattle.std.proofs.Math.ListN.{drop_of_length-le}
use Rattle.std.proofs.lemmas.List.{drop_more}
use Rattle.std.specs.Prelude.{slice_index_or}
use Rattle.rt_values.specs.Maps.{contains}
use Rattle.snap_ids.specs.IdLists.{IsRising}
use Rattle.snap_ids.proofs.Booleans.{same_or_other, not_both}
use Rattle.snap_ids.proofs.IdLists.{contains-at}
use Rattle.snap_world.proofs.Reading.{left_out}
use Rattle.snap_world.proofs.Searching.{common_rising, common_keeps, common_set, common_only}
use Rattle.snap_world.proofs.searched_ids.global_ids.Goals as goal

pub loop-id-init : goal.loop-id-init
loop-id-init c =
    let order = c.args.order.now in
    record {
      rising = subst IsRising (sym c.new-ids.ensures) tt;
      of = λ i h. none i (sym (ap (λ (l : List ℕ). contains i l) c.new-ids.ensures) ∙ h);
      all = λ i here mine past. absurd (not_both (contains i order) here
          (sym (ap (λ (l : List ℕ). contains i l) c.ids-id-items.ensures.ids) ∙ past));
    } where
      none : {A : Type 0} (i : ℕ) → contains i [] ≡ true → A
      none i h = absurd cc

pub loop-id-preserved : goal.loop-id-preserved
loop-id-preserved c =
    let own = c.args.own.now in
    let order = c.args.order.now in
    let items = c.ids-id-items.result.now in
    let at = c.loop-id.id-index in
    let id = slice_index_or items at 0 in
    let xs = c.loop-id.ids in
    let inv = c.loop-id.invariant in
    let set = λ (i : ℕ). ap (λ (l : List ℕ). contains i l) c.in_ok-add_if_own.ensures in
    let here : contains id order ≡ true =
    sym (ap (λ (l : List ℕ). contains id l) c.ids-id-items.ensures.ids) ∙ contains-at items at c.loop-id-test.true in
    record {
      rising = subst IsRising (sym c.in_ok-add_if_own.ensures) (common_rising own id xs inv.rising);
      of = λ i h. elim (common_only own i id xs (sym (set i) ∙ h)) [
        | inl e ↦ inv.of i e
        | inr e ↦ subst (λ (n : ℕ). (contains n order ≡ true) × (contains n own ≡ true)) (sym e.0) (here, e.1)
      ];
      all = λ i there mine past. set i ∙ elim (same_or_other i id) [
        | inl e ↦ common_set own id i xs (sym e) mine
        | inr e ↦ common_keeps own i id xs (inv.all i there mine
            (ap (λ (l : List ℕ). contains i l) (drop_more items at 0 c.loop-id-test.true)
            ∙ left_out id i (drop (at + 1) items) e past))
      ];
    }

pub returns : goal.returns
returns c =
    let items = c.ids-id-items.result.now in
    let none : drop c.loop-id.id-index items ≡ [] =
    drop_of_length-le items (omega (arith, c.loop-id-test.false)) in
    record {
      rising = c.loop-id.invariant.rising;
      of = c.loop-id.invariant.of;
      all = λ i there mine. c.loop-id.invariant.all i there mine (ap (λ (l : List ℕ). contains i l) none);
    }
