use Rattle.std.proofs.Common.{◌≡◌, ◌∙◌, sym, ap, subst, ℕ, List, [], ◌||◌, inl, inr, true}
use Rattle.std.specs.Prelude.{Option}
use Rattle.std.proofs.lemmas.Bool.Decides.{eqb_tells}
use Rattle.rt_values.specs.Maps.{contains}
use Rattle.snap_ids.specs.IdLists.{IsRising, ids_above, rest_from}
use Rattle.snap_ids.proofs.Booleans.{not_both}
use Rattle.snap_ids.proofs.Members.{has_head, has_tail}
use Rattle.snap_world.proofs.Searching.{common_rising, common_keeps, common_set, common_only}
use Rattle.snap_world.proofs.searched_ids.common_ids.Goals as goal

pub loop-next-init : goal.loop-next-init
loop-next-init c =
    let own = c.args.own.now in
    let left = λ (i : ℕ). ap (λ (l : List ℕ). contains i l) c.first-next.ensures.rest in
    record {
      within = λ i h. sym (left i) ∙ h;
      rising = subst IsRising (sym c.new-ids.ensures) tt;
      of = λ i h. none i (sym (ap (λ (l : List ℕ). contains i l) c.new-ids.ensures) ∙ h);
      all = λ i here mine past. absurd (not_both (contains i own) mine (sym (left i) ∙ past));
    } where
      none : {A : Type 0} (i : ℕ) → contains i [] ≡ true → A
      none i h = absurd cc

pub loop-next-preserved : goal.loop-next-preserved
loop-next-preserved c =
    let own = c.args.own.now in
    let order = c.args.order.now in
    let id = c.in-Some.id in
    let xs = c.loop-next.ids in
    let inv = c.loop-next.invariant in
    let here = λ (i : ℕ). ap (λ (o : Option ℕ). contains i (rest_from o own)) c.in-Some.is in
    let left = λ (i : ℕ). ap (λ (l : List ℕ). contains i l) c.next_above-next.ensures in
    let set = λ (i : ℕ). ap (λ (l : List ℕ). contains i l) c.in_ok-add_common.ensures in
    record {
      within = λ i h. inv.within i (here i ∙ has_tail i id (ids_above id own) (sym (left i) ∙ h));
      rising = subst IsRising (sym c.in_ok-add_common.ensures) (common_rising order id xs inv.rising);
      of = λ i h. elim (common_only order i id xs (sym (set i) ∙ h)) [
        | inl e ↦ inv.of i e
        | inr e ↦ subst (λ (n : ℕ). (contains n order ≡ true) × (contains n own ≡ true)) (sym e.0)
            (e.1, inv.within id (here id ∙ has_head id (ids_above id own)))
      ];
      all = λ i there mine past. set i ∙ elim (eqb_tells id i) [
        | inl e ↦ common_set order id i xs e.1 there
        | inr e ↦ common_keeps order i id xs (inv.all i there mine
            (here i ∙ ap (λ b. b || contains i (ids_above id own)) e.0 ∙ sym (left i) ∙ past))
      ];
    }

pub returns : goal.returns
returns c = record {
  rising = c.loop-next.invariant.rising;
  of = c.loop-next.invariant.of;
  all = λ i there mine. c.loop-next.invariant.all i there mine
      (ap (λ (o : Option ℕ). contains i (rest_from o c.args.own.now)) c.in_default.is);
}
