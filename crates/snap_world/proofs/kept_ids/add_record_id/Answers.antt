use Rattle.std.proofs.Common.{◌≡◌, ℕ, ◌==◌, List, sym, ap, ◌∙◌, Option, true, inl, inr}
use Rattle.std.specs.Option.{option_map}
use Rattle.rt_values.specs.Maps.{contains}
use Rattle.snap_ids.proofs.Booleans.{or_left, or_right, or_true}
use Rattle.snap_records.specs.declared.slots.RecordNo.{RecordNo}
use Rattle.snap_records.specs.Chains.{record_at}
use Rattle.snap_reuse.specs.Readers.{has_id}
use Rattle.snap_world.proofs.NotedLoops.{contains_last}
use Rattle.snap_world.proofs.kept_ids.add_record_id.Goals as goal

pub returns-in_ok-push-in-Some-clause-more : goal.returns-in_ok-push-in-Some-clause-more
returns-in_ok-push-in-Some-clause-more c = λ i h.
    ap (λ (l : List ℕ). contains i l) c.in_ok-push-in-Some.ensures.ok ∙ contains_last i c.id.result c.args.ids.now
    ∙ or_left (contains i c.args.ids.now) (c.id.result == i) h

pub returns-in_ok-push-in-Some-clause-added : goal.returns-in_ok-push-in-Some-clause-added
returns-in_ok-push-in-Some-clause-added c = λ i h.
    let here : ((record_at c.args.chains.now c.in-Some.r.0).id == i) ≡ true =
    ap (λ (o : Option RecordNo). has_id i (option_map (λ r. record_at c.args.chains.now r.0) o)) (sym c.in-Some.is)
    ∙ h in
    ap (λ (l : List ℕ). contains i l) c.in_ok-push-in-Some.ensures.ok ∙ contains_last i c.id.result c.args.ids.now
    ∙ or_right (contains i c.args.ids.now) (c.id.result == i) (ap (λ (n : ℕ). n == i) c.id.ensures ∙ here)

pub returns-in_ok-push-in-Some-clause-only : goal.returns-in_ok-push-in-Some-clause-only
returns-in_ok-push-in-Some-clause-only c = λ i h.
    elim (or_true (contains i c.args.ids.now) (c.id.result == i)
    (sym (ap (λ (l : List ℕ). contains i l) c.in_ok-push-in-Some.ensures.ok
    ∙ contains_last i c.id.result c.args.ids.now) ∙ h)) [
      | inl t ↦ inl t
      | inr t ↦ inr (ap (λ (o : Option RecordNo). has_id i (option_map (λ r. record_at c.args.chains.now r.0) o))
          c.in-Some.is ∙ ap (λ (n : ℕ). n == i) (sym c.id.ensures) ∙ t)
    ]
