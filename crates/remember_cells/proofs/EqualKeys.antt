-- A cell is kept exactly for equal keys.
use Rattle.std.proofs.Common.{◌≡◌, ◌↔◌, Bool, true, false, List, Option, Some, None, if◌then◌else◌, refl, ap, sym, ◌∙◌, true≢false}
use Rattle.std.proofs.lemmas.Slice.Eq.{slice_eq-Decides}
use Rattle.std.proofs.lemmas.Option.{none-some, same_Some}
use Rattle.rt_values.specs.declared.value.Value.{Value}
use Rattle.rt_values.specs.Values.{same_values}
use Rattle.rt_values.proofs.Equal.{same_value_decides}
use Rattle.remember_cells.specs.declared.answers.CellAnswer.{CellAnswer}
use Rattle.remember_cells.specs.declared.answers.CellAnswer.TheVariants as answer
use Rattle.remember_cells.specs.Cells.{cell_answer}

abbrev is_kept : CellAnswer → Bool
is_kept answer.Kept = true
is_kept answer.Calculate = false

calculates : {X : Type 0} → answer.Calculate ≡ answer.Kept → X
calculates e = absurd (true≢false (sym (ap is_kept e)))

pub kept_for_equal_keys : (old : Option (List Value)) (keys : List Value) (r : CellAnswer) → r ≡ cell_answer old keys
    → (r ≡ answer.Kept) ↔ (old ≡ Some keys)
kept_for_equal_keys None keys r e = (λ k. calculates (sym e ∙ k), λ s. absurd (none-some keys s))
kept_for_equal_keys (Some old) keys r e =
    by (same_values old keys) (slice_eq-Decides same_value_decides old keys (same_values old keys) refl) e
  where
    by : (b : Bool) → ((b ≡ true → old ≡ keys) × (old ≡ keys → b ≡ true))
        → r ≡ (if b then answer.Kept else answer.Calculate) → (r ≡ answer.Kept) ↔ (Some old ≡ Some keys)
    by true h e = (λ k. ap Some (h.0 refl), λ s. e)
    by false h e = (λ k. calculates (sym e ∙ k), λ s. absurd (true≢false (sym (h.1 (same_Some old keys s)))))
