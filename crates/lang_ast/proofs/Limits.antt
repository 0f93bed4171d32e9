-- What a program within the limits of size keeps.
use Rattle.std.proofs.Common.{◌≡◌, ◌≤◌, ℕ, List, [], ◌∷◌, ◌++◌, Option, Some, None, refl, subst, length, map, slice_get, inl, inr}
use Rattle.std.proofs.lemmas.Option.{slice_get_cases}
use Rattle.std.proofs.lemmas.List.{length-map}
use Rattle.lang_ast.specs.Terms.{Func}
use Rattle.lang_ast.specs.declared.program.State.{State}
use Rattle.lang_ast.specs.Sizes.{most_forms, first_excess, state_offset, function_offset, states_sizes, functions_sizes, oversized_parts}

-- If a concatenation is empty, both lists are.
pub none_in : {A : Type 0} (xs ys : List A) → xs ++ ys ≡ [] → (xs ≡ []) × (ys ≡ [])
none_in [] ys h = (refl, h)
none_in (x ∷ xs) ys h = absurd (cc)

-- If there is no item at an index, the list is not longer.
few : {A : Type 0} (xs : List A) (n : ℕ) → slice_get xs n ≡ None → length xs ≤ n
few xs n h = elim (slice_get_cases xs n).1 [ inl found ↦ absurd cc | inr past ↦ past.0 ]

none-too-many : (offsets : List ℕ) → first_excess offsets ≡ [] → slice_get offsets most_forms ≡ None
none-too-many offsets h = by (slice_get offsets most_forms) refl
  where
    by : (o : Option ℕ) → slice_get offsets most_forms ≡ o → o ≡ None
    by None e = refl
    by (Some at) e = let bad : at ∷ [] ≡ [] = rw e at h in absurd cc

-- A program within the limits has at most 256 states and 256 functions.
module _ (states : List State) (functions : List Func) (small : oversized_parts states functions ≡ []) where
  forms : (first_excess (map state_offset states) ≡ []) × (first_excess (map function_offset functions) ≡ [])
  forms =
      let counts = (none_in (first_excess (map state_offset states) ++ first_excess (map function_offset functions))
      (states_sizes states ++ functions_sizes functions) small).0 in
      none_in (first_excess (map state_offset states)) (first_excess (map function_offset functions)) counts

  pub few_states : length states ≤ most_forms
  few_states = subst (λ n. n ≤ most_forms) (length-map states state_offset)
      (few (map state_offset states) most_forms (none-too-many (map state_offset states) forms.0))

  pub few_functions : length functions ≤ most_forms
  few_functions = subst (λ n. n ≤ most_forms) (length-map functions function_offset)
      (few (map function_offset functions) most_forms (none-too-many (map function_offset functions) forms.1))
