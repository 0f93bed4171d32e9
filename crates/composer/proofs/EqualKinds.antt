-- Groups that are equal with their values.
use Rattle.std.proofs.Common.{ℕ, suc, List, [], ◌∷◌, ◌≡◌, refl, ap, ◌∙◌, true, ◌==◌, length}
use Rattle.std.specs.Bool.{Decides}
use Rattle.std.specs.Str.{bytes_eq}
use Rattle.std.proofs.lemmas.Bool.{eqb-true, and_parts as both_true, and_from as true_both}
use Rattle.std.proofs.lemmas.Slice.Eq.{slice_eq-Decides, bytes_eq-Decides}
use Rattle.rt_values.specs.declared.value.Value.{Value}
use Rattle.rt_values.specs.Values.{same_value, same_values}
use Rattle.rt_values.proofs.Equal.{same_value_decides}
use Rattle.rt_groups.specs.declared.groups.Attribute.{Attribute}
use Rattle.rt_groups.specs.declared.groups.GroupKind.{GroupKind}
use Rattle.rt_groups.specs.declared.groups.GroupKind.TheVariants as what
use Rattle.composer.specs.Comparisons.{same_attribute, same_attributes}

same_attribute_decides : (a b : Attribute) → Decides (same_attribute a b) (a ≡ b)
same_attribute_decides a b =
    let value = same_value_decides a.value b.value in
    let name = bytes_eq-Decides a.name b.name in (
      λ e.
          let both = both_true (same_value a.value b.value) (bytes_eq a.name b.name) e in
          ap (λ n. record { name = n; value = a.value }) (name.0 both.1)
          ∙ ap (λ v. record { name = b.name; value = v }) (value.0 both.0),
      λ e. true_both (same_value a.value b.value) (bytes_eq a.name b.name) (value.1 (ap (λ (x : Attribute). x.value) e))
          (name.1 (ap (λ (x : Attribute). x.name) e)),
    )

pub equal_values : (vs ws : List Value) → same_values vs ws ≡ true → vs ≡ ws
equal_values vs ws e = (slice_eq-Decides same_value_decides vs ws (same_values vs ws) refl).0 e

equal_attributes : (xs ys : List Attribute) → same_attributes xs ys ≡ true → xs ≡ ys
equal_attributes xs ys e = (slice_eq-Decides same_attribute_decides xs ys (same_attributes xs ys) refl).0 e

-- A node with an equal kind and equal attributes.
pub equal_nodes : (w : GroupKind) (k l : List ℕ) (xs ys : List Attribute) → w ≡ what.Node l ys → bytes_eq l k ≡ true
    → same_attributes ys xs ≡ true → w ≡ what.Node k xs
equal_nodes w k l xs ys is kinds attributes = is ∙ ap (λ n. what.Node n ys) ((bytes_eq-Decides l k).0 kinds)
    ∙ ap (λ z. what.Node k z) (equal_attributes ys xs attributes)

pub no_items : (xs : List ℕ) → (length xs == 0) ≡ true → xs ≡ []
no_items [] e = refl
no_items (x ∷ xs) e = absurd (let long : suc (length xs) ≡ 0 = eqb-true (suc (length xs)) 0 e in cc)
