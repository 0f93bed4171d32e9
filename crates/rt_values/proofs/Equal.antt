-- The equality test on values is exact.
use Rattle.std.proofs.Common.{◌≡◌, ℤ, Bool, true, List, refl, ap, sym, ◌∙◌}
use Rattle.std.specs.Bool.{Decides}
use Rattle.std.specs.Cmp.{booleans_Decides}
use Rattle.std.proofs.lemmas.Bool.Decides.{Decides-int_eq}
use Rattle.std.proofs.lemmas.Slice.Eq.{slice_eq-Decides, bytes_eq-Decides}
use Rattle.rt_values.specs.declared.value.Value.{Value}
use Rattle.rt_values.specs.declared.value.Value.TheVariants as value
use Rattle.rt_values.specs.Values.{same_value, same_items}

pub same_items_decides : (xs ys : List ℤ) → Decides (same_items xs ys) (xs ≡ ys)
same_items_decides xs ys = slice_eq-Decides Decides-int_eq xs ys (same_items xs ys) refl

pub same_value_decides : (v w : Value) → Decides (same_value v w) (v ≡ w)
same_value_decides (value.Int a) (value.Int b) = let h = Decides-int_eq a b in (λ e. ap value.Int (h.0 e), λ e. h.1 cc)
same_value_decides (value.Bool a) (value.Bool b) =
    let h = booleans_Decides a b in (λ e. ap value.Bool (h.0 e), λ e. h.1 cc)
same_value_decides (value.Text a) (value.Text b) =
    let h = bytes_eq-Decides a b in (λ e. ap value.Text (h.0 e), λ e. h.1 cc)
same_value_decides (value.Ints a) (value.Ints b) =
    let h = same_items_decides a b in (λ e. ap value.Ints (h.0 e), λ e. h.1 cc)
same_value_decides (value.Int a) (value.Bool b) = (λ e. absurd cc, λ e. absurd cc)
same_value_decides (value.Int a) (value.Text b) = (λ e. absurd cc, λ e. absurd cc)
same_value_decides (value.Int a) (value.Ints b) = (λ e. absurd cc, λ e. absurd cc)
same_value_decides (value.Bool a) (value.Int b) = (λ e. absurd cc, λ e. absurd cc)
same_value_decides (value.Bool a) (value.Text b) = (λ e. absurd cc, λ e. absurd cc)
same_value_decides (value.Bool a) (value.Ints b) = (λ e. absurd cc, λ e. absurd cc)
same_value_decides (value.Text a) (value.Int b) = (λ e. absurd cc, λ e. absurd cc)
same_value_decides (value.Text a) (value.Bool b) = (λ e. absurd cc, λ e. absurd cc)
same_value_decides (value.Text a) (value.Ints b) = (λ e. absurd cc, λ e. absurd cc)
same_value_decides (value.Ints a) (value.Int b) = (λ e. absurd cc, λ e. absurd cc)
same_value_decides (value.Ints a) (value.Bool b) = (λ e. absurd cc, λ e. absurd cc)
same_value_decides (value.Ints a) (value.Text b) = (λ e. absurd cc, λ e. absurd cc)

-- A test that answers `same_value` is true exactly for equal values.
pub told_equal : (v w : Value) (r : Bool) → r ≡ same_value v w → (r ≡ true → v ≡ w) × (v ≡ w → r ≡ true)
told_equal v w r e = let h = same_value_decides v w in (λ p. h.0 (sym e ∙ p), λ p. e ∙ h.1 p)
