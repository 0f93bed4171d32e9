-- Internal: the proof of a law of `BuiltIn`: a merge under a policy of the table keeps the type of the values.
use Rattle.std.proofs.Common.{◌≡◌, refl, ℤ, Bool, true, false, List, Option, Some, None, if◌then◌else◌, sym, ap, ◌∙◌}
use Rattle.rt_values.specs.declared.value.Value.{Value}
use Rattle.rt_values.specs.declared.value.Value.TheVariants as value
use Rattle.rt_values.specs.declared.value.Ty.{Ty}
use Rattle.rt_values.specs.declared.value.Ty.TheVariants as ty
use Rattle.rt_values.specs.Values.{type_of}
use Rattle.snap_policy.specs.Table.{merge_counters, merge_largest, merge_lists, can_append, appended_list, table_merge, table_fits}
use Rattle.snap_policy.specs.declared.policy.BuiltIn.{BuiltIn}
use Rattle.snap_policy.specs.declared.policy.BuiltIn.TheVariants.{Structural, Never, Counter, Largest, Append}

-- The type of a merged value, or t if there is none.
abbrev type_or : Ty → Option Value → Ty
type_or t None = t
type_or t (Some v) = type_of v

counters_type : (t : Ty) (previous current applied : Value) → type_of current ≡ t
    → type_or t (merge_counters previous current applied) ≡ t
counters_type t (value.Int p) (value.Int c) (value.Int a) is = is
counters_type t (value.Int p) (value.Int c) (value.Bool a) is = refl
counters_type t (value.Int p) (value.Int c) (value.Text a) is = refl
counters_type t (value.Int p) (value.Int c) (value.Ints a) is = refl
counters_type t (value.Int p) (value.Bool c) a is = refl
counters_type t (value.Int p) (value.Text c) a is = refl
counters_type t (value.Int p) (value.Ints c) a is = refl
counters_type t (value.Bool p) c a is = refl
counters_type t (value.Text p) c a is = refl
counters_type t (value.Ints p) c a is = refl

largest_type : (t : Ty) (current applied : Value) → type_of current ≡ t → type_or t (merge_largest current applied) ≡ t
largest_type t (value.Int c) (value.Int a) is = is
largest_type t (value.Int c) (value.Bool a) is = refl
largest_type t (value.Int c) (value.Text a) is = refl
largest_type t (value.Int c) (value.Ints a) is = refl
largest_type t (value.Bool c) a is = refl
largest_type t (value.Text c) a is = refl
largest_type t (value.Ints c) a is = refl

list_type : (t : Ty) (b : Bool) (l : List ℤ) → ty.Ints ≡ t → type_or t (if b then Some (value.Ints l) else None) ≡ t
list_type t true l is = is
list_type t false l is = refl

lists_type : (t : Ty) (previous current applied : Value) → type_of current ≡ t
    → type_or t (merge_lists previous current applied) ≡ t
lists_type t (value.Ints p) (value.Ints c) (value.Ints a) is = list_type t (can_append p c a) (appended_list p c a) is
lists_type t (value.Ints p) (value.Ints c) (value.Int a) is = refl
lists_type t (value.Ints p) (value.Ints c) (value.Bool a) is = refl
lists_type t (value.Ints p) (value.Ints c) (value.Text a) is = refl
lists_type t (value.Ints p) (value.Int c) a is = refl
lists_type t (value.Ints p) (value.Bool c) a is = refl
lists_type t (value.Ints p) (value.Text c) a is = refl
lists_type t (value.Int p) c a is = refl
lists_type t (value.Bool p) c a is = refl
lists_type t (value.Text p) c a is = refl

merged_type : (p : BuiltIn) (t : Ty) (previous current applied : Value) → type_of current ≡ t
    → type_or t (table_merge p previous current applied) ≡ t
merged_type Structural t previous current applied is = refl
merged_type Never t previous current applied is = refl
merged_type Counter t previous current applied is = counters_type t previous current applied is
merged_type Largest t previous current applied is = largest_type t current applied is
merged_type Append t previous current applied is = lists_type t previous current applied is

-- A merged value has the type of the three values.
pub table_merge_keeps_type : (p : BuiltIn) (t : Ty) (previous current applied merged : Value) → table_fits p t ≡ true
    → type_of previous ≡ t → type_of current ≡ t → type_of applied ≡ t
    → table_merge p previous current applied ≡ Some merged → type_of merged ≡ t
table_merge_keeps_type p t previous current applied merged fits at_previous at_current at_applied given =
    sym (ap (type_or t) given) ∙ merged_type p t previous current applied at_current
