-- Trusted: the table of the policies that programs name.
use Rattle.std.specs.Prelude.{◌≡◌, ℤ, Bool, true, false, ◌&&◌, List, ◌++◌, length, drop, nat_le, Option, Some, None, if◌then◌else◌}
use Rattle.std.specs.Int.{int_max}
use Rattle.std.specs.List.{starts_with}
use Rattle.std.specs.Ordering.{int_eq}
use Rattle.rt_values.specs.declared.value.Value.{Value}
use Rattle.rt_values.specs.declared.value.Value.TheVariants as value
use Rattle.rt_values.specs.declared.value.Ty.{Ty}
use Rattle.rt_values.specs.declared.value.Ty.TheVariants as ty
use Rattle.rt_values.specs.Limits.{most_items}
use Rattle.rt_values.specs.Values.{same_value}
use Rattle.rt_values.specs.Operators.{sum_of, difference}
use Rattle.snap_policy.specs.Rules.{Rules}
use Rattle.snap_policy.specs.declared.policy.BuiltIn.{BuiltIn}
use Rattle.snap_policy.specs.declared.policy.BuiltIn.TheVariants.{Structural, Never, Counter, Largest, Append}

-- Whether two values count as equal: equal values do, except under Never, where no values do.
abbrev pub table_equiv : BuiltIn → Value → Value → Bool
table_equiv Structural a b = same_value a b
table_equiv Never a b = false
table_equiv Counter a b = same_value a b
table_equiv Largest a b = same_value a b
table_equiv Append a b = same_value a b

-- The current list, followed by the items that the applied list added to the previous one.
abbrev pub appended_list : List ℤ → List ℤ → List ℤ → List ℤ
appended_list previous current applied = current ++ drop (length previous) applied

-- Whether both changes only added items, and the result fits in a list.
abbrev pub can_append : List ℤ → List ℤ → List ℤ → Bool
can_append previous current applied =
    starts_with int_eq current previous && starts_with int_eq applied previous
    && nat_le (length (appended_list previous current applied)) most_items

-- The current number plus the change from previous to applied, wrapping in 64 bits.
abbrev pub merge_counters : Value → Value → Value → Option Value
merge_counters (value.Int previous) (value.Int current) (value.Int applied) =
    Some (value.Int (sum_of current (difference applied previous)))
merge_counters _ _ _ = None

-- The greater of the current and the applied number.
abbrev pub merge_largest : Value → Value → Option Value
merge_largest (value.Int current) (value.Int applied) = Some (value.Int (int_max current applied))
merge_largest _ _ = None

-- The merged list, or None if the changes conflict.
abbrev pub merged_items : List ℤ → List ℤ → List ℤ → Option Value
merged_items previous current applied =
    if can_append previous current applied then Some (value.Ints (appended_list previous current applied)) else None

-- The current list, followed by the items that the applied list added.
abbrev pub merge_lists : Value → Value → Value → Option Value
merge_lists (value.Ints previous) (value.Ints current) (value.Ints applied) = merged_items previous current applied
merge_lists _ _ _ = None

-- The merged value of two changes, or None if they conflict.
abbrev pub table_merge : BuiltIn → Value → Value → Value → Option Value
table_merge Structural previous current applied = None
table_merge Never previous current applied = None
table_merge Counter previous current applied = merge_counters previous current applied
table_merge Largest previous current applied = merge_largest current applied
table_merge Append previous current applied = merge_lists previous current applied

-- Whether a policy fits a type: Structural and Never fit every type, Counter and Largest fit Int, Append fits Ints.
abbrev pub table_fits : BuiltIn → Ty → Bool
table_fits Structural t = true
table_fits Never t = true
table_fits Counter ty.Int = true
table_fits Counter _ = false
table_fits Largest ty.Int = true
table_fits Largest _ = false
table_fits Append ty.Ints = true
table_fits Append _ = false

-- The rules of the policies that programs name.
abbrev pub table : Rules BuiltIn
table = record { equiv = table_equiv; merge = table_merge; fits = table_fits }

-- A merge that takes no memory: each merge of a policy other than Append, and each merge of Append that conflicts.
abbrev pub IsFreeMerge : BuiltIn → Value → Value → Value → Type 0
IsFreeMerge Append previous current applied = merge_lists previous current applied ≡ None
IsFreeMerge _ previous current applied = Unit {0}
