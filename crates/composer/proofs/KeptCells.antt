-- A cell that keeps the value of the old cell.
use Rattle.std.proofs.Common.{ℕ, List, Bool, true, false, not, Option, Some, None, if◌then◌else◌, ◌≡◌, refl, ap, sym, ◌∙◌}
use Rattle.std.specs.Option.{option_map}
use Rattle.rt_values.specs.declared.value.Value.{Value}
use Rattle.rt_values.specs.Values.{same_values}
use Rattle.rt_groups.specs.declared.groups.Group.{Group}
use Rattle.rt_groups.specs.declared.groups.GroupKind.{GroupKind}
use Rattle.rt_groups.specs.declared.groups.GroupKind.TheVariants as what
use Rattle.slot_table.specs.TableGroups.{group_at}
use Rattle.composer.specs.Comparisons.{has_keys, other_keys}
use Rattle.composer.specs.OldSiblings.{KeyInfo, old_group, IsFoundIn}
use Rattle.composer.specs.WrittenGroups.{kept_in, kept_of, value_kept}
use Rattle.composer.specs.declared.writer.CellValue.{CellValue}
use Rattle.composer.proofs.EqualKinds.{equal_values}

same_choice : (b kept : Bool) (u v : Value) → (if b then Some u else None) ≡ (if kept then Some v else None)
    → not b ≡ not kept
same_choice true true u v e = refl
same_choice true false u v e = absurd cc
same_choice false true u v e = absurd cc
same_choice false false u v e = refl

none_kept : (kept : Bool) (v : Value) → None ≡ (if kept then Some v else None) → true ≡ not kept
none_kept true v e = absurd cc
none_kept false v e = refl

keys_in : (w : GroupKind) (ks : List Value) (kept : Bool) (v : Value)
    → kept_in w ks ≡ (if kept then Some v else None) → not (has_keys ks w) ≡ not kept
keys_in (what.Call f vs) ks kept v e = none_kept kept v e
keys_in (what.Node kind attributes) ks kept v e = none_kept kept v e
keys_in (what.Key u) ks kept v e = none_kept kept v e
keys_in (what.Cell js u) ks kept v e = same_choice (same_values js ks) kept u v e

-- A cell is calculated if its value is not kept.
pub kept_keys : (found : Option KeyInfo) (ks : List Value) (c : CellValue) → kept_of found ks ≡ value_kept c
    → other_keys found ks ≡ not c.is_kept
kept_keys None ks c e = none_kept c.is_kept c.value e
kept_keys (Some k) ks c e = keys_in (old_group k).what ks c.is_kept c.value e

cell_in : (js ks : List Value) (u v : Value) (b : Bool) → same_values js ks ≡ b
    → (if b then Some u else None) ≡ Some v → what.Cell js u ≡ what.Cell ks v
cell_in js ks u v true same e =
    let value : u ≡ v = cc in
    ap (λ l. what.Cell l u) (equal_values js ks same) ∙ ap (λ x. what.Cell ks x) value
cell_in js ks u v false same e = absurd cc

kind_in : (w : GroupKind) (ks : List Value) (v : Value) → kept_in w ks ≡ Some v → w ≡ what.Cell ks v
kind_in (what.Call f vs) ks v e = absurd cc
kind_in (what.Node kind attributes) ks v e = absurd cc
kind_in (what.Key u) ks v e = absurd cc
kind_in (what.Cell js u) ks v e = cell_in js ks u v (same_values js ks) refl e

-- The group that was found is the cell whose value is kept.
pub kept_kind : (groups : List Group) (found : Option KeyInfo) (at : ℕ) (ks : List Value) (c : CellValue)
    → c.is_kept ≡ true → kept_of found ks ≡ value_kept c → option_map (λ k. k.index) found ≡ Some at
    → IsFoundIn groups found → (group_at groups at).what ≡ what.Cell ks c.value
kept_kind groups None at ks c kept e i f = absurd cc
kept_kind groups (Some k) at ks c kept e i f =
    let index : at ≡ k.index = cc in
    ap (λ n. (group_at groups n).what) index ∙ ap (λ (gs : List Group). (group_at gs k.index).what) (sym f)
    ∙ kind_in (old_group k).what ks c.value (e ∙ ap (λ b. if b then Some c.value else None) kept)
