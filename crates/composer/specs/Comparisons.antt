-- Internal: comparisons of new groups with old ones.
use Rattle.std.specs.Prelude.{ℕ, List, Bool, true, false, not, ◌&&◌, ◌||◌, ◌==◌, Option, Some, None}
use Rattle.rt_values.specs.declared.value.Value.{Value}
use Rattle.std.specs.Str.{bytes_eq}
use Rattle.std.specs.Cmp.Lexicographic.{pointwise}
use Rattle.rt_values.specs.Values.{same_value, same_values}
use Rattle.rt_groups.specs.declared.groups.Attribute.{Attribute}
use Rattle.rt_groups.specs.declared.groups.GroupKind.{GroupKind}
use Rattle.rt_groups.specs.declared.groups.GroupKind.TheVariants as what
use Rattle.rt_groups.specs.Frames.{meets}
use Rattle.composer.specs.OldSiblings.{KeyInfo, old_group}

abbrev pub same_call : GroupKind → GroupKind → Bool
same_call (what.Call f vs) (what.Call g ws) = (f == g) && same_values vs ws
same_call _ _ = false

-- Whether two attributes have equal names and values.
abbrev pub same_attribute : Attribute → Attribute → Bool
same_attribute a b = same_value a.value b.value && bytes_eq a.name b.name

abbrev pub same_attributes : List Attribute → List Attribute → Bool
same_attributes = pointwise same_attribute

-- Whether a call runs: it has no old group, its arguments differ, or its own reads include an owed object.
abbrev pub call_runs : List ℕ → Option KeyInfo → GroupKind → Bool
call_runs owed None w = true
call_runs owed (Some k) w = not (same_call (old_group k).what w) || meets (old_group k).reads owed

abbrev pub has_keys : List Value → GroupKind → Bool
has_keys ks (what.Cell js v) = same_values js ks
has_keys ks _ = false

-- Whether no old cell was found that was calculated for these keys.
abbrev pub other_keys : Option KeyInfo → List Value → Bool
other_keys None ks = true
other_keys (Some k) ks = not (has_keys ks (old_group k).what)
