-- Internal: attributes as members in their order.
use Rattle.std.specs.Prelude.{List, [], ◌∷◌}
use Rattle.std.specs.Borrow.{Bor}
use Rattle.rt_groups.specs.declared.groups.Attribute.{Attribute}
use Rattle.serde_json.specs.Data.{Members, no_members, member}
use Rattle.script_lang.specs.TreeJson.{value_data}

-- Attributes as members, then further members.
abbrev pub members_then : List (Bor Attribute) → Members → Members
members_then [] ms = ms
members_then (b ∷ bs) ms = member b.now.name (value_data b.now.value) (members_then bs ms)

-- The attributes as members, in order.
abbrev pub sorted_members : List (Bor Attribute) → Members
sorted_members attributes = members_then attributes no_members
