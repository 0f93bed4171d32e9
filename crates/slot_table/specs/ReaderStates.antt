-- Trusted: the state of a reader of groups in preorder, and the values that it lends.
use Rattle.std.specs.Prelude.{ℕ, ◌+◌, List, [], ◌∷◌, ◌++◌, map, Bool, false, nat_le, Option, Some, None, if◌then◌else◌}
use Rattle.rt_values.specs.declared.value.Value.{Value}
use Rattle.rt_groups.specs.declared.groups.GroupKind.{GroupKind}
use Rattle.rt_groups.specs.declared.groups.GroupKind.TheVariants as what
use Rattle.rt_groups.specs.declared.groups.Group.{Group}

-- The groups after the leading ones of at least this depth.
abbrev pub after_deep : ℕ → List Group → List Group
after_deep depth [] = []
after_deep depth (g ∷ gs) = if nat_le depth g.depth then after_deep depth gs else g ∷ gs

-- An open group, and the groups in preorder after the last group inside it.
pub record OpenGroup : Type 0 where
  pub group : Group
  pub after : List Group

-- All groups in preorder from the next one on, and the open groups, the innermost first.
pub record ReaderState : Type 0 where
  pub left : List Group
  pub open_groups : List OpenGroup

-- The depth of the groups directly inside the innermost open group, or at the top if no group is open.
abbrev pub inner_depth : List OpenGroup → ℕ
inner_depth [] = 0
inner_depth (o ∷ os) = o.group.depth + 1

-- Whether the list begins with a group of at least this depth.
abbrev pub begins_at : ℕ → List Group → Bool
begins_at depth [] = false
begins_at depth (g ∷ gs) = nat_le depth g.depth

-- Whether the next group is inside the innermost open group.
abbrev pub has_more : ReaderState → Bool
has_more p = begins_at (inner_depth p.open_groups) p.left

-- The value of a key group. Other groups have no key.
abbrev pub group_key : GroupKind → Option Value
group_key (what.Call f vs) = None
group_key (what.Node kind attributes) = None
group_key (what.Key v) = Some v
group_key (what.Cell ks v) = None

-- The values in a group's slots: the arguments of a call, the attribute values of a node, the value of a key, or the
-- keys and then the value of a cell.
abbrev pub payloads : GroupKind → List Value
payloads (what.Call f vs) = vs
payloads (what.Node kind attributes) = map (λ a. a.value) attributes
payloads (what.Key v) = v ∷ []
payloads (what.Cell ks v) = ks ++ v ∷ []

-- The values in the slots of the innermost open group.
abbrev pub open_payloads : List OpenGroup → List Value
open_payloads [] = []
open_payloads (o ∷ os) = payloads o.group.what

abbrev pub innermost_group : List OpenGroup → Option Group
innermost_group [] = None
innermost_group (o ∷ os) = Some o.group
