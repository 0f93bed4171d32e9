-- Trusted: the path of a group, that is for each group from the root down to it the site, the key and the number of
-- earlier siblings with both.
use Rattle.std.specs.Prelude.{ℕ, zero, suc, ◌+◌, ◌==◌, ◌&&◌, List, [], ◌∷◌, Bool, Option, Some, None, if◌then◌else◌}
use Rattle.std.specs.Option.{option_eq}
use Rattle.rt_values.specs.declared.value.Value.{Value}
use Rattle.rt_values.specs.Values.{same_value}
use Rattle.rt_groups.specs.GroupForest.{GroupForest, End, Read, Group, GroupKind, Call, Node, Key, Cell}

-- The value of a key group. Other groups have no key.
abbrev pub key_of : GroupKind → Option Value
key_of (Call f vs) = None
key_of (Node k as_) = None
key_of (Key v) = Some v
key_of (Cell ks v) = None

-- The identity of a group among its siblings, except for repeats: its site and its key (`KeyInfo`).
pub record GroupKey : Type 0 where
  pub site : ℕ
  pub key : Option Value

abbrev pub sibling : ℕ → GroupKind → GroupKey
sibling site what = record { site = site; key = key_of what }

abbrev pub same_sibling : GroupKey → GroupKey → Bool
same_sibling a b = (a.site == b.site) && option_eq same_value a.key b.key

-- The number of earlier siblings with the same site and key.
abbrev pub occurrence : GroupKey → List GroupKey → ℕ
occurrence s [] = 0
occurrence s (x ∷ seen) = (if same_sibling x s then 1 else 0) + occurrence s seen

-- A step of a path.
pub record PathStep : Type 0 where
  pub of : GroupKey
  pub occurrence : ℕ

-- A path: the steps from the root.
abbrev pub Path : Type 0
Path = List PathStep

-- The step to a group after the siblings `seen`.
abbrev pub step : ℕ → GroupKind → List GroupKey → PathStep
step site what seen = record { of = sibling site what; occurrence = occurrence (sibling site what) seen }

-- A group that a lookup found.
pub record Found : Type 0 where
  pub number : ℕ
  pub what : GroupKind
  pub inside : GroupForest

-- This group if n is 0, else the result for n - 1 in the rest.
abbrev pub nth : ℕ → Found → (ℕ → Option Found) → Option Found
nth zero here go = Some here
nth (suc n) here go = go n

-- The sibling with this site and key after n others with both.
abbrev pub matching_sibling : GroupKey → ℕ → GroupForest → Option Found
matching_sibling s n End = None
matching_sibling s n (Read x rest) = matching_sibling s n rest
matching_sibling s n (Group site number what inside rest) =
    if same_sibling (sibling site what) s
    then nth n (record { number = number; what = what; inside = inside }) (λ k. matching_sibling s k rest)
    else matching_sibling s n rest

abbrev pub inside_of : Option Found → GroupForest
inside_of None = End
inside_of (Some g) = g.inside

-- The group at a path, found step by step from the root.
abbrev pub at_path : Path → GroupForest → Option Found
at_path [] t = None
at_path (s ∷ []) t = matching_sibling s.of s.occurrence t
at_path (s ∷ (r ∷ path)) t = at_path (r ∷ path) (inside_of (matching_sibling s.of s.occurrence t))
