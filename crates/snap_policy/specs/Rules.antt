-- Trusted: the rules of a kind of policies, on which the meaning of snapshots rests.
use Rattle.std.specs.Prelude.{◌≡◌, Bool, true, Option, Some}
use Rattle.rt_values.specs.declared.value.Value.{Value}
use Rattle.rt_values.specs.declared.value.Ty.{Ty}
use Rattle.rt_values.specs.Values.{type_of}

-- For each policy of type P: whether two values count as equal, the merge of a previous, a current and an applied
-- value (None: they conflict), and whether the policy fits a type.
pub record Rules (P : Type 0) : Type 0 where
  pub equiv : P → Value → Value → Bool
  pub merge : P → Value → Value → Value → Option Value
  pub fits : P → Ty → Bool

-- A merge of three values of one type that fits gives a value of that type.
abbrev pub KeepsTypes : {P : Type 0} → Rules P → Type 0
KeepsTypes {P} rules = (p : P) (t : Ty) (previous current applied merged : Value) → rules.fits p t ≡ true →
    type_of previous ≡ t → type_of current ≡ t → type_of applied ≡ t
    → rules.merge p previous current applied ≡ Some merged →
    type_of merged ≡ t
