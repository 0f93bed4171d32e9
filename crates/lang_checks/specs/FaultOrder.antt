-- Trusted: faults, and the one of a list that is reported.
use Rattle.std.specs.Prelude.{ℕ, ◌==◌, ◌&&◌, ◌||◌, nat_lt, List, [], ◌∷◌, Bool, Option, Some, None, if◌then◌else◌}
use Rattle.lang_checks.specs.declared.faults.CheckKind.{CheckKind}
use Rattle.lang_checks.specs.declared.faults.CheckKind.TheVariants as kind
use Rattle.lang_checks.specs.declared.faults.ProgramFault.{ProgramFault}

-- The number of a pass, in the order in which they run.
abbrev pub pass : CheckKind → ℕ
pass kind.Double = 0
pass kind.Unknown = 1
pass kind.Order = 2
pass kind.Type = 3
pass kind.Remember = 4

-- A fault of an earlier pass comes before one of a later pass, and in one pass the lesser offset comes first.
abbrev pub before : ProgramFault → ProgramFault → Bool
before f g = nat_lt (pass f.kind) (pass g.kind) || ((pass f.kind == pass g.kind) && nat_lt f.at g.at)

-- The first of a fault, if there is one, and a further fault.
unfoldable pub least_fault_with : Option ProgramFault → ProgramFault → Option ProgramFault
least_fault_with None f = Some f
least_fault_with (Some g) f = if before f g then Some f else Some g

-- The first of a fault, if there is one, and further faults.
abbrev pub least_fault_from : Option ProgramFault → List ProgramFault → Option ProgramFault
least_fault_from o [] = o
least_fault_from o (f ∷ fs) = least_fault_from (least_fault_with o f) fs

-- The fault that is reported: the least offset of the first pass that finds a fault.
abbrev pub least_fault : List ProgramFault → Option ProgramFault
least_fault fs = least_fault_from None fs

abbrev pub fault : CheckKind → ℕ → ProgramFault
fault k at = record { kind = k; at = at }

-- A fault, unless the rule holds.
abbrev pub fault_unless : Bool → CheckKind → ℕ → List ProgramFault
fault_unless holds k at = if holds then [] else fault k at ∷ []
