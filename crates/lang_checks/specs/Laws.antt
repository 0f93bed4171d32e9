-- Law: laws of the fault that is reported.
use Rattle.std.specs.Prelude.{◌≡◌, List, [], All, Contains, false, Some, None}
use Rattle.lang_checks.specs.declared.faults.ProgramFault.{ProgramFault}
use Rattle.lang_checks.specs.FaultOrder.{before, least_fault}

-- The fault that is reported is one of the list, and no fault is before it.
abbrev pub AnswerIsLeast : Type 0
AnswerIsLeast = (fs : List ProgramFault) (f : ProgramFault) → least_fault fs ≡ Some f →
    Contains fs f × All (λ g. before g f ≡ false) fs

-- If no fault is reported, the list is empty.
abbrev pub NoAnswerNoFault : Type 0
NoAnswerNoFault = (fs : List ProgramFault) → least_fault fs ≡ None → fs ≡ []
