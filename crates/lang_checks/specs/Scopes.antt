-- Trusted: what names refer to, and duplicate names.
use Rattle.std.specs.Prelude.{ℕ, ◌+◌, List, [], ◌∷◌, ◌++◌, not, Bool, slice_get, Option, Some, None, if◌then◌else◌}
use Rattle.std.specs.Option.{is_some}
use Rattle.std.specs.List.{list_any}
use Rattle.std.specs.Str.{bytes_eq}
use Rattle.rt_values.specs.declared.value.Ty.{Ty}
use Rattle.lang_ast.specs.declared.syntax.Ident.{Ident}
use Rattle.lang_ast.specs.declared.syntax.Source.{Source}
use Rattle.lang_ast.specs.declared.syntax.Source.TheVariants as source
use Rattle.lang_ast.specs.declared.program.State.{State}
use Rattle.lang_ast.specs.Terms.{Func}
use Rattle.lang_checks.specs.declared.environment.TypedName.{TypedName}
use Rattle.lang_checks.specs.declared.faults.CheckKind.TheVariants as kind
use Rattle.lang_checks.specs.declared.faults.ProgramFault.{ProgramFault}
use Rattle.lang_checks.specs.FaultOrder.{fault_unless}

-- A name with the type of its value.
abbrev pub typed_name : Ident → Ty → TypedName
typed_name n t = record { name = n.text; ty = t }

-- The type of a name, by the first binding with that name.
abbrev pub bound_type : List ℕ → List TypedName → Option Ty
bound_type name [] = None
bound_type name (b ∷ bs) = if bytes_eq b.name name then Some b.ty else bound_type name bs

-- Whether no binding has the name.
abbrev pub is_unbound : List ℕ → List TypedName → Bool
is_unbound name bs = not (is_some (bound_type name bs))

-- Whether one of the names is this one.
abbrev pub is_listed : List ℕ → List Ident → Bool
is_listed name ns = list_any (λ n. bytes_eq n.text name) ns

-- The faults of duplicate names: each name that an earlier one equals, at its own offset.
abbrev pub duplicate_faults : List Ident → List Ident → List ProgramFault
duplicate_faults earlier [] = []
duplicate_faults earlier (n ∷ ns) =
    fault_unless (not (is_listed n.text earlier)) kind.Double n.at ++ duplicate_faults (earlier ++ n ∷ []) ns

-- The type of a state, if it has the name.
abbrev pub type_if_named : List ℕ → Option State → Option Ty
type_if_named name None = None
type_if_named name (Some s) = if bytes_eq s.name.text name then Some s.ty else None

-- The type of the state with this number, if it has the name.
abbrev pub state_type : List State → List ℕ → ℕ → Option Ty
state_type states name number = type_if_named name (slice_get states number)

-- The type of what a name in a `get` stands for, if it has the name.
abbrev pub source_type : List State → List ℕ → Source → Option Ty
source_type states name (source.State number) = state_type states name number

-- The first function with a name, and its number, counted from i.
abbrev pub first_named : List Func → List ℕ → ℕ → Option (ℕ × Func)
first_named [] name i = None
first_named (f ∷ fs) name i = if bytes_eq f.name.text name then Some (i, f) else first_named fs name (i + 1)

-- A function with its number if it has the name, and else another.
abbrev pub numbered_or : List ℕ → ℕ → Option Func → Option (ℕ × Func) → Option (ℕ × Func)
numbered_or name number None other = other
numbered_or name number (Some f) other = if bytes_eq f.name.text name then Some (number, f) else other

-- The function that a call refers to, with its number: the one with the call's number if it has the name, and else
-- the first that has it.
abbrev pub named_function : List Func → List ℕ → ℕ → Option (ℕ × Func)
named_function fs name number = numbered_or name number (slice_get fs number) (first_named fs name 0)
