-- Law: what a numbered program without faults promises to composing.
use Rattle.std.specs.Prelude.{ℕ, ◌<◌, ◌≡◌, List, [], length, All, Option, Some}
use Rattle.rt_values.specs.declared.value.Value.{Value}
use Rattle.rt_values.specs.Values.{no_value}
use Rattle.rt_values.specs.Maps.{Map}
use Rattle.rt_groups.specs.GroupForest.{asks}
use Rattle.lang_ast.specs.Terms.{Remember, Stmt, Block, Func}
use Rattle.lang_ast.specs.Programs.{Program, functions_statements, statement_at}
use Rattle.lang_checks.specs.ProgramFaults.{program_faults}
use Rattle.lang_checks.specs.Numbers.{IsNumberedProgram}
use Rattle.compose_model.specs.Composing.{forest}
use Rattle.recompose_laws.specs.MadeCalls.{AreOrdered}
use Rattle.recompose_laws.specs.CalculatedCells.{Calculation, FunctionsCalculate, calculated_from}

-- Law: each function of a numbered program without faults calls only earlier functions.
abbrev pub ProgramIsOrdered : Type 0
ProgramIsOrdered = (p : Program) → IsNumberedProgram p → program_faults p ≡ [] → AreOrdered 0 p.functions

-- The calculation of a `remember`, as a function of the values of its keys. Everything else has the default value.
abbrev pub calculation : Option Stmt → List Value → Value
calculation (Some (Block at site (Remember name keys value) body)) vs = calculated_from keys value vs
calculation _ vs = no_value

-- The value that functions calculate at a site.
abbrev pub calculation_of : List Func → Calculation
calculation_of functions site vs = calculation (statement_at site (functions_statements functions)) vs

-- Law: in a numbered program without faults, the value of each calculation follows from its site and its keys, and no
-- calculation reads a state.
abbrev pub CalculationsAreBySite : Type 0
CalculationsAreBySite = (p : Program) → IsNumberedProgram p → program_faults p ≡ [] →
    FunctionsCalculate (calculation_of p.functions) p.functions

-- Law: composing a program without faults reads only its states.
abbrev pub ReadsAreOfStates : Type 0
ReadsAreOfStates = (p : Program) (root : ℕ) (m : Map) → program_faults p ≡ [] →
    All (λ x. x < length p.states) (asks (forest p.functions root m))
