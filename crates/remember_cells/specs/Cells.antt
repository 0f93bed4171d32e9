-- Trusted: when a remembered value is kept.
use Rattle.std.specs.Prelude.{List, Option, Some, None, if◌then◌else◌}
use Rattle.rt_values.specs.declared.value.Value.{Value}
use Rattle.rt_values.specs.Values.{same_values}
use Rattle.remember_cells.specs.declared.answers.CellAnswer.{CellAnswer}
use Rattle.remember_cells.specs.declared.answers.CellAnswer.TheVariants as answer

-- Kept if there is an old cell whose keys are equal to the new ones, else Calculate.
abbrev pub cell_answer : Option (List Value) → List Value → CellAnswer
cell_answer None keys = answer.Calculate
cell_answer (Some old) keys = if same_values old keys then answer.Kept else answer.Calculate
