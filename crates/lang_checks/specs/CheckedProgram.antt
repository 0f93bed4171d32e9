-- Trusted: what a checked program is.
use Rattle.std.specs.Prelude.{◌≡◌, []}
use Rattle.lang_ast.specs.Programs.{Program}
use Rattle.lang_checks.specs.ProgramFaults.{program_faults}
use Rattle.lang_checks.specs.Numbers.{IsNumberedProgram}

-- A program without faults, whose statements and calls are numbered in the order of the text.
pub record IsChecked (p : Program) : Type 0 where
  pub fine : program_faults p ≡ []
  pub numbered : IsNumberedProgram p
