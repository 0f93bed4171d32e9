-- A checked program is sound for composing again.
use Rattle.std.proofs.Common.{◌≡◌, []}
use Rattle.lang_ast.specs.Programs.{program_view, functions_of}
use Rattle.lang_ast.specs.declared.program.Program.{Program}
use Rattle.lang_checks.specs.ProgramFaults.{program_faults}
use Rattle.lang_checks.specs.Numbers.{IsNumberedProgram}
use Rattle.checked_laws.specs.CheckedPrograms.{calculation_of}
use Rattle.checked_laws.proofs.Ordered.{program_is_ordered}
use Rattle.checked_laws.proofs.BySite.{calculations_are_by_site}
use Rattle.composer.specs.FrameStates.{IsSound}

pub sound : (p : Program) → IsNumberedProgram (program_view p) → program_faults (program_view p) ≡ []
    → IsSound (functions_of p)
sound p numbered fine = record {
  ordered = program_is_ordered (program_view p) numbered fine;
  calculation = calculation_of (functions_of p);
  calculates = calculations_are_by_site (program_view p) numbered fine;
}
