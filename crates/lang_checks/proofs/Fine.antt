-- Properties of a program without faults.
use Rattle.std.proofs.Common.{◌≡◌, ◌<◌, ℕ, length, [], Bool, true, false, refl}
use Rattle.std.proofs.lemmas.Bool.{ltb-true}
use Rattle.std.proofs.lemmas.List.{length-map}
use Rattle.lang_ast.specs.Programs.{program_view, functions_of, root_number}
use Rattle.lang_ast.specs.SyntaxView.{function_view}
use Rattle.lang_ast.specs.declared.program.Program.{Program}
use Rattle.lang_ast.proofs.Limits.{none_in}
use Rattle.lang_checks.specs.declared.faults.CheckKind.{CheckKind}
use Rattle.lang_checks.specs.FaultOrder.{fault_unless}
use Rattle.lang_checks.specs.CheckedProgram.{IsChecked}

pub held : (b : Bool) (k : CheckKind) (at : ℕ) → fault_unless b k at ≡ [] → b ≡ true
held true k at h = refl
held false k at h = absurd (cc)

pub root_is_there : (p : Program) → IsChecked (program_view p) → root_number (functions_of p) < length p.functions.items
root_is_there p h =
    rw (← length-map p.functions.items function_view)
    (ltb-true _ _ (held _ _ _ (none_in _ _ (none_in _ _ (none_in _ _ h.fine).1).1).0))
