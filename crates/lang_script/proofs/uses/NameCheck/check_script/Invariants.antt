use Rattle.std.proofs.Common.{◌≡◌, Bool, List, length}
use Rattle.lang_ast.specs.declared.program.State.{State}
use Rattle.lang_script.specs.ScriptFaults.{text_script}
use Rattle.lang_script.specs.NameScans.{Scan, scans, IsAt}
use Rattle.lang_script.proofs.uses.NameCheck.check_script.Given as goal

abbrev pub invariant-loop-form : goal.invariant-loop-form
invariant-loop-form l = (threads : Bool) (states : List State) (s : Scan) → IsAt threads states l.fn.self s →
    (now : Scan) × IsAt threads states l.self now
    × (scans threads states now (text_script l.actors l.rest)
    ≡ scans threads states s (text_script l.actors l.forms))

abbrev pub decreases-loop-form : goal.decreases-loop-form
decreases-loop-form l = length l.rest
