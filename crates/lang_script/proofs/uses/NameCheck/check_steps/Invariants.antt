use Rattle.std.proofs.Common.{◌≡◌, Bool, List, length}
use Rattle.lang_ast.specs.declared.program.State.{State}
use Rattle.lang_script.specs.ScriptFaults.{text_steps}
use Rattle.lang_script.specs.NameScans.{Scan, scans, IsAt}
use Rattle.lang_script.proofs.uses.NameCheck.check_steps.Given as goal

abbrev pub invariant-loop-step : goal.invariant-loop-step
invariant-loop-step l = (threads : Bool) (states : List State) (s : Scan) → IsAt threads states l.fn.self s →
    (now : Scan) × IsAt threads states l.self now
    × (scans threads states now (text_steps l.actor l.rest) ≡ scans threads states s (text_steps l.actor l.steps))

abbrev pub decreases-loop-step : goal.decreases-loop-step
decreases-loop-step l = length l.rest
