use Rattle.std.proofs.Common.{◌≡◌, Bool, List, length}
use Rattle.lang_ast.specs.declared.program.State.{State}
use Rattle.lang_script.specs.ScriptFaults.{text_calls}
use Rattle.lang_script.specs.NameScans.{Scan, scans, IsAt}
use Rattle.lang_script.proofs.uses.NameCheck.check_calls.Given as goal

abbrev pub invariant-loop-call : goal.invariant-loop-call
invariant-loop-call l = (threads : Bool) (states : List State) (s : Scan) → IsAt threads states l.fn.self s →
    (now : Scan) × IsAt threads states l.self now
    × (scans threads states now (text_calls l.actor l.rest) ≡ scans threads states s (text_calls l.actor l.calls))

abbrev pub decreases-loop-call : goal.decreases-loop-call
decreases-loop-call l = length l.rest
