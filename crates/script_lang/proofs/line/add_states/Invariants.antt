use Rattle.std.proofs.Common.{◌≡◌, ◌++◌, length}
use Rattle.script_lang.specs.Lines.{state_names}
use Rattle.script_lang.proofs.line.add_states.Given as goal

abbrev pub invariant-loop-x : goal.invariant-loop-x
invariant-loop-x l = l.text.items ++ state_names l.states l.rest ≡ l.fn.text.items ++ state_names l.states l.numbers

abbrev pub decreases-loop-x : goal.decreases-loop-x
decreases-loop-x l = length l.rest
