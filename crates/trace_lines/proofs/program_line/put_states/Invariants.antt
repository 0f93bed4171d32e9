use Rattle.std.proofs.Common.{◌≡◌, ◌++◌, ◌∷◌, [], length}
use Rattle.std.specs.Prelude.{codes}
use Rattle.std.specs.List.{flat_map}
use Rattle.json.specs.Token.{end_array}
use Rattle.trace_lines.specs.TraceLines.{member, array}
use Rattle.trace_lines.specs.ProgramLine.{state_tokens}
use Rattle.trace_lines.proofs.program_line.put_states.Given as goal

abbrev pub invariant-loop-state : goal.invariant-loop-state
invariant-loop-state l = record {
  tokens :
      l.line.tokens ++ (flat_map state_tokens l.rest ++ end_array ∷ [])
      ≡ l.fn.line.tokens ++ member (codes "states") (array (flat_map state_tokens l.fn.states));
  before : l.line.before ≡ l.fn.line.before;
}

abbrev pub decreases-loop-state : goal.decreases-loop-state
decreases-loop-state l = length l.rest
