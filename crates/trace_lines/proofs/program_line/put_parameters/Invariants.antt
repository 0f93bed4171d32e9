use Rattle.std.proofs.Common.{◌≡◌, ◌++◌, ◌∷◌, [], map, length}
use Rattle.std.specs.Prelude.{codes}
use Rattle.json.specs.Token.{string, end_array}
use Rattle.trace_lines.specs.TraceLines.{member}
use Rattle.trace_lines.specs.ProgramLine.{parameters_tokens}
use Rattle.trace_lines.proofs.program_line.put_parameters.Given as goal

abbrev pub invariant-loop-parameter : goal.invariant-loop-parameter
invariant-loop-parameter l = record {
  tokens :
      l.line.tokens ++ (map (λ p. string p.name.text) l.rest ++ end_array ∷ [])
      ≡ l.fn.line.tokens ++ member (codes "parameters") (parameters_tokens l.fn.parameters);
  before : l.line.before ≡ l.fn.line.before;
}

abbrev pub decreases-loop-parameter : goal.decreases-loop-parameter
decreases-loop-parameter l = length l.rest
