use Rattle.std.proofs.Common.{◌≡◌, ◌++◌, ◌∷◌, [], length}
use Rattle.std.specs.List.{flat_map}
use Rattle.json.specs.Token.{end_array}
use Rattle.trace_lines.specs.TraceLines.{member, value_tokens, values_tokens}
use Rattle.trace_lines.proofs.tokens.put_values.Given as goal

abbrev pub invariant-loop-value : goal.invariant-loop-value
invariant-loop-value l = record {
  tokens :
      l.line.tokens ++ (flat_map value_tokens l.rest ++ end_array ∷ [])
      ≡ l.fn.line.tokens ++ member l.fn.name (values_tokens l.fn.values);
  before : l.line.before ≡ l.fn.line.before;
}

abbrev pub decreases-loop-value : goal.decreases-loop-value
decreases-loop-value l = length l.rest
