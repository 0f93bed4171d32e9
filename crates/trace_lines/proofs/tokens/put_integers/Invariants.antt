use Rattle.std.proofs.Common.{◌≡◌, ◌++◌, ◌∷◌, [], map, length}
use Rattle.std.specs.Fmt.{signed_decimal}
use Rattle.json.specs.Token.{number, end_array}
use Rattle.trace_lines.specs.TraceLines.{integers_tokens}
use Rattle.trace_lines.proofs.tokens.put_integers.Given as goal

abbrev pub invariant-loop-integer : goal.invariant-loop-integer
invariant-loop-integer l = record {
  tokens :
      l.line.tokens ++ (map (λ z. number (signed_decimal z)) l.rest ++ end_array ∷ [])
      ≡ l.fn.line.tokens ++ integers_tokens l.fn.integers;
  before : l.line.before ≡ l.fn.line.before;
}

abbrev pub decreases-loop-integer : goal.decreases-loop-integer
decreases-loop-integer l = length l.rest
