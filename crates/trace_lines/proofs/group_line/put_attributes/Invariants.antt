use Rattle.std.proofs.Common.{◌≡◌, ◌++◌, ◌∷◌, [], length}
use Rattle.std.specs.Prelude.{codes}
use Rattle.std.specs.List.{flat_map}
use Rattle.json.specs.Token.{end_array}
use Rattle.trace_lines.specs.TraceLines.{member, array, attribute_tokens}
use Rattle.trace_lines.proofs.group_line.put_attributes.Given as goal

abbrev pub invariant-loop-attribute : goal.invariant-loop-attribute
invariant-loop-attribute l = record {
  tokens :
      l.line.tokens ++ (flat_map attribute_tokens l.rest ++ end_array ∷ [])
      ≡ l.fn.line.tokens ++ member (codes "attributes") (array (flat_map attribute_tokens l.fn.attributes));
  before : l.line.before ≡ l.fn.line.before;
}

abbrev pub decreases-loop-attribute : goal.decreases-loop-attribute
decreases-loop-attribute l = length l.rest
