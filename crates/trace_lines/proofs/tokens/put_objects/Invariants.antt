use Rattle.std.proofs.Common.{◌≡◌, ◌++◌, ◌∷◌, [], map, length}
use Rattle.std.specs.List.{flat_map}
use Rattle.json.specs.Token.{string, end_array}
use Rattle.trace_lines.specs.TraceLines.{member, item_at, state_names, objects_tokens}
use Rattle.trace_lines.proofs.tokens.put_objects.Given as goal

abbrev pub invariant-loop-x : goal.invariant-loop-x
invariant-loop-x l = record {
  tokens :
      l.line.tokens ++ (map string (flat_map (item_at (state_names l.states)) l.rest) ++ end_array ∷ [])
      ≡ l.fn.line.tokens ++ member l.fn.name (objects_tokens (state_names l.states) l.fn.objects);
  before : l.line.before ≡ l.fn.line.before;
}

abbrev pub decreases-loop-x : goal.decreases-loop-x
decreases-loop-x l = length l.rest
