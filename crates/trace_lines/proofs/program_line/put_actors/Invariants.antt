use Rattle.std.proofs.Common.{◌≡◌, ◌++◌, ◌∷◌, [], map, length}
use Rattle.std.specs.Prelude.{codes}
use Rattle.json.specs.Token.{string, end_array}
use Rattle.trace_lines.specs.TraceLines.{member, array}
use Rattle.trace_lines.proofs.program_line.put_actors.Given as goal

abbrev pub invariant-loop-actor : goal.invariant-loop-actor
invariant-loop-actor l = record {
  tokens :
      l.line.tokens ++ (map string l.rest ++ end_array ∷ [])
      ≡ l.fn.line.tokens ++ member (codes "actors") (array (map string l.fn.actors));
  before : l.line.before ≡ l.fn.line.before;
}

abbrev pub decreases-loop-actor : goal.decreases-loop-actor
decreases-loop-actor l = length l.rest
