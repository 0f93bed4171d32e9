use Rattle.std.proofs.Common.{◌≡◌, ◌++◌, ◌∷◌, [], map, length}
use Rattle.std.specs.Prelude.{codes}
use Rattle.json.specs.Token.{string, end_array}
use Rattle.script_lang.specs.Lines.{op_text}
use Rattle.trace_lines.specs.TraceLines.{member, array}
use Rattle.trace_lines.proofs.frame_line.put_ops.Given as goal

abbrev pub invariant-loop-op : goal.invariant-loop-op
invariant-loop-op l = record {
  tokens :
      l.line.tokens ++ (map string (map op_text l.rest) ++ end_array ∷ [])
      ≡ l.fn.line.tokens ++ member (codes "ops") (array (map string (map op_text l.fn.ops)));
  before : l.line.before ≡ l.fn.line.before;
}

abbrev pub decreases-loop-op : goal.decreases-loop-op
decreases-loop-op l = length l.rest
