use Rattle.std.proofs.Common.{refl, append_assoc}
use Rattle.trace_lines.proofs.program_line.put_functions.Goals as goal

pub loop-function-init : goal.loop-function-init
loop-function-init c = record {
  tokens = simp (append_assoc, c.in_ok-begin_array.ensures.tokens) refl;
  before = c.in_ok-begin_array.ensures.before;
}
