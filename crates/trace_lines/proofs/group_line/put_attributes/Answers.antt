use Rattle.std.proofs.Common.{refl, append_assoc}
use Rattle.trace_lines.proofs.group_line.put_attributes.Goals as goal

pub loop-attribute-init : goal.loop-attribute-init
loop-attribute-init c = record {
  tokens = simp (append_assoc, c.in_ok-begin_array.ensures.tokens) refl;
  before = c.in_ok-begin_array.ensures.before;
}
