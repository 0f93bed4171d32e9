use Rattle.std.proofs.Common.{refl, append_assoc}
use Rattle.trace_lines.proofs.frame_line.put_report.Goals as goal

pub returns-clause-tokens : goal.returns-clause-tokens
returns-clause-tokens c = simp (
  append_assoc,
  c.in_ok-end_object.ensures.ok,
  c.in_ok-put_numbers.ensures.tokens,
  c.in_ok-begin_object.ensures.ok,
  c.in_ok-key.ensures.ok,
) refl
