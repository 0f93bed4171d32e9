use Rattle.std.proofs.Common.{append_assoc}
use Rattle.trace_lines.proofs.frame_line.put_numbers.Goals as goal

pub returns-clause-tokens : goal.returns-clause-tokens
returns-clause-tokens c = simp (
  append_assoc,
  c.in_ok-put_count-4.ensures.tokens,
  c.in_ok-put_count-3.ensures.tokens,
  c.in_ok-put_count-2.ensures.tokens,
  c.in_ok-put_count.ensures.tokens,
) at c.put_count-5.ensures.tokens
