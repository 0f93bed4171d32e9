use Rattle.std.proofs.Common.{append_assoc}
use Rattle.trace_lines.proofs.frame_line.put_head.Goals as goal

pub returns-clause-tokens : goal.returns-clause-tokens
returns-clause-tokens c = simp append_assoc (simp (
  append_assoc,
  c.in_ok-put_objects.ensures.tokens,
  c.in_ok-put_count-2.ensures.tokens,
  c.in_ok-put_text.ensures.tokens,
  c.in_ok-put_count.ensures.tokens,
  c.states.ensures.states,
  c.states-2.ensures.states,
) at c.put_objects-2.ensures.tokens)
