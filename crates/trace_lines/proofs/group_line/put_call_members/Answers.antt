use Rattle.std.proofs.Common.{append_assoc}
use Rattle.trace_lines.proofs.group_line.put_call_members.Goals as goal

pub returns-clause-tokens : goal.returns-clause-tokens
returns-clause-tokens c = simp append_assoc (simp (
  append_assoc,
  c.in_ok-put_function.ensures.tokens,
  c.in_ok-put_values.ensures.tokens,
  c.in_ok-put_word.ensures.tokens,
  c.functions.ensures.functions,
  c.states.ensures.states,
) at c.put_objects.ensures.tokens)
