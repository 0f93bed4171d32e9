use Rattle.std.proofs.Common.{append_assoc}
use Rattle.trace_lines.proofs.group_line.put_node_members.Goals as goal

pub returns-clause-tokens : goal.returns-clause-tokens
returns-clause-tokens c = simp (
  append_assoc,
  c.in_ok-put_count.ensures.tokens,
  c.in_ok-put_text.ensures.tokens,
  c.in_ok-put_word.ensures.tokens,
  c.bytes.ensures,
) at c.put_attributes.ensures.tokens
