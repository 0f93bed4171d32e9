use Rattle.std.proofs.Common.{append_assoc}
use Rattle.trace_lines.proofs.program_line.put_state_members.Goals as goal

pub returns-clause-tokens : goal.returns-clause-tokens
returns-clause-tokens c = simp (
  append_assoc,
  c.in_ok-put_member.ensures.tokens,
  c.in_ok-put_word.ensures.tokens,
  c.in_ok-put_text-2.ensures.tokens,
  c.in_ok-put_text.ensures.tokens,
  c.bytes.ensures,
  c.word.ensures,
  c.word_of_policy.ensures,
) at c.put_count.ensures.tokens
