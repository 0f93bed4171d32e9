use Rattle.trace_lines.proofs.group_line.put_cause.Goals as goal

pub returns-in-NewPath-clause-tokens : goal.returns-in-NewPath-clause-tokens
returns-in-NewPath-clause-tokens c = rw (c.in-NewPath.is) c.put_word.ensures.tokens
