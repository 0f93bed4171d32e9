use Rattle.trace_lines.proofs.group_line.put_mark.Goals as goal

pub returns-in-Cell-clause-tokens : goal.returns-in-Cell-clause-tokens
returns-in-Cell-clause-tokens c = rw (c.in-Cell.is) c.put_truth-in-Cell.ensures.tokens
