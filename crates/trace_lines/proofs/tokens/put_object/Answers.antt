use Rattle.std.proofs.Common.{sym, append-nil}
use Rattle.trace_lines.proofs.Names.{name_past}
use Rattle.trace_lines.proofs.tokens.put_object.Goals as goal

pub returns-in-None-clause-tokens : goal.returns-in-None-clause-tokens
returns-in-None-clause-tokens c =
    rw (name_past (λ s. s.name.text) c.args.states.now c.args.x c.in-None.ensures.lookup.3) (sym (append-nil _))
