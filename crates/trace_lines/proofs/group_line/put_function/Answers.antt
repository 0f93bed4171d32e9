use Rattle.std.proofs.Common.{refl, sym, append-nil}
use Rattle.std.specs.Prelude.{Some, None}
use Rattle.std.proofs.lemmas.Option.{slice_get_past, slice_get_read}
use Rattle.trace_lines.proofs.Names.{function_name}
use Rattle.trace_lines.proofs.group_line.put_function.Goals as goal

pub returns-in-Some-clause-tokens : goal.returns-in-Some-clause-tokens
returns-in-Some-clause-tokens c =
    let found = c.in-Some.ensures.lookup in
    let there = slice_get_read c.args.functions.now _ c.args.number c.in-Some.function.now refl found.3.0 found.1 in
    rw (function_name c.args.functions.now c.args.number (Some c.in-Some.function.now) there)
    (rw c.bytes.ensures at c.put_text.ensures.tokens)

pub returns-in-None-clause-tokens : goal.returns-in-None-clause-tokens
returns-in-None-clause-tokens c =
    let there = slice_get_past c.args.functions.now c.args.number c.in-None.ensures.lookup.3 in
    rw (function_name c.args.functions.now c.args.number None there) (sym (append-nil _))
