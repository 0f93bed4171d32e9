use Rattle.std.proofs.Common.{◌≡◌, true, take}
use Rattle.std.specs.List.{list_all}
use Rattle.sexp_text.specs.Machine.{is_plain}
use Rattle.sexp_text.proofs.lexer.plain_len.Given as goal

abbrev pub invariant-loop-len : goal.invariant-loop-len
invariant-loop-len l = list_all is_plain (take l.len l.bytes) ≡ true
