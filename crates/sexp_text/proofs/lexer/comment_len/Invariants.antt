use Rattle.std.proofs.Common.{◌≡◌, true, take}
use Rattle.sexp_text.specs.Grammar.{is_comment}
use Rattle.sexp_text.proofs.lexer.comment_len.Given as goal

abbrev pub invariant-loop-len : goal.invariant-loop-len
invariant-loop-len l = is_comment (take l.len l.bytes) ≡ true
