use Rattle.std.proofs.Common.{◌≡◌, true, take}
use Rattle.std.specs.List.{list_all}
use Rattle.sexp_text.specs.Grammar.{is_atom_byte}
use Rattle.sexp_text.proofs.lexer.atom_len.Given as goal

abbrev pub invariant-loop-len : goal.invariant-loop-len
invariant-loop-len l = list_all is_atom_byte (take l.len l.bytes) ≡ true
