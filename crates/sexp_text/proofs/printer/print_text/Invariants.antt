use Rattle.std.proofs.Common.{◌≡◌, ◌++◌, ◌∷◌, [], take}
use Rattle.rt_values.specs.Values.{escape_all}
use Rattle.sexp_text.proofs.printer.print_text.Given as goal

abbrev pub invariant-loop-c : goal.invariant-loop-c
invariant-loop-c l = l.out.items ≡ (l.fn.out.items ++ 34 ∷ []) ++ escape_all (take l.c-index l.chars)
