use Rattle.std.proofs.Common.{◌≡◌, ◌++◌, ◌∷◌, [], take}
use Rattle.rt_values.specs.Values.{escape_all}
use Rattle.rt_values.proofs.value.append_string.Given as goal

abbrev pub invariant-loop-c : goal.invariant-loop-c
invariant-loop-c l = l.text.items ≡ (l.fn.text.items ++ 34 ∷ []) ++ escape_all (take l.c-index l.chars)
