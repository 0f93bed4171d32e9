use Rattle.std.proofs.Common.{◌≤◌, ◌<◌, ◌-◌, suc, [], length}
use Rattle.sexp_text.specs.Machine.{in_text, Leads}
use Rattle.sexp_text.proofs.lexer.parse_string.Given as goal

abbrev pub invariant-loop-at : goal.invariant-loop-at
invariant-loop-at l = record {
  after : l.from < l.at;
  within : l.at ≤ length l.bytes;
  here : Leads l.bytes (suc l.from) (in_text l.from []) l.at (in_text l.from l.chars.items);
}

abbrev pub decreases-loop-at : goal.decreases-loop-at
decreases-loop-at l = length l.bytes - l.at
