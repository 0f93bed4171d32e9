use Rattle.std.proofs.Common.{◌≡◌, ◌≤◌, ◌<◌, ℕ, length}
use Rattle.snap_nested.specs.Members.{member, without_invalid}
use Rattle.snap_nested.proofs.member_list.remove_all_invalid.Given as goal

abbrev pub invariant-loop-at : goal.invariant-loop-at
invariant-loop-at l = record {
  count : length l.opened.items ≡ length l.initial.opened.items;
  within : l.at ≤ length l.initial.opened.items;
  done : (j : ℕ) → j < l.at → member l.opened.items j ≡ without_invalid l.own (member l.initial.opened.items j);
  rest : (j : ℕ) → l.at ≤ j → member l.opened.items j ≡ member l.initial.opened.items j;
}
