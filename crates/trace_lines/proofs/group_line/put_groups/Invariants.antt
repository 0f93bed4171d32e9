use Rattle.std.proofs.Common.{◌≡◌, ◌++◌, ◌∷◌, [], ◌-◌, drop, length}
use Rattle.std.specs.Prelude.{codes}
use Rattle.json.specs.Token.{end_array}
use Rattle.trace_lines.specs.TraceLines.{member, array, program_names, groups_tokens}
use Rattle.trace_lines.proofs.group_line.put_groups.Given as goal

abbrev pub invariant-loop-i : goal.invariant-loop-i
invariant-loop-i l = record {
  tokens :
      l.line.tokens ++ (groups_tokens (program_names l.program) (drop l.i l.table.groups) (drop l.i l.marks) ++ end_array ∷ [])
      ≡ l.fn.line.tokens ++ member (codes "groups") (array (groups_tokens (program_names l.program) l.table.groups l.marks));
  before : l.line.before ≡ l.fn.line.before;
}

abbrev pub decreases-loop-i : goal.decreases-loop-i
decreases-loop-i l = length l.marks - l.i
