use Rattle.std.proofs.Common.{◌≤◌, ◌⊎◌, inl, inr, length, arith}
use Rattle.trace_lines.specs.TraceLines.{program_names}
use Rattle.trace_lines.proofs.Groups.{none_left}
use Rattle.trace_lines.proofs.group_line.put_groups.Goals as goal
use Rattle.trace_lines.proofs.group_line.put_groups.Goals.{then-loop-i-test+else-i-marks, else-loop-i-test}

pub returns-clause-tokens : goal.returns-clause-tokens
returns-clause-tokens c =
    let gs = c.args.table.now.groups in
    let ms = c.args.marks.now in
    let past : (length gs ≤ c.loop-i.i) ⊎ (length ms ≤ c.loop-i.i) = elim c.loop-i-test.branch [
      | then-loop-i-test+else-i-marks w ↦ inr (omega arith)
      | else-loop-i-test w ↦ inl (omega arith)
    ] in
    rw c.in_ok-end_array.ensures.ok
    (rw (none_left (program_names c.args.program.now) gs ms c.loop-i.i past) at c.loop-i.invariant.tokens)
