use Rattle.std.proofs.Common.{arith, ◌≤◌}
use Rattle.composer.proofs.Layers.{walk_out}
use Rattle.composer.proofs.runs.next_call.Goals as goal

pub returns-then-end-owed-clause-quiet : goal.returns-then-end-owed-clause-quiet
returns-then-end-owed-clause-quiet c ls begins =
    let groups = c.args.last.now.groups in
    let low : c.args.first ≤ c.args.first = omega arith in
    let high : c.in-Some.end ≤ c.next_owed-owed.result = c.if-end-owed.true in
    walk_out c.args.last.now.owed.objects groups c.args.depth c.args.first c.in-Some.end ls c.in-Some.ensures
    (c.next_owed-owed.ensures c.args.first c.in-Some.end low high c.in-Some.ensures.inside) begins
