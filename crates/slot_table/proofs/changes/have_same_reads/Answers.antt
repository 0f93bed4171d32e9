use Rattle.std.proofs.Common.{arith}
use Rattle.slot_table.proofs.KeptReads.{same_at_each}
use Rattle.slot_table.proofs.changes.have_same_reads.Goals as goal

pub returns : goal.returns
returns c = λ is.
    let same = c.if-len.false in
    let one = c.len.ensures in
    let two = c.len-2.ensures in
    let end = c.loop-i-test.false in
    let count = c.len-i-end.ensures in
    same_at_each c.args.other.now.groups c.args.table.now.groups (omega (arith, same, one, two))
    (λ k inside. c.loop-i.invariant k (omega (arith, inside, end, count, same, one, two)))
