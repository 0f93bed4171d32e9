use Rattle.std.proofs.Common.{arith}
use Rattle.slot_table.proofs.KeptReads.{set_all_keeps_reads}
use Rattle.slot_table.proofs.changes.keep_reads_in_place.Goals as goal

pub returns : goal.returns
returns c = λ is.
    let end = c.loop-i-test.false in
    let count = c.len-i-end.ensures in
    set_all_keeps_reads c.args.table.now.groups c.args.places.now c.args.fresh.now
    (λ k inside. c.loop-i.invariant k (omega (arith, end, count, inside)))
