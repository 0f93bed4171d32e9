use Rattle.std.proofs.Common.{arith, sym, ◌∙◌}
use Rattle.slot_table.proofs.KeptReads.{same_reads_grow}
use Rattle.slot_table.proofs.changes.have_reads_of_run.Goals as goal

pub loop-i-preserved : goal.loop-i-preserved
loop-i-preserved c =
    let more = c.loop-i-test.true in
    let at = c.requires.at in
    let from = c.requires.from in
    same_reads_grow c.args.table.now.groups c.args.at c.args.from c.loop-i.i (omega (arith, more, at))
    (omega (arith, more, from))
    (sym c.slot.ensures.reads ∙ c.has_reads_of.ensures c.if-not-has_reads_of.false) c.loop-i.invariant
