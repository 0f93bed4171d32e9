use Rattle.std.proofs.Common.{List, ℕ, map, arith}
use Rattle.slot_table.proofs.ExchangedBlocks.{exchange_keeps}
use Rattle.slot_table.proofs.changes.exchange_keeps_reads.Goals as goal

pub returns-then-have_reads_of_run : goal.returns-then-have_reads_of_run
returns-then-have_reads_of_run c = λ is.
    let low = c.requires.low in
    let high = c.requires.high in
    let reads : List (List ℕ) = map (λ g. g.reads) c.args.table.now.groups in
    exchange_keeps reads c.args.exchange.from c.args.exchange.middle c.args.exchange.to (omega (arith, low))
    (omega (arith, high)) (c.have_reads_of_run.ensures c.if-have_reads_of_run.true)
    (c.have_reads_of_run-then-have_reads_of_run.ensures is)
