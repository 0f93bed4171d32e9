use Rattle.slot_table.proofs.ExchangedBlocks.{next_exchanged}
use Rattle.slot_table.proofs.change_forms.exchange_of.Goals as goal

pub returns : goal.returns
returns c =
    next_exchanged c.args.at c.args.run c.in-Some.next.now c.args.later.now c.in-Some.others.now
    c.in-Some.ensures.cases.0 c.if-next-ne0.false c.if-next-run.false
    (c.starts_after.ensures c.if-not-starts_after.false) c.if-next.false c.if-run.false
    (c.have_own_indexes.ensures c.if-not-have_own_indexes.false)
