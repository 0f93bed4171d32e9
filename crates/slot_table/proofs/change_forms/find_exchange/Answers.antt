use Rattle.std.proofs.Common.{sym, subst}
use Rattle.slot_table.specs.KeptRuns.{AreExchanged}
use Rattle.slot_table.proofs.ExchangedBlocks.{run_and_more}
use Rattle.slot_table.proofs.change_forms.find_exchange.Goals as goal

pub loop-run-preserved : goal.loop-run-preserved
loop-run-preserved c = λ e x.
    c.loop-run.invariant e (subst (λ l. AreExchanged c.loop-run.at l e) (sym c.in-Some.ensures.cases.0)
    (run_and_more c.in-Some.run'.now c.in-Some.later.now c.loop-run.at e
    (c.starts_after.ensures c.if-not-starts_after.false) x))
