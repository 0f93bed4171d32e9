use Rattle.std.proofs.Common.{length}
use Rattle.slot_table.specs.declared.runs.Exchange.{Exchange}
use Rattle.slot_table.specs.KeptRuns.{AreExchanged}
use Rattle.slot_table.proofs.change_forms.find_exchange.Given as goal

abbrev pub invariant-loop-run : goal.invariant-loop-run
invariant-loop-run l = (e : Exchange) → AreExchanged l.at l.left e → AreExchanged 0 l.runs e

abbrev pub decreases-loop-run : goal.decreases-loop-run
decreases-loop-run l = length l.left
