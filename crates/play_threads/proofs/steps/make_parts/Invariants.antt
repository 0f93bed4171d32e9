use Rattle.std.proofs.Common.{◌≡◌, length}
use Rattle.std.specs.Vec.Iter.{into_iter_items, into_iter_len}
use Rattle.play_laws.specs.Woven.{AreOf}
use Rattle.play_steps.specs.PartLists.{parts_in}
use Rattle.play_threads.specs.ActorSteps.{IsSeated, Leads}
use Rattle.play_threads.proofs.steps.make_parts.Given as goal

abbrev pub invariant-loop-step : goal.invariant-loop-step
invariant-loop-step g l = record {
  counted : into_iter_len l.step-iterator ≡ length (into_iter_items l.step-iterator);
  seated : IsSeated l.run.shared.now l.run.number l.worker.seat;
  own : AreOf l.run.number (parts_in (into_iter_items l.step-iterator));
  leads : Leads g.V.Versions.stands l.run.shared.now l.fn.worker l.worker (parts_in l.fn.steps.items)
      (parts_in (into_iter_items l.step-iterator));
}
