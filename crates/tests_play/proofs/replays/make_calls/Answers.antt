use Rattle.std.proofs.Common.{◌∙◌}
use Rattle.lang_script.specs.StepCalls.{opening_world}
use Rattle.tests_play.proofs.Histories.{made_legal}
use Rattle.tests_play.proofs.replays.make_calls.Goals as goal

pub returns : goal.returns
returns c = record {
  legal = made_legal (opening_world c.args.job.now.program.states.items) c.in_ok-run_calls.ensures.made
      (c.set_up_world.ensures.log ∙ c.in_ok-world.ensures.log) c.into_parts-entries.ensures.log
      c.in_ok-set_up_world.ensures.opened;
}
