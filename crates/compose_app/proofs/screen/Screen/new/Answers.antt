use Rattle.std.proofs.Common.{◌∙◌, refl}
use Rattle.rt_groups.specs.Frames.{no_last_frame}
use Rattle.lang_script.specs.StepCalls.{opening_world}
use Rattle.compose_app.proofs.ScreenFrames.{opened}
use Rattle.compose_app.proofs.screen.Screen.new.Goals as goal

pub invariant_of-result : goal.invariant_of-result
invariant_of-result g c =
    let states = c.args.program.now.states.items in
    let made = c.in_ok-composition.ensures in
    record {
      kept = no_last_frame;
      world = opening_world states;
      is_at = opened g.V.Versions.stands g.A.Applier.tree c.args.program.now c.in_ok-composition.composition
          c.open_world.new.world c.args.applier states c.in_ok-watcher.ensures.1
          (made.watcher ∙ c.in_ok-watcher.ensures.0) made.program made.before c.requires.tree;
    }

pub returns : goal.returns
returns g c =
    let states = c.args.program.now.states.items in
    let made = c.in_ok-composition.ensures in (
      refl,
      refl,
      opened g.V.Versions.stands g.A.Applier.tree c.args.program.now c.in_ok-composition.composition
          c.open_world.new.world c.args.applier states c.in_ok-watcher.ensures.1
          (made.watcher ∙ c.in_ok-watcher.ensures.0) made.program made.before c.requires.tree,
    )
