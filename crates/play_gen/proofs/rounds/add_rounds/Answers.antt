use Rattle.std.proofs.Common.{◌∙◌, ◌++◌, ◌∷◌, [], ap}
use Rattle.play_gen.proofs.RoundLists.{round-step}
use Rattle.play_gen.proofs.rounds.add_rounds.Goals as goal

pub loop-left-preserved : goal.loop-left-preserved
loop-left-preserved c =
    round-step _ _ _ _ c.args.size c.loop-left.left _ _ _ _ _ _ _ c.loop-left-test.true c.loop-left.invariant.0
    c.loop-left.invariant.1
    c.draw.ensures.value c.draw.ensures.next c.change_drawn-change.ensures c.add_change.ensures.draws
    c.in_ok-add_change.ensures.items c.in_ok-add_change.ensures.steps
    (c.in_ok-push.ensures.ok ∙ ap (λ f. c.add_change.new.steps ++ f ∷ []) c.frame_step.ensures)
