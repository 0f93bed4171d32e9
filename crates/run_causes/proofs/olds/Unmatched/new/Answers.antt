use Rattle.std.proofs.Common.{◌++◌, ◌∷◌, [], ap, ◌∙◌}
use Rattle.std.proofs.Math.Path.{fun_ext}
use Rattle.run_causes.specs.OldMatches.{Level, queued_levels}
use Rattle.run_causes.proofs.SiblingSteps.{all_siblings}
use Rattle.run_causes.proofs.olds.Unmatched.new.Goals as goal

pub returns-clause-levels : goal.returns-clause-levels
returns-clause-levels c = λ before is.
    ap (λ l. queued_levels l) (c.in_ok-push.ensures.items
    ∙ ap (λ l. l ++ c.in_ok-queues.queues ∷ []) c.new-levels.ensures.items)
    ∙ ap (λ (l : Level). l ∷ []) (fun_ext (c.in_ok-queues.ensures.queues 0 before
    (all_siblings c.args.old.now.groups before c.len.result is c.len.ensures)))
