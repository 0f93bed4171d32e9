use Rattle.std.proofs.Common.{ap, ◌∙◌, ◌++◌, ◌∷◌, []}
use Rattle.slot_table.proofs.KeptRuns.{is_added}
use Rattle.slot_table.proofs.changes.add_run.Goals as goal

pub returns-clause-added : goal.returns-clause-added
returns-clause-added c = λ olds all low high.
    is_added olds c.args.runs.now.items c.push.new.self.items c.args.gap c.args.from c.args.to
    (c.in_ok-push.ensures.items
    ∙ ap (λ l. l ++ record { gap = c.args.gap; from = c.args.from; to = c.args.to } ∷ [])
    (c.extend_last.ensures.same c.if-extend_last.false)) all low high
