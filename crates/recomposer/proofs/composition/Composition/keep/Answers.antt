use Rattle.std.proofs.Common.{refl, ap, ◌∙◌, Some}
use Rattle.rt_groups.specs.declared.report.Report.{Report}
use Rattle.recomposer.proofs.Frames.{finished_at, told_at}
use Rattle.recomposer.proofs.composition.Composition.keep.Goals as goal

pub returns-clause-good : goal.returns-clause-good
returns-clause-good c k m h made =
    finished_at c.args.self.now _ k m c.args.draft h made.1 made.0 refl c.apply.ensures.groups c.apply.ensures.next
    c.apply.ensures.scopes
    (ap (λ (r : Report). r.groups) c.report-report.ensures) (ap (λ (r : Report). r.nodes) c.report-report.ensures)
    c.clear.ensures

pub returns-clause-report : goal.returns-clause-report
returns-clause-report c k m h made =
    ap Some c.report-report.ensures ∙ told_at c.args.self.now k m c.args.draft h made.1 made.0

pub returns-clause-settings : goal.returns-clause-settings
returns-clause-settings c = record { program = refl; watcher = refl }
