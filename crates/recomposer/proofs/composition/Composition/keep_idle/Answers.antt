use Rattle.std.proofs.Common.{refl}
use Rattle.recomposer.proofs.Frames.{same_at, idle_at, idle_told}
use Rattle.recomposer.proofs.composition.Composition.keep_idle.Goals as goal

pub returns-clause-good : goal.returns-clause-good
returns-clause-good c k m h nothing =
    same_at c.args.self.now _ _ _ refl refl refl refl refl (idle_at c.args.self.now k m h nothing.0 nothing.1)

pub returns-clause-report : goal.returns-clause-report
returns-clause-report c k m h nothing =
    idle_told c.args.self.now k m h nothing.0 nothing.1 c.idle_report.result c.idle_report.ensures

pub returns-clause-settings : goal.returns-clause-settings
returns-clause-settings c = record { program = refl; watcher = refl }
