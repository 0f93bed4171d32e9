use Rattle.std.proofs.Common.{refl}
use Rattle.recomposer.proofs.Frames.{detached_at}
use Rattle.recomposer.proofs.composition.Composition.detach.Goals as goal

pub returns-clause-fault : goal.returns-clause-fault
returns-clause-fault c k m h made = detached_at c.args.self.now _ k m c.args.draft h made.1 made.0 refl
    c.detach.ensures.groups c.detach.ensures.next c.detach.ensures.scopes refl refl c.owe_all.ensures

pub returns-clause-calls : goal.returns-clause-calls
returns-clause-calls c = record { settings = record { program = refl; watcher = refl }; ops = refl }
