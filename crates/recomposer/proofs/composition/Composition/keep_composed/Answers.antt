use Rattle.std.proofs.Common.{subst, Option}
use Rattle.composer.specs.FrameDrafts.{DraftGroups}
use Rattle.recomposer.specs.Composed.{IsComposed}
use Rattle.recomposer.proofs.composition.Composition.keep_composed.Goals as goal

pub returns-in_default-clause-good : goal.returns-in_default-clause-good
returns-in_default-clause-good c k m h composed =
    c.keep_idle.ensures.good k m h
    (subst (λ (o : Option DraftGroups). IsComposed c.args.self.now k m o) c.in_default.is composed)

pub returns-in_default-clause-report : goal.returns-in_default-clause-report
returns-in_default-clause-report c k m h composed =
    c.keep_idle.ensures.report k m h
    (subst (λ (o : Option DraftGroups). IsComposed c.args.self.now k m o) c.in_default.is composed)

pub returns-clause-good : goal.returns-clause-good
returns-clause-good c k m h composed =
    c.keep.ensures.good k m h (subst (λ (o : Option DraftGroups). IsComposed c.args.self.now k m o) c.in-Some.is
    composed)

pub returns-clause-report : goal.returns-clause-report
returns-clause-report c k m h composed =
    c.keep.ensures.report k m h (subst (λ (o : Option DraftGroups). IsComposed c.args.self.now k m o) c.in-Some.is
    composed)

pub returns-in_default-clause-settings : goal.returns-in_default-clause-settings
returns-in_default-clause-settings c = c.keep_idle.ensures.settings

pub returns-clause-settings : goal.returns-clause-settings
returns-clause-settings c = c.keep.ensures.settings
