use Rattle.std.proofs.Common.{◌∙◌, ◌||◌, sym, ap}
use Rattle.rt_values.specs.Maps.{contains}
use Rattle.recomposer.proofs.Owings.{owes_at}
use Rattle.recomposer.proofs.composition.Composition.owes.Goals as goal

pub returns-then-is_all : goal.returns-then-is_all
returns-then-is_all c k m at few same =
    let owed = c.args.self.now.owed in
    c.if-is_all.true
    ∙ ap (λ b. b || contains c.args.x owed.objects) (sym (sym c.is_all.ensures ∙ c.if-is_all.true))
    ∙ owes_at c.args.self.now k m c.args.x at few same

pub returns-else-is_all : goal.returns-else-is_all
returns-else-is_all c k m at few same =
    let owed = c.args.self.now.owed in
    c.has.ensures
    ∙ ap (λ b. b || contains c.args.x owed.objects) (sym (sym c.is_all.ensures ∙ c.if-is_all.false))
    ∙ owes_at c.args.self.now k m c.args.x at few same
