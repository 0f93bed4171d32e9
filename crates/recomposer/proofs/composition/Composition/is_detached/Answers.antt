use Rattle.std.proofs.Common.{◌∙◌, ap, sym, ◌&&◌, nat_lt, refl}
use Rattle.recomposer.proofs.Applied.{detached_is}
use Rattle.recomposer.proofs.composition.Composition.is_detached.Goals as goal

pub returns-then-is_all : goal.returns-then-is_all
returns-then-is_all c k l h =
    ap (λ b. b && nat_lt 1 c.next.result) (sym c.if-is_all.true)
    ∙ detached_is c.args.self.now.program.now k l c.args.self.now.owed c.is_all.result c.next.result h.owes
    c.is_all.ensures (c.next.ensures ∙ h.holds.1)

pub returns-else-is_all : goal.returns-else-is_all
returns-else-is_all c k l h =
    c.if-is_all.false ∙ ap (λ b. b && nat_lt 1 k.next) (sym c.if-is_all.false)
    ∙ detached_is c.args.self.now.program.now k l c.args.self.now.owed c.is_all.result k.next h.owes c.is_all.ensures
    refl
