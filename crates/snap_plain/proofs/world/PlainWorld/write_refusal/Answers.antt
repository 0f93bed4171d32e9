use Rattle.std.proofs.Common.{sym, ◌∙◌}
use Rattle.snap_plain.specs.Plain.{world_of}
use Rattle.snap_plain.proofs.Tests.{write_tested}
use Rattle.snap_plain.proofs.world.PlainWorld.write_refusal.Goals as goal

pub returns-clause-tested : goal.returns-clause-tested
returns-clause-tested g c =
    write_tested g.P.Policy.rules (world_of c.args.self.now) c.args.caller c.args.name c.args.object c.args.value.now _
    (sym c.is_spent.ensures ∙ c.if-is_spent.false) (sym c.is_closed.ensures.closed ∙ c.if-is_closed.false)
    (c.is_closed.ensures.known c.if-is_closed.false) (sym c.is_foreign.ensures ∙ c.if-is_foreign.false)
    (c.object_refusal.ensures c.args.caller)
