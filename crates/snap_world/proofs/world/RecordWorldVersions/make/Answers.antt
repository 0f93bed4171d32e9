use Rattle.std.proofs.Common.{sym, ◌∙◌}
use Rattle.snap_laws.proofs.Made.{makes_stand}
use Rattle.snap_laws.proofs.Takes.{stands_like}
use Rattle.snap_world.specs.Holding.{world_parts}
use Rattle.snap_world.specs.HoldingLaws.{counts_of}
use Rattle.snap_world.proofs.world.RecordWorldVersions.make.Goals as goal

pub returns-in_default-put_object-clause-made : goal.returns-in_default-put_object-clause-made
returns-in_default-put_object-clause-made g c = λ w s. stands_like c.in_default-put_object.ensures.err s

pub returns-clause-made : goal.returns-clause-made
returns-clause-made g c = (
  sym c.make_refusal.ensures ∙ c.in_default.is,
  λ w s. (
    c.in-Ok.ensures.number ∙ (counts_of c.args.self.now w s).0,
    makes_stand g.P.Policy.rules (world_parts c.args.self.now) (world_parts c.put_object.new.self) w c.args.ty c.args.policy
        c.args.value s c.in-Ok.ensures.ok,
  ),
)
