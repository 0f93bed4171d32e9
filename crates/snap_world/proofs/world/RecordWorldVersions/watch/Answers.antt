use Rattle.std.proofs.Common.{ℕ, List, sym, ◌∙◌, subst, Option}
use Rattle.snap_api.specs.World.{world_after_watch}
use Rattle.snap_laws.specs.Represents.{Represents}
use Rattle.snap_laws.proofs.Made.{watches_stand}
use Rattle.snap_world.specs.Holding.{world_parts}
use Rattle.snap_world.specs.HoldingLaws.{counts_of}
use Rattle.snap_world.proofs.world.RecordWorldVersions.watch.Goals as goal

pub returns-clause-ok : goal.returns-clause-ok
returns-clause-ok g c = λ w s.
    let h = world_parts c.args.self.now in (
      c.len-number.ensures ∙ c.args.self.now.lasts.ok.0 ∙ (counts_of c.args.self.now w s).1,
      subst (λ (l : List (Option (List ℕ))). Represents (record h { watchers = l }) (world_after_watch w))
          (sym c.in-Ok.ensures.items) (watches_stand g.P.Policy.rules h w s),
    )
