use Rattle.std.proofs.Common.{ℕ, List, [], ap, ◌∙◌, Option, None}
use Rattle.std.proofs.lemmas.List.{get_or_default}
use Rattle.std.specs.Option.{unwrap_or}
use Rattle.snap_laws.specs.TakesFor.{differ_stamps}
use Rattle.snap_world.specs.Holding.{world_parts}
use Rattle.snap_world.proofs.world.RecordWorld.push_child_for.Goals as goal

pub returns-clause-ok : goal.returns-clause-ok
returns-clause-ok g c =
    let s = c.args.self.now in
    record {
      stamps = c.in-Ok.stamps;
      stamps_are = c.in-Ok.ensures ∙ c.deref.ensures.value;
      changed_are = c.in-Ok-find_changed_objects.ensures
          ∙ ap (λ (o : Option (List ℕ)). differ_stamps (unwrap_or o []) 0 c.in-Ok.stamps)
          (c.index.ensures ∙ get_or_default s.lasts.items c.args.watcher _ None c.requires.known);
      taken = world_parts c.push_child.new.self;
      took = c.in-Ok-push_child.ensures.ok;
      is = ap (λ (ws : List (Option (List ℕ))). record (world_parts c.push_child.new.self) { watchers = ws })
          c.replace_last.ensures;
    }
