use Rattle.std.proofs.Common.{◌≤◌, length, arith}
use Rattle.snap_laws.specs.Coverage.{used_count}
use Rattle.snap_laws.proofs.Counting.{used_within}
use Rattle.snap_laws.proofs.Written.{writes_stand}
use Rattle.snap_ids.proofs.Booleans.{and_seen}
use Rattle.snap_world.specs.Holding.{world_parts}
use Rattle.snap_world.proofs.Reading.{on_ok_more}
use Rattle.snap_world.proofs.Searching.{owned_records}
use Rattle.snap_world.proofs.world.RecordWorld.put_entry.Goals as goal

pub returns-clause-ok : goal.returns-clause-ok
returns-clause-ok g c = on_ok_more c.put_record.result (λ written w s.
    writes_stand g.P.Policy.rules (world_parts c.args.self.now) (world_parts c.put_record.new.self) w c.args.name
    c.args.object c.args.value s c.requires.live c.requires.there (written w s)) c.put_record.ensures.ok

pub returns-clause-swept : goal.returns-clause-swept
returns-clause-swept g c = on_ok_more c.put_record.result (λ swept w s.
    let t = swept w s in
    let few : used_count ((world_parts c.put_record.new.self).chains c.args.object) ≤ length c.find_kept_ids.new.ids =
    used_within ((world_parts c.put_record.new.self).chains c.args.object) c.find_kept_ids.new.ids t.apart t.listed in
    record {
      needed = λ p there positive. c.in-Ok.ensures.needed (owned_records s c.args.object) p.id (t.listed p there positive);
      names_live = c.in-Ok.ensures.names;
      few = omega (arith, few, c.in-Ok.ensures.few);
    }) c.put_record.ensures.swept

pub returns-clause-spared : goal.returns-clause-spared
returns-clause-spared g c = on_ok_more c.put_record.result (λ written w s.
    let t = written w s in
    record {
      views = λ n e live other r. t.put.kept r.rec r.there
          ((s.kept.dated.by n r.rec.id live r.valid).0) (t.view_stays n e live other r);
      bases = λ n e live inner r. t.put.kept r.rec r.there
          ((s.kept.dated.by n r.rec.id live (and_seen ((world_parts c.args.self.now).ids.sees n r.rec.id)
          ((world_parts c.args.self.now).ids.owns n r.rec.id) r.valid).0).0) (t.base_stays n e live inner r);
    }) c.put_record.ensures.ok
