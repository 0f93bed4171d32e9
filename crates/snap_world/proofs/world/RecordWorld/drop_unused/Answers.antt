use Rattle.std.proofs.Common.{refl, ap, arith}
use Rattle.rt_values.specs.Maps.{contains}
use Rattle.snap_nested.specs.declared.family.Member.{Member}
use Rattle.snap_nested.proofs.Members.{dated}
use Rattle.snap_laws.proofs.Unused.{losses_stand}
use Rattle.snap_world.specs.Holding.{world_parts}
use Rattle.snap_world.proofs.world.RecordWorld.drop_unused.Goals as goal

pub invariant_of-self : goal.invariant_of-self
invariant_of-self g c =
    let old = c.args.self.now in
    record {
      in_time = old.in_time;
      few = omega (arith, c.drop_unused.ensures.handed, old.few);
      many = old.many;
      stamped = old.stamped;
      blank = λ n past. old.blank n (omega (arith, past, c.drop_unused.ensures.count));
    }

pub drop_unused-requires : goal.drop_unused-requires
drop_unused-requires g c = record {
  root = c.in-Ok.ensures.root;
  first = c.in-Ok.ensures.first;
  current = c.in-Ok.ensures.current;
}

pub returns : goal.returns
returns g c = λ w s.
    let old = c.args.self.now in
    let each = c.drop_unused.ensures.each in
    losses_stand g.P.Policy.rules (world_parts old) _ w (λ i. contains i c.in-Ok.unused) s c.in-Ok.ensures (record {
      same = record {
        clock = refl;
        objects = refl;
        names = c.drop_unused.ensures.count;
        owner = λ n live. ap (λ (m : Member). m.owner) (each n);
        kind = λ n live. ap (λ (m : Member). m.kind) (each n);
        stamps = refl;
        watchers = refl;
      };
      handed = c.drop_unused.ensures.handed;
      ids = c.drop_unused.ensures.ids;
      dated = dated c.drop_unused.new.self.members;
      chains = refl;
      noted = refl;
    })
