use Rattle.std.proofs.Common.{◌-◌, vec_len, vec_capacity, arith, ap}
use Rattle.indexmap.specs.IndexMap.{spare}
use Rattle.read_links.proofs.Spares.{spare_is, below_spare}
use Rattle.read_links.proofs.links.Links.drop_scope.Goals as goal

pub returns-clause-spare : goal.returns-clause-spare
returns-clause-spare c =
    let same = c.remove_from_lists.ensures.spare in
    let view = ap (λ l. l.spare) c.self.view_is in
    let have = below_spare (λ v. vec_capacity v - vec_len v) c.args.self.now.spare
    (spare c.self.inside.objects) c.self.inside.objects.entries c.self.inside.pool.items (omega (arith, view)) in
    let map = have.map in
    spare_is (λ v. vec_capacity v - vec_len v) c.args.self.now.spare
    (spare c.remove_from_lists.new.objects) c.remove_from_lists.new.objects.entries c.self.inside.pool.items
    (record {
      map = omega (arith, map, same);
      count = have.count;
      ready = have.ready;
      lists = c.remove_from_lists.ensures.room c.args.self.now.spare have.lists;
    })
