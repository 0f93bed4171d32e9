use Rattle.std.proofs.Common.{◌-◌, vec_len, vec_capacity, arith}
use Rattle.indexmap.specs.IndexMap.{spare}
use Rattle.read_links.proofs.Spares.{spare_is, any_has_spare}
use Rattle.read_links.proofs.links.Links.reserve.Goals as goal

pub returns-clause-room : goal.returns-clause-room
returns-clause-room c =
    let same = c.reserve_lists.ensures.spare in
    let enough = c.in_ok-reserve.ensures.ok in
    let count = c.in_ok-pool.ensures.len in
    spare_is (λ v. vec_capacity v - vec_len v) c.args.n
    (spare c.reserve_lists.new.objects) c.reserve_lists.new.objects.entries c.in_ok-pool.pool.items (record {
      map = omega (arith, same, enough);
      count = omega (arith, count);
      ready = c.in_ok-pool.ensures.room;
      lists = c.in_ok-reserve_lists.ensures.room;
    })

pub invariant_of-self-2 : goal.invariant_of-self-2
invariant_of-self-2 c =
    let count = c.in_ok-pool.ensures.len in
    any_has_spare (λ v. vec_capacity v - vec_len v) c.args.n c.in_ok-pool.pool.items (omega (arith, count))
    c.in_ok-pool.ensures.room
