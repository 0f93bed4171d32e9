use Rattle.std.proofs.Common.{◌-◌, length, vec_len, vec_capacity, arith, ap, sym, subst, true≢false}
use Rattle.indexmap.specs.IndexMap.{spare}
use Rattle.read_links.specs.Storage.{links_spare, AllHaveSpare, AreReady, count_new}
use Rattle.read_links.proofs.Spares.{below_spare, spare_is, fewer, on_err, on_ok}
use Rattle.read_links.proofs.links.make_room.Goals as goal

pub returns-in_err-fresh-clause-free : goal.returns-in_err-fresh-clause-free
returns-in_err-fresh-clause-free c = λ enough.
    let count = length c.args.deps.now in
    let several = c.if-deps-le1.false in
    let have = below_spare (λ v. vec_capacity v - vec_len v) count (spare c.args.objects.now)
    c.args.objects.now.entries c.args.pool.now.items enough in
    on_err c.from_residual.result (c.in_err-fresh.ensures.free
    (fewer (λ e. vec_capacity e.1 - vec_len e.1) 1 count c.args.objects.now.entries (omega (arith, several))
    have.lists))

pub returns-in_err-reserve-clause-free : goal.returns-in_err-reserve-clause-free
returns-in_err-reserve-clause-free c = λ enough.
    let have = below_spare (λ v. vec_capacity v - vec_len v) (length c.args.deps.now) (spare c.args.objects.now)
    c.args.objects.now.entries c.args.pool.now.items enough in
    let map = have.map in
    let few = c.in_ok-fresh.ensures.few in
    let same = c.reserve_each.ensures.spare in
    absurd (true≢false (sym (c.in_err-reserve.ensures.succeeds (omega (arith, map, few, same)))))

pub returns-clause-room : goal.returns-clause-room
returns-clause-room c = λ s several. on_ok c.fill_pool.result c.fill_pool.ensures.count (λ count.
    let is = c.in_ok-fresh.ensures.count in
    let same = ap (λ es. count_new c.args.deps.now es) c.reserve.ensures.entries in
    let map = c.in_ok-reserve.ensures.ok in
    record {
      lists = subst (λ es. AreReady (λ v. v.items) (λ v. vec_capacity v - vec_len v) s es c.args.deps.now)
          (sym c.reserve.ensures.entries) (c.in_ok-fresh.ensures.ready s);
      map = omega (arith, is, same, map);
      count = omega (arith, is, same, count);
      ready = c.fill_pool.ensures.room c.requires;
    })

pub returns-clause-spare : goal.returns-clause-spare
returns-clause-spare c = λ enough. on_ok c.fill_pool.result c.fill_pool.ensures.count (λ count.
    let least = links_spare (λ v. vec_capacity v - vec_len v) (spare c.args.objects.now) c.args.objects.now.entries
    c.args.pool.now.items in
    let have = below_spare (λ v. vec_capacity v - vec_len v) least (spare c.args.objects.now)
    c.args.objects.now.entries c.args.pool.now.items (omega arith) in
    let map = have.map in
    let many = have.count in
    let few = c.in_ok-fresh.ensures.few in
    let same = c.reserve_each.ensures.spare in
    let room = c.reserve.ensures.room.0 in
    let pool = c.fill_pool.ensures.enough (omega (arith, enough, few, many)) in
    let longer = ap (λ p. length p.items) pool in
    spare_is (λ v. vec_capacity v - vec_len v) least (spare c.reserve.new.self) c.reserve.new.self.entries
    c.fill_pool.new.pool.items (record {
      map = omega (arith, map, same, room);
      count = omega (arith, many, longer);
      ready = subst (λ p. AllHaveSpare (λ v. vec_capacity v - vec_len v) least p.items) (sym pool) have.ready;
      lists = subst (λ es. AllHaveSpare (λ e. vec_capacity e.1 - vec_len e.1) least es)
          (sym c.reserve.ensures.entries) (c.in_ok-fresh.ensures.room least have.lists);
    }))

pub returns-clause-free : goal.returns-clause-free
returns-clause-free c = λ enough.
    let have = below_spare (λ v. vec_capacity v - vec_len v) (length c.args.deps.now) (spare c.args.objects.now)
    c.args.objects.now.entries c.args.pool.now.items enough in
    let count = have.count in
    let few = c.in_ok-fresh.ensures.few in
    c.fill_pool.ensures.free (omega (arith, count, few))
