use Rattle.std.proofs.Common.{◌∷◌, ◌≤◌, ◌+◌, ◌-◌, nat_eq, vec_len, vec_capacity, arith, ap, sym, subst, ◌∙◌}
use Rattle.indexmap.specs.IndexMap.{spare}
use Rattle.indexmap.specs.IndexMap.{get_by}
use Rattle.read_links.specs.LinkLists.{ends_with}
use Rattle.read_links.proofs.Rooms.{room_after_known, is_found, ends_with_put, put_is_sure, new_has_room}
use Rattle.read_links.specs.Storage.{links_spare, entry_links, HasRoomFor}
use Rattle.read_links.proofs.Spares.{below_spare, found_has_spare, set_spare, on_ok}
use Rattle.std.proofs.lemmas.Result.{on_err_weaker}
use Rattle.read_links.proofs.Entries.{set_links, kept_links}
use Rattle.read_links.proofs.links.put_one.Goals as goal

pub returns-in-Some-clause-links : goal.returns-in-Some-clause-links
returns-in-Some-clause-links c = on_ok c.append_scope.result c.append_scope.ensures.items (λ is.
    ap (λ es. entry_links (λ v. v.items) es) (c.get_mut.follows.holds c.append_scope.new.scopes).0
    ∙ set_links (λ v. v.items) c.args.scope c.args.object c.args.objects.now.entries c.in-Some.scopes.now
    c.append_scope.new.scopes (sym c.in-Some.ensures.value) is)

pub returns-in-Some-clause-same : goal.returns-in-Some-clause-same
returns-in-Some-clause-same c = on_err_weaker c.append_scope.result (λ same.
    ap (λ es. entry_links (λ v. v.items) es) (c.get_mut.follows.holds c.append_scope.new.scopes).0
    ∙ kept_links (λ v. v.items) (nat_eq c.args.object) c.args.objects.now.entries c.in-Some.scopes.now
    c.append_scope.new.scopes (sym c.in-Some.ensures.value) same) c.append_scope.ensures.same

pub returns-in-Some-clause-free : goal.returns-in-Some-clause-free
returns-in-Some-clause-free c = λ some.
    let have = below_spare (λ v. vec_capacity v - vec_len v) 1
    (spare c.args.objects.now) c.args.objects.now.entries c.args.pool.now.items
    (omega (arith, some)) in
    let room = found_has_spare (λ v. vec_capacity v - vec_len v) 1
    (nat_eq c.args.object) c.args.objects.now.entries c.in-Some.scopes.now
    (sym c.in-Some.ensures.value) have.lists in
    c.append_scope.ensures.free (omega (arith, room))

pub returns-in-Some-clause-spare : goal.returns-in-Some-clause-spare
returns-in-Some-clause-spare c = on_ok c.append_scope.result c.append_scope.ensures.items (λ is.
    let written = c.get_mut.follows.holds c.append_scope.new.scopes in
    let longer = c.append_scope.ensures.len in
    let capacity = c.append_scope.ensures.capacity in
    let whole : links_spare (λ v. vec_capacity v - vec_len v)
    (spare c.args.objects.now) c.args.objects.now.entries c.args.pool.now.items
    ≤ links_spare (λ v. vec_capacity v - vec_len v) (spare (c.get_mut.follows.lender c.append_scope.new.scopes))
    (c.get_mut.follows.lender c.append_scope.new.scopes).entries c.args.pool.now.items + 1 =
    subst
    (λ es. links_spare (λ v. vec_capacity v - vec_len v) (spare c.args.objects.now) c.args.objects.now.entries
    c.args.pool.now.items
    ≤ links_spare (λ v. vec_capacity v - vec_len v) (spare (c.get_mut.follows.lender c.append_scope.new.scopes)) es
    c.args.pool.now.items + 1)
    (sym written.0)
    (set_spare (λ v. vec_capacity v - vec_len v) (spare c.args.objects.now)
    (spare (c.get_mut.follows.lender c.append_scope.new.scopes))
    (nat_eq c.args.object) c.args.objects.now.entries c.args.pool.now.items c.in-Some.scopes.now
    c.append_scope.new.scopes
    (sym c.in-Some.ensures.value) (omega (arith, longer, capacity)) written.6) in
    whole)

pub returns-in-Some-clause-room : goal.returns-in-Some-clause-room
returns-in-Some-clause-room c = λ xs h. on_ok c.append_scope.result c.append_scope.ensures.items (λ is.
    let written = c.get_mut.follows.holds c.append_scope.new.scopes in
    room_after_known (λ v. v.items) (λ v. vec_capacity v - vec_len v) c.args.scope c.args.object
    c.append_scope.new.scopes c.args.objects.now.entries (c.get_mut.follows.lender c.append_scope.new.scopes).entries
    (written.3 (is_found (get_by (nat_eq c.args.object) c.args.objects.now) c.in-Some.scopes.now
    (sym c.in-Some.ensures.value))).0
    (λ empty. ap (λ l. ends_with c.args.scope l) is ∙ ends_with_put c.args.scope c.in-Some.scopes.now.items)
    xs (spare c.args.objects.now) (spare (c.get_mut.follows.lender c.append_scope.new.scopes)) c.args.pool.now.items
    written.6 h)

pub returns-in-Some-clause-sure : goal.returns-in-Some-clause-sure
returns-in-Some-clause-sure c = λ xs h.
    put_is_sure (λ v. v.items) (λ v. vec_capacity v - vec_len v) c.args.scope c.in-Some.scopes.now
    (h.lists.0 c.in-Some.scopes.now (sym c.in-Some.ensures.value))
    (λ room. c.append_scope.ensures.free (omega (arith, room))) c.append_scope.ensures.ended

pub returns-in-None-clause-free : goal.returns-in-None-clause-free
returns-in-None-clause-free c = λ some.
    let have = below_spare (λ v. vec_capacity v - vec_len v) 1 (spare c.args.objects.now) c.args.objects.now.entries
    c.args.pool.now.items (omega (arith, some)) in
    let map = have.map in
    let count = have.count in
    let same = ap (λ m. spare m) c.get_mut.follows.holds-at-none in
    c.put_first.ensures.free have.ready (omega (arith, count)) (omega (arith, map, same))

pub returns-in-None-clause-room : goal.returns-in-None-clause-room
returns-in-None-clause-room c = λ xs h. c.put_first.ensures.room xs
    (subst (λ m. HasRoomFor (λ v. v.items) (λ v. vec_capacity v - vec_len v) c.args.scope (c.args.object ∷ xs)
    (spare m) m.entries c.args.pool.now.items) (sym c.get_mut.follows.holds-at-none) h)

pub returns-in-None-clause-sure : goal.returns-in-None-clause-sure
returns-in-None-clause-sure c = λ xs h.
    let have = new_has_room (λ v. v.items) (λ v. vec_capacity v - vec_len v) c.args.scope c.args.object
    c.args.objects.now.entries (sym c.in-None.ensures.value) xs (spare c.args.objects.now) c.args.pool.now.items h in
    let map = have.0 in
    let same = ap (λ m. spare m) c.get_mut.follows.holds-at-none in
    c.put_first.ensures.free h.ready have.1 (omega (arith, map, same))
