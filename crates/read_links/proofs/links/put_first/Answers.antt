use Rattle.std.proofs.Common.{◌≤◌, ◌+◌, ◌-◌, ◌++◌, ◌∷◌, [], vec_len, vec_capacity, arith, ap, sym, subst, ◌∙◌, true≢false}
use Rattle.indexmap.specs.IndexMap.{spare}
use Rattle.read_links.specs.Storage.{links_spare, entry_links}
use Rattle.read_links.proofs.Spares.{insert_spare}
use Rattle.read_links.proofs.Rooms.{room_after_new, takes_again}
use Rattle.read_links.proofs.Entries.{insert_links}
use Rattle.read_links.proofs.links.put_first.Goals as goal

pub returns-in_err-push-clause-free : goal.returns-in_err-push-clause-free
returns-in_err-push-clause-free c = λ ready some free.
    let room = c.take_list-scopes.ensures.room 1 ready some in
    let full = c.in_err-push.ensures.full in
    absurd (omega (arith, room, full))

pub returns-in_err-push-clause-rest : goal.returns-in_err-push-clause-rest
returns-in_err-push-clause-rest c = c.take_list-scopes.ensures.rest 1

pub returns-in_err-insert-clause-free : goal.returns-in_err-insert-clause-free
returns-in_err-insert-clause-free c = λ ready some free.
    absurd (true≢false (sym (c.in_err-insert.ensures.succeeds free)))

pub returns-in_err-insert-clause-rest : goal.returns-in_err-insert-clause-rest
returns-in_err-insert-clause-rest c = c.take_list-scopes.ensures.rest 1

pub returns-clause-rest : goal.returns-clause-rest
returns-clause-rest c = c.take_list-scopes.ensures.rest 1

pub returns-clause-room : goal.returns-clause-room
returns-clause-room c = λ xs h.
    let less = c.insert.ensures.spare in
    room_after_new (λ v. v.items) (λ v. vec_capacity v - vec_len v) c.args.scope c.args.object c.push.new.self
    c.args.objects.now.entries c.insert.new.self.entries c.in_ok-insert.ensures.updates.0
    (takes_again (λ v. v.items) (λ v. vec_capacity v - vec_len v) c.args.scope c.push.new.self
    (c.in_ok-push.ensures.items ∙ ap (λ l. l ++ c.args.scope ∷ []) c.take_list-scopes.ensures.empty))
    c.requires xs (spare c.args.objects.now) (spare c.insert.new.self) c.args.pool.now.items
    c.take_list-scopes.new.pool.items less c.take_list-scopes.ensures.len
    (c.take_list-scopes.ensures.rest 1 h.ready) h

pub returns-clause-links : goal.returns-clause-links
returns-clause-links c =
    ap (λ es. entry_links (λ v. v.items) es) c.in_ok-insert.ensures.entries
    ∙ insert_links (λ v. v.items) c.args.scope c.args.object c.args.objects.now.entries c.push.new.self c.requires
    (c.in_ok-push.ensures.items ∙ ap (λ l. l ++ c.args.scope ∷ []) c.take_list-scopes.ensures.empty)

pub returns-clause-spare : goal.returns-clause-spare
returns-clause-spare c =
    let less = c.insert.ensures.spare in
    let longer = c.in_ok-push.ensures.len in
    let capacity = c.push.ensures.capacity in
    subst
    (λ es. links_spare (λ v. vec_capacity v - vec_len v)
    (spare c.args.objects.now) c.args.objects.now.entries c.args.pool.now.items
    ≤ links_spare (λ v. vec_capacity v - vec_len v) (spare c.insert.new.self) es c.take_list-scopes.new.pool.items + 1)
    (sym c.in_ok-insert.ensures.entries)
    (insert_spare (λ v. vec_capacity v - vec_len v) (spare c.args.objects.now)
    (spare c.insert.new.self) c.args.object c.args.objects.now.entries c.args.pool.now.items
    c.take_list-scopes.new.pool.items c.take_list-scopes.result c.push.new.self
    less c.take_list-scopes.ensures.len (omega (arith, longer, capacity)) c.take_list-scopes.ensures.room
    c.take_list-scopes.ensures.rest)
