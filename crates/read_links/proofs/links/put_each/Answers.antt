use Rattle.std.proofs.Common.{drop, length, ◌+◌, ◌-◌, vec_len, vec_capacity, arith, ap, sym, subst, ◌∙◌}
use Rattle.std.proofs.lemmas.List.{drop_more}
use Rattle.indexmap.specs.IndexMap.{spare}
use Rattle.read_links.specs.LinkLists.{links_with_all}
use Rattle.read_links.specs.Storage.{HasRoomFor, entry_links}
use Rattle.read_links.proofs.Spares.{on_err}
use Rattle.read_links.proofs.Rooms.{by_index}
use Rattle.read_links.proofs.links.put_each.Goals as goal

pub loop-object-preserved : goal.loop-object-preserved
loop-object-preserved c =
    let scope = c.args.scope in
    let deps = c.args.deps.now in
    let index = c.loop-object.object-index in
    let inside = c.loop-object-test.true in
    let fell = c.in_ok-put_one.ensures.spare in
    let before = c.loop-object.invariant.2 in (
      ap (λ l. links_with_all scope (drop (index + 1) deps) l) c.in_ok-put_one.ensures.links
          ∙ ap (λ l. links_with_all scope l (entry_links (λ v. v.items) c.loop-object.objects.entries))
          (sym (drop_more deps index 0 inside)) ∙ c.loop-object.invariant.0,
      λ first. absurd (omega (arith, first)),
      omega (arith, fell, before),
      λ several. c.in_ok-put_one.ensures.room (drop (index + 1) deps)
          (subst (λ l. HasRoomFor (λ v. v.items) (λ v. vec_capacity v - vec_len v) scope l (spare c.loop-object.objects)
          c.loop-object.objects.entries c.loop-object.pool.items) (drop_more deps index 0 inside)
          (c.loop-object.invariant.3 several)),
      λ all. c.in_ok-put_one.ensures.rest (c.loop-object.invariant.4 all),
    )

pub returns-in_err-put_one-clause-same : goal.returns-in_err-put_one-clause-same
returns-in_err-put_one-clause-same c =
    let scope = c.args.scope in
    let deps = c.args.deps.now in
    let index = c.loop-object.object-index in
    let inside = c.loop-object-test.true in
    on_err c.from_residual.result (by_index (length deps) index inside (λ first. c.in_err-put_one.ensures.same ∙ c.loop-object.invariant.1 first)
    (λ several. c.in_err-put_one.ensures.sure (drop (index + 1) deps)
    (subst (λ l. HasRoomFor (λ v. v.items) (λ v. vec_capacity v - vec_len v) scope l (spare c.loop-object.objects)
    c.loop-object.objects.entries c.loop-object.pool.items) (drop_more deps index 0 inside)
    (c.loop-object.invariant.3 several))))
