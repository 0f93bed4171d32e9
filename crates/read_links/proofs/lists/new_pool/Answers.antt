use Rattle.std.proofs.Common.{◌≤◌, ◌-◌, ◌∷◌, [], vec_len, vec_capacity, arith, ap, ◌∙◌, length, length-append, subst, sym}
use Rattle.read_links.specs.Storage.{AllHaveSpare}
use Rattle.read_links.proofs.Spares.{pushed_has_spare}
use Rattle.read_links.proofs.lists.new_pool.Goals as goal

pub loop-at-preserved : goal.loop-at-preserved
loop-at-preserved c =
    let empty = c.in_ok-with_capacity.ensures.len in
    let capacity = c.in_ok-with_capacity.ensures.capacity in
    let pushed = c.in_ok-push.ensures.items in
    let room : c.args.n ≤ vec_capacity c.in_ok-with_capacity.field-0 - vec_len c.in_ok-with_capacity.field-0 =
    omega (arith, empty, capacity) in
    let before = c.loop-at.invariant in
    let count = before.0 in
    let test = c.loop-at-test.true in
    let longer = ap (λ l. length l) pushed
    ∙ length-append c.loop-at.pool.items (c.in_ok-with_capacity.field-0 ∷ []) in (
      omega (arith, longer, count),
      omega (arith, test),
      subst (λ l. AllHaveSpare (λ v. vec_capacity v - vec_len v) c.args.n l) (sym pushed)
          (pushed_has_spare (λ v. vec_capacity v - vec_len v) c.args.n c.loop-at.pool.items
          c.in_ok-with_capacity.field-0 before.2 room),
    )
