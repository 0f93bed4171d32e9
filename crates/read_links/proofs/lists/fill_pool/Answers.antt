use Rattle.std.proofs.Common.{◌-◌, length, vec_len, vec_capacity, arith, ap, sym, subst}
use Rattle.read_links.specs.Storage.{AllHaveSpare}
use Rattle.read_links.proofs.Spares.{pushed_has_spare}
use Rattle.read_links.proofs.lists.fill_pool.Goals as goal

pub loop-alloc-preserved : goal.loop-alloc-preserved
loop-alloc-preserved c =
    let enough = c.in_ok-reserve.ensures.ok in
    let len = c.len.ensures in
    let test = c.loop-alloc-test.true in (
      λ all. subst (λ l. AllHaveSpare (λ v. vec_capacity v - vec_len v) 1 l) (sym c.in_ok-push.ensures.items)
          (pushed_has_spare (λ v. vec_capacity v - vec_len v) 1 c.loop-alloc.pool.items c.reserve.new.self
          (c.loop-alloc.invariant.0 all) (omega (arith, enough))),
      λ many. let same = ap (λ p. length p.items) (c.loop-alloc.invariant.1 many) in
          absurd (omega (arith, many, same, len, test)),
    )
