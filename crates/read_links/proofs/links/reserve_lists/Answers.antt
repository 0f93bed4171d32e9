use Rattle.std.proofs.Common.{suc, ◌≡◌, ◌≤◌, ◌+◌, ◌-◌, vec_len, vec_capacity, arith, subst, ◌∙◌}
use Rattle.read_links.proofs.Entries.{same_entry, length-set}
use Rattle.indexmap.specs.IndexMap.{set_value_at}
use Rattle.read_links.proofs.Spares.{FirstHaveSpare, next_has_spare, all_have_spare}
use Rattle.read_links.proofs.links.reserve_lists.Goals as goal

pub returns-in_err-reserve-clause-links : goal.returns-in_err-reserve-clause-links
returns-in_err-reserve-clause-links c =
    same_entry (λ v. v.items) c.loop-at.at c.loop-at.objects.entries c.index_mut.result.now c.reserve.new.self
    c.index_mut.ensures.value c.reserve.ensures.items ∙ c.loop-at.invariant.0

pub loop-at-preserved : goal.loop-at-preserved
loop-at-preserved c =
    let enough = c.in_ok-reserve.ensures.ok in
    let next : suc c.loop-at.at ≡ c.loop-at.at + 1 = omega arith in
    let room : c.args.n ≤ vec_capacity c.reserve.new.self - vec_len c.reserve.new.self = omega (arith, enough) in (
      same_entry (λ v. v.items) c.loop-at.at c.loop-at.objects.entries c.index_mut.result.now c.reserve.new.self
          c.index_mut.ensures.value c.reserve.ensures.items ∙ c.loop-at.invariant.0,
      c.loop-at.invariant.1,
      subst (λ k. FirstHaveSpare (λ v. vec_capacity v - vec_len v) c.args.n k
          (set_value_at c.loop-at.objects.entries c.loop-at.at c.reserve.new.self)) next
          (next_has_spare (λ v. vec_capacity v - vec_len v) c.args.n c.loop-at.at c.loop-at.objects.entries
          c.reserve.new.self c.loop-at.invariant.2 room),
    )

pub loop-at-smaller : goal.loop-at-smaller
loop-at-smaller c =
    let same = length-set c.loop-at.objects.entries c.loop-at.at c.reserve.new.self in
    let len = c.len.ensures.len in
    let test = c.loop-at-test.true in
    omega (arith, same, len, test)

pub returns-clause-room : goal.returns-clause-room
returns-clause-room c =
    let len = c.len.ensures.len in
    let test = c.loop-at-test.false in
    all_have_spare (λ v. vec_capacity v - vec_len v) c.args.n c.loop-at.at c.loop-at.objects.entries
    (omega (arith, len, test)) c.loop-at.invariant.2
