use Rattle.std.proofs.Common.{◌≡◌, ◌∙◌, List, arith, length, ◌-◌}
use Rattle.std.proofs.lemmas.List.{length-map, take-set-le}
use Rattle.rt_groups.specs.declared.groups.Group.{Group}
use Rattle.slot_table.specs.InnerCounts.{bare_groups}
use Rattle.slot_table.proofs.InnerCounts.{one_more}
use Rattle.slot_table.proofs.table.set_counts_between.Goals as goal

pub loop-at-preserved : goal.loop-at-preserved
loop-at-preserved c =
    let gs : List Group = bare_groups c.args.heads.now.items in
    let some = c.loop-at-test.true in
    let high = c.loop-at.invariant.high in
    let long = c.loop-at.invariant.long in
    let same : length gs ≡ length c.args.heads.now.items = length-map c.args.heads.now.items _ in
    let more = one_more gs c.loop-at.counts c.loop-at.at (c.loop-at.at - 1) c.count_inside.result
    (omega (arith, some)) (omega (arith, high, same)) (omega (arith, long, same)) c.loop-at.invariant.known
    c.count_inside.ensures.count in
    let high' = more.0 in
    let long' = more.1 in
    record {
      low = omega (arith, some);
      high = omega (arith, high', same);
      long = omega (arith, long', same);
      known = more.2;
      before = take-set-le c.args.from c.loop-at.counts (c.loop-at.at - 1) c.count_inside.result
          (omega (arith, some))
          ∙ c.loop-at.invariant.before;
    }
