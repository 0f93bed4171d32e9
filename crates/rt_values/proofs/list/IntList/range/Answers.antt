use Rattle.std.proofs.Common.{rules, ap, ◌≡◌, ◌≤◌, ◌<◌, ◌∙◌, length, to_z, of_z, w64, SFits, arith}
use Rattle.std.proofs.lemmas.Int.{to_z-of_z}
use Rattle.rt_values.specs.Operators.{numbers_from, range}
use Rattle.rt_values.proofs.Lists.{range-step, range-ended, range-full}
use Rattle.rt_values.proofs.list.IntList.range.Goals.{then-loop-next-test+else-len-lt-MOST_ITEMS, else-loop-next-test}
use Rattle.rt_values.proofs.list.IntList.range.Goals as goal

pub loop-next-preserved : goal.loop-next-preserved
loop-next-preserved c =
    let f : SFits w64 (to_z w64 c.loop-next.next-bits) = search rules in
    let g : SFits w64 (to_z w64 (of_z w64 c.args.end)) = search rules in
    let room : length c.loop-next.items.items < 4096 =
    omega (arith, c.if-len-lt-MOST_ITEMS.true, c.len.ensures, c.loop-next.items.ok.0) in
    range-step _ _ _ _ _ f g room c.loop-next-test.true c.in_ok-push.ensures.items c.loop-next.invariant.1

pub returns : goal.returns
returns c =
    let whole : numbers_from 4096 (to_z w64 (of_z w64 c.args.first)) (to_z w64 (of_z w64 c.args.end)) ≡ range c.args.first c.args.end =
    (λ i. numbers_from 4096 (to_z-of_z w64 c.args.first c.ranges.first i) (to_z-of_z w64 c.args.end c.ranges.end i)) in
    ap (λ v. v.items) c.in_ok-new.ensures.ok ∙ elim c.loop-next-test.branch [
      | then-loop-next-test+else-len-lt-MOST_ITEMS w ↦
          (let full : 4096 ≤ length c.loop-next.items.items = omega (
            arith,
            w.if-len-lt-MOST_ITEMS.false,
            w.len.ensures,
            c.loop-next.items.ok.0,
          ) in
          range-full _ _ _ _ full c.loop-next.invariant.1 ∙ whole)
      | else-loop-next-test w ↦ range-ended _ _ _ _ _ w.loop-next-test.false c.loop-next.invariant.1 ∙ whole
    ]
