use Rattle.std.proofs.Common.{◌≡◌, ◌≤◌, ◌+◌, true, sym, ap, ◌∙◌, arith, length, drop}
use Rattle.std.specs.List.{starts_with}
use Rattle.std.specs.Ordering.{int_eq}
use Rattle.rt_values.specs.Operators.{concatenation}
use Rattle.snap_policy.proofs.Appends.{append_is, behind_front}
use Rattle.snap_policy.proofs.merges.merge_items.Goals as goal

pub returns-clause-merged : goal.returns-clause-merged
returns-clause-merged c =
    let rest = behind_front c.args.previous.now c.args.applied.now in
    let begins : starts_with int_eq c.args.current.now c.args.previous.now ≡ true =
    ap (λ l. starts_with int_eq l c.args.previous.now) (sym c.items.ensures.items)
    ∙ sym c.if-not-starts_with.ensures.value in
    let fits : length c.args.current.now + length (drop (length c.args.previous.now) c.args.applied.now) ≤ 4096 =
    omega (arith, c.if-len-added-gt-MOST_ITEMS.false, c.len.ensures, ap length rest) in
    let merged : c.extend.new.self ≡ concatenation c.args.current.now
    (drop (length c.args.previous.now) c.args.applied.now) =
    c.in_ok-extend.ensures.ok ∙ (λ i. concatenation (c.in_ok-merged.ensures i) (rest i)) in
    append_is _ _ _ _ begins (sym c.if-not-starts_with-2.ensures.value) fits merged
