use Rattle.std.proofs.Common.{◌<◌, ℕ, Option, List, length, ap, sym, subst, ◌∙◌, arith}
use Rattle.std.specs.Prelude.{IfSome}
use Rattle.run_causes.specs.OldMatches.{AreFoundBelow, queued_levels}
use Rattle.run_causes.proofs.BelowLevels.{one_found}
use Rattle.run_causes.proofs.OldLevels.{one_more, all_found}
use Rattle.run_causes.proofs.olds.find_olds.Goals as goal

pub loop-i-preserved : goal.loop-i-preserved
loop-i-preserved c =
    let inv = c.loop-i.invariant in
    let groups = c.args.new.now.groups in
    let table = inv.0 in
    let found = c.in_ok-found.found in
    let pushed = c.in_ok-push.ensures.items in
    let long = c.in_ok-push.ensures.len in
    let so_far = inv.1 in
    let more = c.loop-i-test.true in
    let many = c.len-i-end.ensures in (
      c.in_ok-found.ensures.table ∙ table,
      omega (arith, long, so_far),
      subst (λ (l : List (Option ℕ)). AreFoundBelow (length c.args.old.now.groups) l) (sym pushed)
          (one_found (length c.args.old.now.groups) found c.loop-i.olds.items
          (subst (λ (n : ℕ). IfSome found (λ at. at < n)) (ap (λ l. length l) table) c.in_ok-found.ensures.below) inv.2),
      λ before is. one_more before (queued_levels c.loop-i.unmatched.levels.items)
          (queued_levels c.open_group.new.self.levels.items) c.loop-i.olds.items c.push.new.self.items _ found groups
          c.loop-i.i (omega (arith, more, many)) pushed c.in_ok-found.ensures.found
          (c.in_ok-found.ensures.levels before (table ∙ is)) (inv.3 before is),
    )

pub returns-clause-olds : goal.returns-clause-olds
returns-clause-olds c = λ before after old new.
    let done = c.loop-i-test.false in
    let many = c.len-i-end.ensures in
    all_found before after c.args.new.now.groups c.loop-i.i (queued_levels c.loop-i.unmatched.levels.items)
    c.loop-i.olds.items new (omega (arith, done, many)) (c.loop-i.invariant.3 before old)
