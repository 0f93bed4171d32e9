use Rattle.std.proofs.Common.{◌≤◌, ◌<◌, length, arith, ap, sym, subst, ◌∙◌}
use Rattle.read_links.specs.LinkLists.{scopes_without}
use Rattle.read_links.proofs.Removals.{FirstAreOthers, removed_scope, next_is_other, others_stay, all_are_others, is_scope, is_other}
use Rattle.read_links.proofs.lists.remove_scope.Goals as goal

pub loop-at-preserved-then-index-scope : goal.loop-at-preserved-then-index-scope
loop-at-preserved-then-index-scope c =
    let len = c.len.ensures in
    let test = c.loop-at-test.true in
    let whole = c.loop-at.scopes.ok.0 in
    let inside : c.loop-at.at < length c.loop-at.scopes.items = omega (arith, len, test, whole) in
    let shorter = c.remove.ensures.len in
    let capacity = c.remove.ensures.capacity in
    let before = c.loop-at.invariant in
    let items = c.remove.ensures.items in (
      ap (scopes_without c.args.scope) items
          ∙ removed_scope c.args.scope c.loop-at.scopes.items c.loop-at.at c.index.result.now inside
          (is_scope c.args.scope c.index.result.now _ c.index.ensures c.if-index-scope.true) ∙ before.0,
      subst (λ l. FirstAreOthers c.args.scope c.loop-at.at l) (sym items)
          (others_stay c.args.scope c.loop-at.scopes.items c.loop-at.at inside before.1),
      capacity ∙ before.2,
      let less = before.3 in omega (arith, shorter, less),
    )

pub loop-at-preserved : goal.loop-at-preserved
loop-at-preserved c =
    let len = c.len.ensures in
    let test = c.loop-at-test.true in
    let whole = c.loop-at.scopes.ok.0 in
    let inside : c.loop-at.at < length c.loop-at.scopes.items = omega (arith, len, test, whole) in
    let before = c.loop-at.invariant in (
      before.0,
      next_is_other c.args.scope c.loop-at.scopes.items c.loop-at.at c.index.result.now inside
          (is_other c.args.scope c.index.result.now _ c.index.ensures c.if-index-scope.false) before.1,
      before.2,
      before.3,
    )

pub returns-clause-items : goal.returns-clause-items
returns-clause-items c =
    let len = c.len.ensures in
    let test = c.loop-at-test.false in
    let whole = c.loop-at.scopes.ok.0 in
    let beyond : length c.loop-at.scopes.items ≤ c.loop-at.at = omega (arith, len, test, whole) in
    all_are_others c.args.scope c.loop-at.scopes.items c.loop-at.at beyond c.loop-at.invariant.1 ∙ c.loop-at.invariant.0
