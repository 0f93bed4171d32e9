use Rattle.std.proofs.Common.{◌≡◌, ◌<◌, refl, sym, ◌∙◌, ◌++◌, length, arith, eqb-true}
use Rattle.std.proofs.Common.{get_or}
use Rattle.node_tree.specs.Placing.{sets_since, children_since, ops_between}
use Rattle.node_tree.specs.SiblingLists.{index_in}
use Rattle.node_tree.specs.NodeTrees.{node_list}
use Rattle.node_tree.proofs.SameLevels.{along_begins, along_goes_on, along_ends, is_some}
use Rattle.node_tree.proofs.PlacedLevels.{completed_inside, listed, level_begins, level_ends, level_goes_on, old_children, inside_before, distinct_before, same_first, inside_all}
use Rattle.node_tree.proofs.JoinedPushes.{on_ok}
use Rattle.node_tree.proofs.placing.+place.Goals as goal

pub push_inner-returns : goal.push_inner-returns
push_inner-returns t c = λ before node children e f d distinct.
    let same = same_first c.args.new.now c.in-Some.inside.now node c.in-Some.node.now children f
    c.in-Some.ensures.cases.0 in
    let level = c.in_ok-push_level.ensures (old_children before) children
    (inside_before before c.args.old.now c.after_first.result.now e c.after_first.ensures) same.1
    (distinct_before before d) distinct in
    let all = inside_all before node c.in-Some.node.now children c.args.index c.args.ops.now c.push.new.self
    c.push_sets_since.new.ops c.push_level.new.ops same.0
    c.in_ok-push.ensures.ok (c.in_ok-push_sets_since.ensures before e) level in
    let inside = c.in_ok-end_inside.ensures c.args.ops.now
    (sets_since before node.attributes ++ ops_between (children_since before) children) c.args.index all
    (sym c.len-start.ensures) in
    on_ok c.push_completion.result _ _ (λ done. completed_inside before node c.in-Some.node.now children c.args.index
    c.args.ops.now c.end_inside.new.ops c.push_completion.new.ops _ same.0 inside done)
    (c.push_completion.ensures before children e)

pub push_other_level-loop-index-init : goal.push_other_level-loop-index-init
push_other_level-loop-index-init t c = λ o n e f d distinct.
    let old = c.in_ok-old_index.ensures ∙ listed o c.args.old.now c.deref.result.now
    c.in_ok-old_siblings.old_siblings.items e c.deref.ensures.value c.in_ok-old_siblings.ensures in
    let new = listed n c.args.new.now c.deref-2.result.now c.in_ok-new_siblings.new_siblings.items f
    c.deref-2.ensures.value c.in_ok-new_siblings.ensures in
    level_begins o n c.in_ok-old_index.old_index c.deref-2.result.now c.args.new.now c.args.ops.now
    c.push_child_calls.new.ops
    old new f d distinct c.in_ok-push_child_calls.ensures

pub push_other_level-loop-index-preserved : goal.push_other_level-loop-index-preserved
push_other_level-loop-index-preserved t c = λ o n e f d distinct.
    let old = c.in_ok-old_index.ensures ∙ listed o c.args.old.now c.deref.result.now
    c.in_ok-old_siblings.old_siblings.items e c.deref.ensures.value c.in_ok-old_siblings.ensures in
    let new = listed n c.args.new.now c.deref-sibling-items.result.now c.in_ok-new_siblings.new_siblings.items f
    c.deref-sibling-items.ensures.value c.in_ok-new_siblings.ensures in
    let s = get_or c.deref-sibling-items.result.now c.loop-index.index (record { number = 0; start = 0; end = 0 }) in
    level_goes_on o n c.in_ok-old_index.old_index c.deref-sibling-items.result.now
    (record { number = 0; start = 0; end = 0 }) (index_in s.number c.in_ok-old_index.old_index)
    c.args.old.now c.args.new.now c.old_part-before.result.now c.part_of_nodes-after.result.now c.loop-index.index
    c.loop-index.ops c.push_inner.new.ops _
    old new e f d distinct c.loop-index-test.true refl c.old_part-before.ensures c.part_of_nodes-after.ensures
    c.in_ok-push_inner.ensures (c.loop-index.invariant o n e f d distinct)

pub push_other_level-returns : goal.push_other_level-returns
push_other_level-returns t c = λ o n e f d distinct.
    let new = listed n c.args.new.now c.deref-sibling-items.result.now c.in_ok-new_siblings.new_siblings.items f
    c.deref-sibling-items.ensures.value c.in_ok-new_siblings.ensures in
    level_ends o n c.deref-sibling-items.result.now c.loop-index.index c.loop-index.ops _ new c.loop-index-test.false
    (c.loop-index.invariant o n e f d distinct)

pub push_same_level-loop-before-init : goal.push_same_level-loop-before-init
push_same_level-loop-before-init t c =
    (λ o n e f d g h. along_begins o n c.args.old.now c.args.new.now c.args.ops.now e f h, omega arith)

pub push_same_level-loop-before-preserved : goal.push_same_level-loop-before-preserved
push_same_level-loop-before-preserved t c =
    let some : 0 < length c.loop-before.after.now =
    is_some (length c.loop-before.after.now) (sym c.is_empty.ensures ∙ c.loop-before-test.true) in
    let short = c.after_first_sibling-after.ensures.short in
    let within = c.loop-before.invariant.1 in (
      λ o n e f d g h. along_goes_on o n c.loop-before.before.now c.loop-before.after.now
          c.after_first_sibling-before.result.now c.after_first_sibling-after.result.now c.first_sibling.result.now
          c.first_sibling-in-loop-before.result.now
          c.loop-before.index c.loop-before.ops c.push_inner.new.ops
          (c.args.ops.now ++ ops_between (node_list o) n) h d g some c.first_sibling.ensures.first
          c.first_sibling-in-loop-before.ensures.first c.after_first_sibling-before.ensures.rest
          c.after_first_sibling-after.ensures.rest c.in_ok-push_inner.ensures (c.loop-before.invariant.0 o n e f d g h),
      omega (arith, some, short, within),
    )

pub push_same_level-returns : goal.push_same_level-returns
push_same_level-returns t c = λ o n e f d g h.
    let none : length c.loop-before.after.now ≡ 0 =
    eqb-true (length c.loop-before.after.now) 0 (sym c.is_empty.ensures ∙ c.loop-before-test.false) in
    along_ends o n c.loop-before.before.now c.loop-before.after.now c.loop-before.index c.loop-before.ops
    (c.args.ops.now ++ ops_between (node_list o) n) (c.loop-before.invariant.0 o n e f d g h) none
