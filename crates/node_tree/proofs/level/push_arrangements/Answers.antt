use Rattle.std.proofs.Common.{ℕ, ◌++◌, List, drop, Option, refl, ap, get_or}
use Rattle.std.proofs.lemmas.List.{drop_more, drop_all}
use Rattle.node_tree.specs.declared.siblings.Sibling.{Sibling}
use Rattle.node_tree.specs.SiblingLists.{index_in, arrange_at}
use Rattle.node_tree.proofs.JoinedPushes.{arranged_more, arranges_all}
use Rattle.node_tree.proofs.level.push_arrangements.Goals as goal

none : Sibling
none = record { number = 0; start = 0; end = 0 }

pub loop-index-preserved : goal.loop-index-preserved
unfolding none
loop-index-preserved c = λ find same before calls e f.
    arranged_more find c.args.old.now c.args.siblings.now c.loop-index.index c.args.start c.loop-index.counts
    c.take_left-distance.new.counts c.args.new.now (get_or c.args.siblings.now c.loop-index.index none)
    c.take_left-distance.result before
    (calls ++ arrange_at 0 find c.args.counts c.args.new.now c.args.siblings.now) c.loop-index.ops
    c.push_arrangement.new.ops same (c.loop-index.invariant find same before calls e f)
    (drop_more c.args.siblings.now c.loop-index.index none c.loop-index-test.true)
    c.take_left-distance.ensures.distance c.take_left-distance.ensures.counts c.in_ok-push_arrangement.ensures f

pub returns : goal.returns
returns c = λ before calls e f.
    let find : ℕ → Option ℕ = λ number. index_in number c.args.old.now in
    arranges_all before (calls ++ arrange_at 0 find c.args.counts c.args.new.now c.args.siblings.now) c.loop-index.ops
    (arrange_at c.loop-index.index find c.loop-index.counts c.args.new.now
    (drop c.loop-index.index c.args.siblings.now))
    (c.loop-index.invariant find (λ n. refl) before calls e f)
    (ap (λ (l : List Sibling). arrange_at c.loop-index.index find c.loop-index.counts c.args.new.now l)
    (drop_all c.loop-index.index c.args.siblings.now c.loop-index-test.false))
