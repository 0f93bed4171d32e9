use Rattle.std.proofs.Common.{◌≡◌, refl, Some}
use Rattle.rt_values.specs.Maps.{Map}
use Rattle.recomposer.specs.Compositions.{IsAt}
use Rattle.tests_play.proofs.KnownTrees.{follows_last, changed_one, may_call, after_frame}
use Rattle.tests_play.proofs.faults.frame_with.Goals as goal

pub recompose_counting-requires-clause-tree : goal.recompose_counting-requires-clause-tree
recompose_counting-requires-clause-tree g c =
    let before = c.requires in
    let m = c.in_ok-view.view.map in
    let one = c.in_ok-view.ensures in
    let at = c.note.ensures.noted before.kept before.last m before.is_at
    (follows_last c.args.stamp before.last m before.earlier one)
    (changed_one c.args.stamp before.last m before.earlier one) in
    may_call (g.A.Applier.tree c.args.applier.now) (λ k. (n : Map) × IsAt c.note.new.self k (Some n) × (m ≡ n))
    before.kept (m, at, refl) before.mirrors

pub returns : goal.returns
returns g c =
    let before = c.requires in
    let m = c.in_ok-view.view.map in
    let one = c.in_ok-view.ensures in
    let at = c.note.ensures.noted before.kept before.last m before.is_at
    (follows_last c.args.stamp before.last m before.earlier one)
    (changed_one c.args.stamp before.last m before.earlier one) in
    after_frame g.A.Applier.tree g.A.Applier.faults c.args.applier.now c.recompose_counting.new.applier
    c.note.new.self c.recompose_counting.new.composition c.args.stamp m c.recompose_counting.result before.kept at one
    before.mirrors c.recompose_counting.ensures.frame c.recompose_counting.ensures.applier
