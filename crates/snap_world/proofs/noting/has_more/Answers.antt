use Rattle.std.proofs.Common.{◌+◌, List, ◌∷◌, drop, sym, ap, ◌∙◌}
use Rattle.std.proofs.lemmas.List.{at_drop_more}
use Rattle.snap_world.specs.Choices.{with_taken}
use Rattle.snap_world.specs.declared.settling.Settled.{Settled}
use Rattle.snap_world.proofs.Settled.{skip_taken}
use Rattle.snap_world.proofs.noting.has_more.Goals as goal

pub loop-s-preserved : goal.loop-s-preserved
loop-s-preserved c =
    let xs = c.args.settled.now in
    let at = c.loop-s.s-index in
    let s : Settled = c.s-item.result in
    sym (skip_taken s (drop (at + 1) xs) c.args.noted.now (sym c.is_more.ensures ∙ c.if-is_more.false))
    ∙ ap (λ (t : Settled). with_taken (t ∷ drop (at + 1) xs) c.args.noted.now) c.s-item.is
    ∙ sym (at_drop_more (λ (l : List Settled). with_taken l c.args.noted.now) xs at s c.loop-s-test.true)
    ∙ c.loop-s.invariant
