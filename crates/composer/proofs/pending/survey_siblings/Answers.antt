use Rattle.std.proofs.Common.{arith}
use Rattle.composer.proofs.SkipLoops.{index_grows}
use Rattle.composer.proofs.pending.survey_siblings.Goals as goal

pub loop-at-smaller : goal.loop-at-smaller
loop-at-smaller c =
    let more = c.loop-at-test.true in
    let len = c.len.ensures in
    index_grows c.args.table.now.groups c.loop-at.at c.index_after-at.result (omega (arith, more, len))
    c.index_after-at.ensures.after c.index_after-at.ensures.inside
