use Rattle.group_keys.proofs.Matched.{match_next}
use Rattle.group_keys.proofs.matching.matches.Goals as goal

pub loop-at-preserved : goal.loop-at-preserved
loop-at-preserved c = match_next c.args.old.now c.args.new.now _ _ c.loop-at.all.items _ c.loop-at.at
    c.index-new-at.result c.take.result c.loop-at-test.true c.index-new-at.is c.take.ensures.found c.take.ensures.left
    c.in_ok-push.ensures.items c.loop-at.invariant
