use Rattle.snap_world.proofs.Reading.{on_ok_more}
use Rattle.snap_world.proofs.kept_ids.add_read_ids.Goals as goal

pub returns-then-reader-eq0-clause-base : goal.returns-then-reader-eq0-clause-base
returns-then-reader-eq0-clause-base c = on_ok_more c.add_one_id.result (λ base live. base) c.add_one_id.ensures.base

pub returns-clause-needed : goal.returns-clause-needed
returns-clause-needed c = on_ok_more c.add_both_ids.result (λ needed i. needed c.args.name i c.if-reader-name.false)
    c.add_both_ids.ensures.needed
