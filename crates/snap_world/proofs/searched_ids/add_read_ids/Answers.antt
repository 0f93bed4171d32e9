use Rattle.std.proofs.Common.{sym, ◌∙◌}
use Rattle.snap_world.proofs.searched_ids.add_read_ids.Goals as goal

pub returns-clause-needed : goal.returns-clause-needed
returns-clause-needed c = λ chain found i h.
    c.in_ok-add_live_ids.ensures.needed chain (found (sym c.live.ensures ∙ c.if-not-live.false)) i h
