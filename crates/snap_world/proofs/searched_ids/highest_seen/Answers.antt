use Rattle.std.proofs.Common.{subst, arith, ℕ}
use Rattle.snap_records.specs.Edits.{is_valid_except}
use Rattle.snap_world.specs.Sorted.{IsLastSeen}
use Rattle.snap_world.proofs.Searching.{highest_none, highest_last}
use Rattle.snap_world.proofs.searched_ids.highest_seen.Goals as goal

pub returns-then-at-eq0 : goal.returns-then-at-eq0
returns-then-at-eq0 c =
    let sees = is_valid_except c.args.own.now c.args.id c.args.invalid.now in
    highest_none sees c.args.ids.now
    (subst (λ (n : ℕ). IsLastSeen sees c.args.ids.now n) c.if-at-eq0.true c.last_seen-at.ensures)

pub returns : goal.returns
returns c = highest_last (is_valid_except c.args.own.now c.args.id c.args.invalid.now) c.args.ids.now
    c.last_seen-at.result c.requires c.last_seen-at.ensures (omega (arith, c.if-at-eq0.false))
