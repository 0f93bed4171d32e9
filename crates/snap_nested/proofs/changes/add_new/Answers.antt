use Rattle.std.proofs.Common.{arith}
use Rattle.snap_nested.proofs.Kept.{none_new}
use Rattle.snap_nested.proofs.changes.add_new.Goals as goal

pub returns-then-from-handed : goal.returns-then-from-handed
returns-then-from-handed c = none_new c.args.members.now c.args.from c.args.handed c.args.all.now c.requires.sound
    (omega (arith, c.if-from-handed.true)) c.requires.rising
