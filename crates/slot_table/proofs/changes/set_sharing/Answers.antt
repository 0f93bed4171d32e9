use Rattle.std.proofs.Common.{length, arith, ap, ◌-◌, drop}
use Rattle.slot_table.proofs.ChangesInPlace.{long_set_all}
use Rattle.slot_table.proofs.changes.set_sharing.Goals as goal

pub set_sharing-requires-clause-place : goal.set_sharing-requires-clause-place
set_sharing-requires-clause-place c =
    let at = c.loop-i.invariant.0 in
    let some = c.loop-i-test.true in
    let inside = (c.requires.depths (c.loop-i.i - 1) (omega (arith, at, some))).0 in
    let same = ap (λ l. length l) c.loop-i.invariant.1 in
    let long = long_set_all c.args.groups.now (drop c.loop-i.i c.args.places.now) (drop c.loop-i.i c.args.fresh.now) in
    omega (arith, inside, same, long)
