use Rattle.std.proofs.Common.{arith}
use Rattle.std.proofs.lemmas.List.{take_rest}
use Rattle.std.proofs.lemmas.Grind.{common_steps}
use Rattle.std.proofs.Math.Seq.{take-add}
use Rattle.std.proofs.KnownBytes.{Appends-trans}
use Rattle.rt_streams.proofs.Parts.{part-take, appends-kept, appends-nothing}
use Rattle.rt_streams.proofs.sink.write_all.Goals as goal

pub loop-done-preserved : goal.loop-done-preserved
loop-done-preserved g c =
    record {
      within = grind (arith, common_steps, c.in-Ok.ensures.bound);
      bytes = rw (take-add, ← take_rest c.args.bytes.now c.loop-done.done)
          (Appends-trans _ _ _ _ _ c.loop-done.invariant.bytes c.in-Ok.ensures.bytes);
      clean = grind (arith, c.in-Ok.ensures.clean);
      later = grind (arith, c.write.ensures.cause.later);
    }

pub returns-in_default-clause-part : goal.returns-in_default-clause-part
returns-in_default-clause-part g c =
    part-take _ _ c.loop-done.done c.args.bytes.now
    (appends-kept _ _ _ _ c.loop-done.invariant.bytes c.in_default.ensures.err)

pub returns-then-count-eq0-clause-part : goal.returns-then-count-eq0-clause-part
returns-then-count-eq0-clause-part g c =
    part-take _ _ c.loop-done.done c.args.bytes.now
    (appends-nothing _ _ _ _ c.loop-done.invariant.bytes (rw c.if-count-eq0.true at c.in-Ok.ensures.bytes))
