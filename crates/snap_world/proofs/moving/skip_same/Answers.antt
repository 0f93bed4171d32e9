use Rattle.std.proofs.Common.{◌∙◌, arith}
use Rattle.snap_world.proofs.SameStamps.{many_same}
use Rattle.snap_world.proofs.moving.skip_same.Goals as goal

pub loop-i-preserved : goal.loop-i-preserved
loop-i-preserved c = record {
  within = omega (arith, c.shorter_len-len.ensures.now, c.loop-i-test.true, c.if-len-i-ge16.true);
  above = omega (arith, c.loop-i.invariant.above);
  same = many_same c.args.before.now c.args.now.now c.loop-i.i 16 (c.are_same.ensures c.if-are_same.true)
      ∙ c.loop-i.invariant.same;
}
