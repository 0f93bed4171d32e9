use Rattle.std.proofs.Common.{arith}
use Rattle.node_tree.specs.Counting.{first_level}
use Rattle.node_tree.proofs.CountLevels.{take_less, steps_on}
use Rattle.node_tree.proofs.counts.sum_before.Goals as goal
use Rattle.node_tree.proofs.counts.sum_before.Goals.{then-at-eq1, else-at-eq1}

pub loop-level-init : goal.loop-level-init
loop-level-init c =
    let less = take_less (first_level c.args.levels.now) c.args.index in
    record {
      levels = c.requires.levels;
      sums = omega arith;
      inside = c.requires.inside;
      few = omega (arith, less, c.requires.few);
    }

pub loop-level-preserved : goal.loop-level-preserved
loop-level-preserved c =
    let step = steps_on c.loop-level.rest.now c.in-Some.above.now c.in-Some.level.now c.loop-level.at
    c.in-Some.ensures.cases.0 c.loop-level.invariant.levels c.loop-level.invariant.inside in
    record {
      levels = step.levels;
      sums = elim c.if-at-eq1.branch [
        | then-at-eq1 w ↦ omega (
          arith,
          step.odd w.if-at-eq1.true,
          w.before-is,
          w.get-before.ensures,
          c.loop-level.invariant.sums,
        )
        | else-at-eq1 w ↦ omega (arith, step.even w.if-at-eq1.false, w.before-is, c.loop-level.invariant.sums)
      ];
      inside = step.inside;
      few = c.loop-level.invariant.few;
    }
