use Rattle.std.proofs.Common.{◌≡◌, ◌≤◌, ◌++◌, ◌∷◌, [], ap, arith, length, refl}
use Rattle.std.proofs.lemmas.Bool.{false≢true}
use Rattle.node_tree.specs.Counting.{total, pairs}
use Rattle.node_tree.proofs.CountLevels.{pairs_shorter, levels_grow, first_stays, levels_done, pairs_few}
use Rattle.node_tree.proofs.counts.add_levels.Goals as goal

pub levels-smaller : goal.levels-smaller
levels-smaller c =
    let above : c.in_ok-above.above ≡ pairs c.levels.level = c.in_ok-above.ensures in
    let less = pairs_shorter c.levels.level (λ e. false≢true (c.levels-test.ensures.1 e)) in
    let e : length c.in_ok-above.above ≡ length (pairs c.levels.level) = ap length above in
    omega (arith, less, e)

pub levels-preserved : goal.levels-preserved
levels-preserved c =
    let above : c.in_ok-above.above ≡ pairs c.levels.level = c.in_ok-above.ensures in
    let pushed : c.push.new.self.items ≡ c.levels.levels.items ++ c.levels.level ∷ [] = c.in_ok-push.ensures.items in
    let few : total c.in_ok-above.above ≤ total c.levels.level =
    (let f = pairs_few c.levels.level in
    let e : total c.in_ok-above.above ≡ total (pairs c.levels.level) = ap total above in omega (arith, f, e)) in
    record {
      levels = λ ls are. levels_grow c.args.first c.levels.level c.in_ok-above.above c.levels.levels.items
          c.push.new.self.items pushed above c.levels.invariant.levels ls are;
      first = first_stays c.args.first c.levels.level c.in_ok-above.above c.levels.levels.items c.push.new.self.items
          pushed c.levels.invariant.first;
      few = omega (arith, few, c.levels.invariant.few);
    }

pub returns-clause-levels : goal.returns-clause-levels
returns-clause-levels c = (levels_done c.args.first c.levels.level c.levels.levels.items
    (c.levels-test.ensures.0 refl) c.levels.invariant.first c.levels.invariant.levels).0
