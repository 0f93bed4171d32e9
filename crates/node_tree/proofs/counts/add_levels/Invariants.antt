use Rattle.std.proofs.Common.{◌≡◌, ◌<◌, ◌^◌, ℕ, List, ◌++◌, ◌∷◌, [], length}
use Rattle.node_tree.specs.Counting.{total, AreLevels, first_level}
use Rattle.node_tree.proofs.counts.add_levels.Given as goal

abbrev pub invariant-levels : goal.invariant-levels
invariant-levels l = record {
  levels : (ls : List (List ℕ)) → AreLevels l.level ls → AreLevels l.fn.first (l.levels.items ++ ls);
  first : first_level (l.levels.items ++ l.level ∷ []) ≡ l.fn.first;
  few : total l.level < 2 ^ 63;
}

abbrev pub decreases-levels : goal.decreases-levels
decreases-levels l = length l.level
