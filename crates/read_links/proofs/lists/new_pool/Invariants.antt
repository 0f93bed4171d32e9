use Rattle.std.proofs.Common.{◌≡◌, ◌≤◌, ◌-◌, length, vec_len, vec_capacity}
use Rattle.read_links.specs.Storage.{AllHaveSpare}
use Rattle.read_links.proofs.lists.new_pool.Given as goal

abbrev pub invariant-loop-at : goal.invariant-loop-at
invariant-loop-at l = (length l.pool.items ≡ l.at) × (l.at ≤ l.n)
    × AllHaveSpare (λ v. vec_capacity v - vec_len v) l.n l.pool.items

abbrev pub decreases-loop-at : goal.decreases-loop-at
decreases-loop-at l = l.n - l.at
