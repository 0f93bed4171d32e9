use Rattle.std.proofs.Common.{◌≡◌, ◌≤◌, ◌-◌, length, vec_len, vec_capacity}
use Rattle.read_links.specs.Storage.{AllHaveSpare}
use Rattle.read_links.proofs.lists.fill_pool.Given as goal

abbrev pub invariant-loop-alloc : goal.invariant-loop-alloc
invariant-loop-alloc l =
    (AllHaveSpare (λ v. vec_capacity v - vec_len v) 1 l.initial.pool.items
    → AllHaveSpare (λ v. vec_capacity v - vec_len v) 1 l.pool.items)
    × (l.n ≤ length l.initial.pool.items → l.pool ≡ l.initial.pool)

abbrev pub decreases-loop-alloc : goal.decreases-loop-alloc
decreases-loop-alloc l = l.n - length l.pool.items
