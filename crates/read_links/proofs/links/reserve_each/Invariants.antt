use Rattle.std.proofs.Common.{◌≡◌, ℕ, ◌≤◌, ◌<◌, ◌+◌, ◌-◌, drop, get_or, vec_len, vec_capacity}
use Rattle.indexmap.specs.IndexMap.{spare}
use Rattle.read_links.specs.Storage.{entry_links, AllHaveSpare, IsReady, count_new}
use Rattle.read_links.proofs.links.reserve_each.Given as goal

abbrev pub invariant-loop-object : goal.invariant-loop-object
invariant-loop-object l =
    (entry_links (λ v. v.items) l.objects.entries ≡ entry_links (λ v. v.items) l.initial.objects.entries)
    × (spare l.objects ≡ spare l.initial.objects)
    × (l.fresh + count_new (drop l.object-index l.deps) l.objects.entries ≡ count_new l.deps l.objects.entries)
    × (l.fresh ≤ l.object-index)
    × ((s k : ℕ) → k < l.object-index
    → IsReady (λ v. v.items) (λ v. vec_capacity v - vec_len v) s l.objects.entries (get_or l.deps k 0))
    × ((n : ℕ) → AllHaveSpare (λ e. vec_capacity e.1 - vec_len e.1) n l.initial.objects.entries
    → AllHaveSpare (λ e. vec_capacity e.1 - vec_len e.1) n l.objects.entries)
