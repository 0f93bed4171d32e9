use Rattle.std.proofs.Common.{◌≡◌, ◌≤◌, ◌<◌, ◌+◌, ◌-◌, drop, length, vec_len, vec_capacity}
use Rattle.indexmap.specs.IndexMap.{spare}
use Rattle.read_links.specs.LinkLists.{links_with_all}
use Rattle.read_links.specs.Storage.{entry_links, links_spare, AllHaveSpare, HasRoomFor}
use Rattle.read_links.proofs.links.put_each.Given as goal

abbrev pub invariant-loop-object : goal.invariant-loop-object
invariant-loop-object l =
    (links_with_all l.scope (drop l.object-index l.deps) (entry_links (λ v. v.items) l.objects.entries)
    ≡ links_with_all l.scope l.deps (entry_links (λ v. v.items) l.initial.objects.entries))
    × (l.object-index ≡ 0
    → entry_links (λ v. v.items) l.objects.entries ≡ entry_links (λ v. v.items) l.initial.objects.entries)
    × (links_spare (λ v. vec_capacity v - vec_len v) (spare l.initial.objects) l.initial.objects.entries
    l.initial.pool.items
    ≤ links_spare (λ v. vec_capacity v - vec_len v) (spare l.objects) l.objects.entries l.pool.items + l.object-index)
    × (1 < length l.deps → HasRoomFor (λ v. v.items) (λ v. vec_capacity v - vec_len v) l.scope
    (drop l.object-index l.deps) (spare l.objects) l.objects.entries l.pool.items)
    × (AllHaveSpare (λ v. vec_capacity v - vec_len v) 1 l.initial.pool.items
    → AllHaveSpare (λ v. vec_capacity v - vec_len v) 1 l.pool.items)
