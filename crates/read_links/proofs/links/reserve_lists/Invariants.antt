use Rattle.std.proofs.Common.{◌≡◌, ◌-◌, length, vec_len, vec_capacity}
use Rattle.indexmap.specs.IndexMap.{spare}
use Rattle.read_links.specs.Storage.{entry_links}
use Rattle.read_links.proofs.Spares.{FirstHaveSpare}
use Rattle.read_links.proofs.links.reserve_lists.Given as goal

abbrev pub invariant-loop-at : goal.invariant-loop-at
invariant-loop-at l =
    (entry_links (λ v. v.items) l.objects.entries ≡ entry_links (λ v. v.items) l.initial.objects.entries)
    × (spare l.objects ≡ spare l.initial.objects)
    × FirstHaveSpare (λ v. vec_capacity v - vec_len v) l.n l.at l.objects.entries

abbrev pub decreases-loop-at : goal.decreases-loop-at
decreases-loop-at l = length l.objects.entries - l.at
