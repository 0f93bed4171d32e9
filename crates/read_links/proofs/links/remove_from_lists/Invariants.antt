use Rattle.std.proofs.Common.{◌≡◌, ℕ, ◌-◌, length, vec_len, vec_capacity}
use Rattle.indexmap.specs.IndexMap.{spare}
use Rattle.read_links.specs.LinkLists.{scopes_without}
use Rattle.read_links.specs.Storage.{entry_links, AllHaveSpare}
use Rattle.read_links.proofs.Entries.{mapped_first}
use Rattle.read_links.proofs.links.remove_from_lists.Given as goal

abbrev pub invariant-loop-at : goal.invariant-loop-at
invariant-loop-at l =
    (entry_links (λ v. v.items) l.objects.entries ≡ mapped_first (λ e. (e.0, scopes_without l.scope e.1)) l.at
    (entry_links (λ v. v.items) l.initial.objects.entries))
    × (spare l.objects ≡ spare l.initial.objects)
    × ((n : ℕ) → AllHaveSpare (λ e. vec_capacity e.1 - vec_len e.1) n l.initial.objects.entries
    → AllHaveSpare (λ e. vec_capacity e.1 - vec_len e.1) n l.objects.entries)

abbrev pub decreases-loop-at : goal.decreases-loop-at
decreases-loop-at l = length l.objects.entries - l.at
