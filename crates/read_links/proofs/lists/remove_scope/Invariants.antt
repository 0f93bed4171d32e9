use Rattle.std.proofs.Common.{◌≡◌, ◌≤◌, ◌-◌, length, vec_len, vec_capacity}
use Rattle.read_links.specs.LinkLists.{scopes_without}
use Rattle.read_links.proofs.Removals.{FirstAreOthers}
use Rattle.read_links.proofs.lists.remove_scope.Given as goal

abbrev pub invariant-loop-at : goal.invariant-loop-at
invariant-loop-at l =
    (scopes_without l.scope l.scopes.items ≡ scopes_without l.scope l.initial.scopes.items)
    × FirstAreOthers l.scope l.at l.scopes.items
    × (vec_capacity l.scopes ≡ vec_capacity l.initial.scopes) × (vec_len l.scopes ≤ vec_len l.initial.scopes)

abbrev pub decreases-loop-at : goal.decreases-loop-at
decreases-loop-at l = length l.scopes.items - l.at
