-- The table that a frame changes stays the same.
use Rattle.std.proofs.Common.{◌≡◌, ◌≤◌, ◌<◌, ◌+◌, ◌∙◌, ℕ, List, length, ap, subst}
use Rattle.rt_groups.specs.declared.groups.Group.{Group as Listed}
use Rattle.rt_groups.specs.Frames.{most_groups}
use Rattle.composer.specs.WrittenGroups.{WrittenGroups, state_of, written_run}
use Rattle.composer.specs.QuietRuns.{group_run, with_run}
use Rattle.composer.specs.Recomposes.{FitsIn}

-- More groups for the same table.
pub fits_after : {olds : List Listed} {w w' : WrittenGroups} → w'.olds ≡ w.olds → FitsIn olds w
    → length w'.groups ≤ most_groups → FitsIn olds w'
fits_after e f few = record { few = few; same = e ∙ f.same }

-- A run of old groups is appended.
pub run_added : {olds : List Listed} {w w' : WrittenGroups} (i j : ℕ) (asked own : List ℕ)
    → w' ≡ written_run (group_run w.olds i j) w → FitsIn olds w
    → state_of w' asked own ≡ with_run (group_run olds i j) (state_of w asked own)
run_added {w = w} i j asked own e f = ap (λ (q : WrittenGroups). state_of q asked own) e
    ∙ ap (λ (gs : List Listed). with_run (group_run gs i j) (state_of w asked own)) f.same

pub run_is : {olds : List Listed} {w : WrittenGroups} (i j : ℕ) → FitsIn olds w
    → most_groups < length w.groups + length (group_run w.olds i j)
    → most_groups < length w.groups + length (group_run olds i j)
run_is {w = w} i j f lt =
    subst (λ (gs : List Listed). most_groups < length w.groups + length (group_run gs i j)) f.same lt
