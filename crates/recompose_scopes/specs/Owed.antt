-- Trusted: the calls that are owed when objects change.
use Rattle.std.specs.Prelude.{ℕ, ◌≡◌, List, true}
use Rattle.rt_values.specs.Maps.{contains}
use Rattle.rt_groups.specs.Frames.{meets}
use Rattle.recompose_scopes.specs.Scopes.{reads_at}

-- The list `places` contains exactly the indexes of the groups whose own reads contain one of the objects.
pub record IsOwedList (reads : List (List ℕ)) (objects places : List ℕ) : Type 0 where
  pub all : (i : ℕ) → meets (reads_at reads i) objects ≡ true → contains i places ≡ true
  pub only : (i : ℕ) → contains i places ≡ true → meets (reads_at reads i) objects ≡ true
