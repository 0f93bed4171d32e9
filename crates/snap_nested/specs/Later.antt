-- Internal: a snapshot's first id is valid for no live snapshot with a lower name.
use Rattle.std.specs.Prelude.{◌≡◌, ℕ, ◌≤◌, true}
use Rattle.snap_nested.specs.Ids.{Ids}

-- If the first id of a name that has ids is valid for a live name, then the live name is that name or a later one.
pub record AreSeenLater (f : Ids) : Type 0 where
  pub by : (n m i : ℕ) → f.live m ≡ true → f.owns n i ≡ true → f.sees m (f.first n) ≡ true → n ≤ m
