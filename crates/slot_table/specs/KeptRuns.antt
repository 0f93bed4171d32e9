-- Internal: the groups of a new frame as runs of old groups and new groups. No public clause cites this module.
use Rattle.std.specs.Prelude.{ℕ, ◌+◌, ◌-◌, ◌≡◌, ◌≤◌, ◌<◌, List, [], ◌∷◌, ◌++◌, length, take, drop, slice_set, slice_index_or}
use Rattle.rt_groups.specs.declared.groups.Group.{Group}
use Rattle.slot_table.specs.TableGroups.{group_at}
use Rattle.slot_table.specs.ChangeLists.{nodes_in}
use Rattle.slot_table.specs.declared.runs.KeptRun.{KeptRun}
use Rattle.slot_table.specs.declared.runs.Exchange.{Exchange}
use Rattle.gap_buffer.specs.Buffer.{exchanged_list}

-- The old groups of a run, or their heads or slots.
abbrev pub run_groups : {X : Type 0} → List X → KeptRun → List X
run_groups olds r = take (r.to - r.from) (drop r.from olds)

-- The groups of the new frame, or their heads or slots: before each run its number of new groups, then the old groups
-- of the run, and after the last run the other new groups.
abbrev pub patched : {X : Type 0} → List X → List X → List KeptRun → List X
patched olds fresh [] = fresh
patched olds fresh (r ∷ rs) = take r.gap fresh ++ (run_groups olds r ++ patched olds (drop r.gap fresh) rs)

-- The number of new groups before the last run and the earlier runs.
abbrev pub gaps : List KeptRun → ℕ
gaps [] = 0
gaps (r ∷ rs) = r.gap + gaps rs

-- Each run is inside the old groups.
abbrev pub AreInside : {X : Type 0} → List X → List KeptRun → Type 0
AreInside olds [] = Unit {0}
AreInside olds (r ∷ rs) = (r.from ≤ r.to) × (r.to ≤ length olds) × AreInside olds rs

-- Each run has the same indexes in the new frame, if this number of groups is before the runs.
abbrev pub HaveOwnIndexes : ℕ → List KeptRun → Type 0
HaveOwnIndexes at [] = Unit {0}
HaveOwnIndexes at (r ∷ rs) = (r.from ≡ at + r.gap) × HaveOwnIndexes r.to rs

-- No kept group moves to a later index, and the runs are in the order of the old groups. There are `at` groups of the
-- new frame before the runs, and the runs are after the first `past` old groups.
abbrev pub MoveDown : ℕ → ℕ → List KeptRun → Type 0
MoveDown at past [] = Unit {0}
MoveDown at past (r ∷ rs) =
    (past ≤ r.from) × (at + r.gap ≤ r.from) × MoveDown (at + r.gap + (r.to - r.from)) r.to rs

-- The old groups become the groups of the new frame by moving kept groups to earlier indexes only. There are `len`
-- groups in the new frame, and no more than before.
pub record IsShrunk {X : Type 0} (olds fresh : List X) (rs : List KeptRun) (len : ℕ) : Type 0 where
  pub inside : AreInside olds rs
  pub gaps_fit : gaps rs ≤ length fresh
  pub down : MoveDown 0 0 rs
  pub len_is : len ≡ length (patched olds fresh rs)
  pub fewer : len ≤ length olds

-- The groups, or their heads or slots, after the exchange.
abbrev pub after_exchange : {X : Type 0} → Exchange → List X → List X
after_exchange e xs = exchanged_list e.from e.middle e.to xs

-- Both blocks of the exchange are inside the list, and neither is empty.
pub record HasBlocks {X : Type 0} (xs : List X) (e : Exchange) : Type 0 where
  pub low : e.from < e.middle
  pub high : e.middle < e.to
  pub inside : e.to ≤ length xs

-- In the new frame, the two blocks of the exchange are runs that follow each other, the second block first. Each other
-- run has the same indexes in the new frame, if this number of groups is before the runs.
pub record AreExchanged (at : ℕ) (rs : List KeptRun) (e : Exchange) : Type 0 where
  pub first : List KeptRun
  pub gap : ℕ
  pub later : List KeptRun
  pub runs_are : rs ≡ first ++ record { gap = gap; from = e.middle; to = e.to }
      ∷ record { gap = 0; from = e.from; to = e.middle } ∷ later
  pub own : HaveOwnIndexes at (first ++ record { gap = gap; from = e.from; to = e.to } ∷ later)
  pub low : e.from < e.middle
  pub high : e.middle < e.to

-- No new group is at a place inside the blocks of the exchange.
abbrev pub AreOutside : Exchange → List ℕ → Type 0
AreOutside e [] = Unit {0}
AreOutside e (p ∷ ps) = (e.from ≤ p → e.to ≤ p) × AreOutside e ps

-- Each of `n` new groups is at its place in the new frame, whatever the new groups are.
abbrev pub ArePlaces : List Group → List KeptRun → ℕ → List ℕ → Type 0
ArePlaces olds rs n places = (fresh : List Group) (i : ℕ) (g : Group) → length fresh ≡ n → i < n
    → (slice_index_or places i 0 < length (patched olds fresh rs))
    × (patched olds (slice_set fresh i g) rs ≡ slice_set (patched olds fresh rs) (slice_index_or places i 0) g)

-- The places are in increasing order. Each is at least its index in the list, and exceeds it by at most `kept`.
pub record AreOrdered (kept : ℕ) (places : List ℕ) : Type 0 where
  pub ascend : (i j : ℕ) → i < j → j < length places → slice_index_or places i 0 < slice_index_or places j 0
  pub low : (i : ℕ) → i < length places → i ≤ slice_index_or places i 0
  pub high : (i : ℕ) → i < length places → slice_index_or places i 0 ≤ i + kept

-- What a writer keeps: the places of its new groups, the number of new groups before the last run, and the numbers of
-- groups and of nodes.
pub record IsWritten (olds fresh : List Group) (rs : List KeptRun) (ps : List ℕ) (before len nodes : ℕ) : Type 0 where
  pub inside : AreInside olds rs
  pub gaps_are : before ≡ gaps rs
  pub fits : before ≤ length fresh
  pub long : length ps ≡ length fresh
  pub placed : ArePlaces olds rs (length fresh) ps
  pub ordered : AreOrdered (len - length fresh) ps
  pub fewer : length fresh ≤ len
  pub len_is : len ≡ length (patched olds fresh rs)
  pub nodes_are : nodes ≡ nodes_in (patched olds fresh rs)

-- The runs after a run is added after `gap` new groups.
pub record IsRunAdded (olds : List Group) (old new : List KeptRun) (gap from to : ℕ) : Type 0 where
  pub inside : AreInside olds new
  pub gaps_are : gaps new ≡ gaps old + gap
  pub groups_are : (fresh : List Group) → gaps old + gap ≡ length fresh
      → patched olds fresh new ≡ patched olds fresh old ++ take (to - from) (drop from olds)

-- The groups with the new groups at these places.
abbrev pub set_all : List Group → List ℕ → List Group → List Group
set_all olds [] gs = olds
set_all olds (p ∷ ps) [] = olds
set_all olds (p ∷ ps) (g ∷ gs) = slice_set (set_all olds ps gs) p g

-- The place of each new group is that of an old group of the same depth.
abbrev pub KeepDepths : List Group → List ℕ → List Group → Type 0
KeepDepths olds places fresh = (i : ℕ) → i < length fresh → (slice_index_or places i 0 < length olds)
    × ((group_at fresh i).depth ≡ (group_at olds (slice_index_or places i 0)).depth)
