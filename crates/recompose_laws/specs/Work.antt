-- Trusted: the work that a frame owes, found by matching each new group with an old sibling.
use Rattle.std.specs.Prelude.{ℕ, suc, ◌+◌, List, [], ◌∷◌, ◌++◌, ◌≡◌, length, Bool, true, false, ◌&&◌, Option}
use Rattle.rt_groups.specs.GroupForest.{GroupForest, End, Read, Group, GroupKind, Call, Node, Key, Cell, joined_forest}
use Rattle.rt_groups.specs.Paths.{GroupKey, sibling, occurrence, Found, matching_sibling, inside_of}
use Rattle.rt_groups.specs.Frames.{runs_after, other_keys, ran, calculated_cells, reads}

-- Counts of the calls that run and the cells that are calculated, and the objects that are read, in order.
pub record Work : Type 0 where
  pub ran : ℕ
  pub calculated : ℕ
  pub reads : List ℕ

abbrev pub no_work : Work
no_work = record { ran = 0; calculated = 0; reads = [] }

-- The sum of two works, in order.
abbrev pub work_sum : Work → Work → Work
work_sum v w = record { ran = v.ran + w.ran; calculated = v.calculated + w.calculated; reads = v.reads ++ w.reads }

-- Adds one call to `w` if the flag is true.
abbrev pub with_call : Bool → Work → Work
with_call true w = record { ran = suc w.ran; calculated = w.calculated; reads = w.reads }
with_call false w = w

-- Adds one calculated cell to `w` if the flag is true.
abbrev pub with_cell : Bool → Work → Work
with_cell true w = record { ran = w.ran; calculated = suc w.calculated; reads = w.reads }
with_cell false w = w

-- Adds one read of `x` before those of `w` if the call around it runs.
abbrev pub with_read : Bool → ℕ → Work → Work
with_read true x w = record { ran = w.ran; calculated = w.calculated; reads = x ∷ w.reads }
with_read false x w = w

-- Whether the innermost call around the contents of a group runs: the group itself if it is a call, else the call
-- around it.
abbrev pub runs_in : List ℕ → Bool → Option Found → GroupKind → Bool
runs_in owed running old (Call f vs) = runs_after owed old (Call f vs)
runs_in owed running old _ = running

-- Adds the work at one group to the work `w` inside it.
abbrev pub work_at_group : Bool → Option Found → GroupKind → Work → Work
work_at_group running old (Call f vs) w = with_call running w
work_at_group running old (Node kind attributes) w = w
work_at_group running old (Key v) w = w
work_at_group running old (Cell ks v) w = with_cell (running && other_keys old ks) w

-- The work that a new group forest owes. `old` has the old siblings, `seen` the new siblings so far, and `running`
-- says whether the call around them runs.
abbrev pub work : List ℕ → GroupForest → List GroupKey → Bool → GroupForest → Work
work owed old seen running End = no_work
work owed old seen running (Read x rest) = with_read running x (work owed old seen running rest)
work owed old seen running (Group site n what inside rest) =
    let found = matching_sibling (sibling site what) (occurrence (sibling site what) seen) old in
    work_sum
    (work_at_group (runs_in owed running found what) found what
    (work owed (inside_of found) [] (runs_in owed running found what) inside))
    (work owed old (sibling site what ∷ seen) running rest)

-- Law: the work of a frame by paths is the work by siblings.
abbrev pub PathWorkIsSiblingWork : Type 0
PathWorkIsSiblingWork = (owed : List ℕ) (old new : GroupForest) →
    record {
      ran = length (ran owed old new);
      calculated = length (calculated_cells owed old new);
      reads = reads owed old new;
    }
    ≡ work owed old [] true new

-- The siblings at the top of a forest, last first, followed by `seen`.
abbrev pub siblings : GroupForest → List GroupKey → List GroupKey
siblings End seen = seen
siblings (Read x rest) seen = siblings rest seen
siblings (Group site n what inside rest) seen = siblings rest (sibling site what ∷ seen)

-- Law: the work of a concatenation is the work of `t`, then the work of `u` with the groups of `t` counted as earlier
-- siblings.
abbrev pub WorkGoesInOrder : Type 0
WorkGoesInOrder = (owed : List ℕ) (old : GroupForest) (seen : List GroupKey) (running : Bool) (t u : GroupForest) →
    (work owed old seen running (joined_forest t u)
    ≡ work_sum (work owed old seen running t) (work owed old (siblings t seen) running u))
    × (siblings (joined_forest t u) seen ≡ siblings u (siblings t seen))
