-- Internal: The state of the composer, and what composing next to old groups does to it, group by group.
use Rattle.std.specs.Prelude.{ℕ, ◌+◌, List, [], ◌∷◌, ◌++◌, take, Bool, true, false, ◌&&◌, Option, None, if◌then◌else◌}
use Rattle.rt_values.specs.Maps.{Map}
use Rattle.rt_groups.specs.declared.groups.Group.{Group as FlatGroup}
use Rattle.rt_groups.specs.GroupForest.{GroupForest, End, Read, Group, GroupKind, Call, Node, Key, Cell, asks, own_part}
use Rattle.rt_groups.specs.Paths.{GroupKey, sibling, occurrence, Found, matching_sibling, inside_of}
use Rattle.rt_groups.specs.PreorderGroups.{flat_kind, flat_reads, flat_group}
use Rattle.rt_groups.specs.Frames.{other_keys, given_number}
use Rattle.lang_ast.specs.Terms.{Func}
use Rattle.compose_model.specs.Composing.{meanings, meaning_at}
use Rattle.recompose_laws.specs.Work.{runs_in}
use Rattle.recompose_laws.specs.Refreshing.{is_owed}

-- The new groups so far, the next unused node number, the counts of calls that ran and of cells that were calculated,
-- the objects that the view was asked for, and the own reads of the open call.
pub record ComposerState : Type 0 where
  pub groups : List FlatGroup
  pub next : ℕ
  pub ran : ℕ
  pub calculated : ℕ
  pub asked : List ℕ
  pub own : List ℕ

-- The state after a read of the open call. The view is asked only if the call runs.
abbrev pub read_in : Bool → ℕ → ComposerState → ComposerState
read_in true x s = record s { asked = s.asked ++ x ∷ []; own = s.own ++ x ∷ [] }
read_in false x s = record s { own = s.own ++ x ∷ [] }

-- The state with one more group, and another next unused number.
abbrev pub put_group : FlatGroup → ℕ → ComposerState → ComposerState
put_group g next s = record s { groups = s.groups ++ g ∷ []; next = next }

abbrev pub one_if : Bool → ℕ
one_if true = 1
one_if false = 0

-- The state in which a new group is counted: a call counts if it runs, and has no own reads yet. A cell counts if it is
-- calculated.
abbrev pub counted_group : Bool → Option Found → GroupKind → ComposerState → ComposerState
counted_group runs old (Call f vs) s = record s { ran = s.ran + one_if runs; own = [] }
counted_group runs old (Node kind attributes) s = s
counted_group runs old (Key v) s = s
counted_group runs old (Cell ks v) s = record s { calculated = s.calculated + one_if (runs && other_keys old ks) }

-- The state after a new group is opened, before the groups inside.
abbrev pub opened_group : ℕ → Bool → Option Found → ℕ → GroupKind → GroupForest → ComposerState → ComposerState
opened_group depth runs old site what inside s =
    counted_group runs old what (put_group (flat_group depth site (given_number what old s.next).0 (flat_kind what)
    (flat_reads what inside)) (given_number what old s.next).1 s)

-- The state `s` after a group is closed: after a call, the own reads are those from before the call.
abbrev pub closed_group : GroupKind → ComposerState → ComposerState → ComposerState
closed_group (Call f vs) before s = record s { own = before.own }
closed_group (Node kind attributes) before s = s
closed_group (Key v) before s = s
closed_group (Cell ks v) before s = s

-- The state after a new forest is composed at a depth next to the old siblings, where `seen` has the new siblings so
-- far, and `running` says whether the open call runs.
abbrev pub composed_beside : List ℕ → GroupForest → ℕ → Bool → List GroupKey → GroupForest → ComposerState
    → ComposerState
composed_beside owed old depth running seen End s = s
composed_beside owed old depth running seen (Read x rest) s =
    composed_beside owed old depth running seen rest (read_in running x s)
composed_beside owed old depth running seen (Group site n what inside rest) s =
    let found = matching_sibling (sibling site what) (occurrence (sibling site what) seen) old in
    let runs = runs_in owed running found what in
    composed_beside owed old depth running (sibling site what ∷ seen) rest
    (closed_group what s (composed_beside owed (inside_of found) (depth + 1) runs [] inside
    (opened_group depth runs found site what inside s)))

-- The state after a call runs next to the old groups inside, and makes the forest `new`.
abbrev pub run_beside : List ℕ → GroupForest → ℕ → ℕ → GroupKind → GroupForest → ComposerState → ComposerState
run_beside owed old depth site what new s =
    closed_group what s (composed_beside owed old (depth + 1) true [] new
    (opened_group depth true None site what new s))

-- The state after one old group is skipped: an owed call runs, and any other group is kept with its number. The
-- function `go` gives the state after the groups inside are skipped.
abbrev pub skipped_inside : Map → List ℕ → List Func → ℕ → ℕ → ℕ → GroupKind → Bool → GroupForest
    → (List Func → ℕ → ComposerState → ComposerState) → ComposerState → ComposerState
skipped_inside m owed functions depth site n (Call f vs) anew inside go s =
    if anew then run_beside owed inside depth site (Call f vs) (meaning_at (meanings m functions) f vs) s
    else go (take f functions) (depth + 1)
    (put_group (flat_group depth site 0 (flat_kind (Call f vs)) (asks (own_part inside))) s.next s)
skipped_inside m owed functions depth site n (Node kind attributes) anew inside go s =
    go functions (depth + 1) (put_group (flat_group depth site n (flat_kind (Node kind attributes)) []) s.next s)
skipped_inside m owed functions depth site n (Key v) anew inside go s =
    go functions (depth + 1) (put_group (flat_group depth site 0 (flat_kind (Key v)) []) s.next s)
skipped_inside m owed functions depth site n (Cell ks v) anew inside go s =
    go functions (depth + 1) (put_group (flat_group depth site 0 (flat_kind (Cell ks v)) []) s.next s)

-- The state after old groups are skipped, one after another.
abbrev pub skipped_groups : Map → List ℕ → GroupForest → List Func → ℕ → ComposerState → ComposerState
skipped_groups m owed End functions depth s = s
skipped_groups m owed (Read x rest) functions depth s = skipped_groups m owed rest functions depth s
skipped_groups m owed (Group site n what inside rest) functions depth s =
    skipped_groups m owed rest functions depth
    (skipped_inside m owed functions depth site n what (is_owed owed inside) inside (skipped_groups m owed inside)
    s)
