-- Trusted: why each call of a frame runs, and what a frame did to each group, from the forest of the last good frame and
-- the new one.
use Rattle.std.specs.Prelude.{ℕ, List, [], ◌∷◌, ◌++◌, map, Bool, true, false, ◌&&◌, Option, Some, None, if◌then◌else◌}
use Rattle.std.specs.List.{filter}
use Rattle.rt_values.specs.declared.value.Value.{Value}
use Rattle.rt_values.specs.Maps.{contains}
use Rattle.rt_groups.specs.GroupForest.{GroupForest, End, Group, GroupKind, Call, Node, Key, Cell, asks, own_part}
use Rattle.rt_groups.specs.GroupForest as trail
use Rattle.rt_groups.specs.Paths.{Path, GroupKey, sibling, step, Found, at_path}
use Rattle.run_causes.specs.declared.causes.Cause.{Cause}
use Rattle.run_causes.specs.declared.causes.Cause.TheVariants.{NewPath, OtherArguments, Read, Skipped}
use Rattle.run_causes.specs.declared.causes.Mark.{Mark}
use Rattle.run_causes.specs.declared.causes.Mark.TheVariants as mark
use Rattle.rt_groups.specs.Frames.{CallAtPath, nobody, innermost_call, calls, same_call, call_runs, other_keys}

-- The arguments of a call. Other groups have none.
abbrev pub arguments_of : GroupKind → List Value
arguments_of (Call f vs) = vs
arguments_of _ = []

-- The cause of a call with its old arguments, which read these owed objects.
abbrev pub read_or_skipped : List ℕ → Cause
read_or_skipped [] = Skipped
read_or_skipped (x ∷ xs) = Read (x ∷ xs)

-- The owed objects among some reads.
abbrev pub owed_among : List ℕ → List ℕ → List ℕ
owed_among owed reads = filter (λ x. contains x reads) owed

-- Why a call counts as run, or that it does not. The first cause that holds counts: its path is new; the old call has
-- other arguments, which the cause names; the old own reads contain owed objects, which it names in ascending order.
-- `Cause` is the declared type of `src/causes.rt`.
abbrev pub cause_after : List ℕ → Option Found → GroupKind → Cause
cause_after owed None what = NewPath
cause_after owed (Some old) what =
    if same_call old.what what then read_or_skipped (owed_among owed (asks (own_part old.inside)))
    else OtherArguments (arguments_of old.what)

-- The cause of a call of the new forest.
abbrev pub cause_of : List ℕ → GroupForest → CallAtPath → Cause
cause_of owed old call = cause_after owed (at_path call.path old) call.what

-- The causes of the calls of a frame, in preorder over the new forest.
abbrev pub causes : List ℕ → GroupForest → GroupForest → List Cause
causes owed old new = map (cause_of owed old) (calls [] [] new)

-- Whether the call runs.
abbrev pub is_run : Cause → Bool
is_run NewPath = true
is_run (OtherArguments vs) = true
is_run (Read xs) = true
is_run Skipped = false

-- What a frame did to a group: why a call ran or that it did not, and whether the value of a cell was calculated.
-- `Mark` is the declared type of `src/causes.rt`.
abbrev pub mark_at : List ℕ → GroupForest → CallAtPath → Path → GroupKind → Mark
mark_at owed old caller path (Call f vs) = mark.Call (cause_after owed (at_path path old) (Call f vs))
mark_at owed old caller path (Node k as_) = mark.Other
mark_at owed old caller path (Key v) = mark.Other
mark_at owed old caller path (Cell ks v) = mark.Cell (call_runs owed old caller && other_keys (at_path path old) ks)

-- The marks of the groups of a forest in preorder.
abbrev pub marks_from : List ℕ → GroupForest → CallAtPath → Path → List GroupKey → GroupForest → List Mark
marks_from owed old caller here seen End = []
marks_from owed old caller here seen (trail.Read x rest) = marks_from owed old caller here seen rest
marks_from owed old caller here seen (Group site number what inside rest) =
    let path = here ++ step site what seen ∷ [] in
    mark_at owed old caller path what
    ∷ (marks_from owed old (innermost_call caller path what) path [] inside
    ++ marks_from owed old caller here (sibling site what ∷ seen) rest)

-- The marks of a frame.
abbrev pub marks : List ℕ → GroupForest → GroupForest → List Mark
marks owed old new = marks_from owed old nobody [] [] new
