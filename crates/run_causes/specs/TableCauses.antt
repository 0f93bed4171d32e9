-- Internal: causes and marks in terms of the groups of a slot table.
use Rattle.std.specs.Prelude.{ℕ, ◌+◌, ◌-◌, List, [], ◌∷◌, ◌++◌, length, take, slice_index_or, Bool, true, not, ◌&&◌, ◌==◌, false, Option, Some, None, if◌then◌else◌}
use Rattle.rt_values.specs.declared.value.Value.{Value}
use Rattle.rt_values.specs.Values.{same_values}
use Rattle.rt_groups.specs.declared.groups.Group.{Group}
use Rattle.rt_groups.specs.declared.groups.GroupKind.{GroupKind}
use Rattle.rt_groups.specs.declared.groups.GroupKind.TheVariants as what
use Rattle.slot_table.specs.TableGroups.{group_at}
use Rattle.run_causes.specs.declared.causes.Cause.{Cause}
use Rattle.run_causes.specs.declared.causes.Cause.TheVariants.{NewPath, OtherArguments}
use Rattle.run_causes.specs.declared.causes.Mark.{Mark}
use Rattle.run_causes.specs.declared.causes.Mark.TheVariants as mark
use Rattle.run_causes.specs.Causes.{read_or_skipped, owed_among, is_run}

-- The cause of a call of f with the arguments vs whose old group has this kind and these reads.
abbrev pub call_cause : List ℕ → GroupKind → List ℕ → ℕ → List Value → Cause
call_cause owed (what.Call g ws) reads f vs =
    if (g == f) && same_values ws vs then read_or_skipped (owed_among owed reads) else OtherArguments ws
call_cause owed _ reads f vs = OtherArguments []

abbrev pub found_cause : List ℕ → List Group → Option ℕ → ℕ → List Value → Cause
found_cause owed olds None f vs = NewPath
found_cause owed olds (Some i) f vs = call_cause owed (group_at olds i).what (group_at olds i).reads f vs

abbrev pub has_keys : List Value → GroupKind → Bool
has_keys ks (what.Cell js v) = same_values js ks
has_keys ks _ = false

abbrev pub found_other_keys : List Group → Option ℕ → List Value → Bool
found_other_keys olds None ks = true
found_other_keys olds (Some i) ks = not (has_keys ks (group_at olds i).what)

-- The mark of a group whose old group is at this index. `runs` is whether its innermost call runs.
abbrev pub found_mark : List ℕ → List Group → Option ℕ → Bool → GroupKind → Mark
found_mark owed olds i runs (what.Call f vs) = mark.Call (found_cause owed olds i f vs)
found_mark owed olds i runs (what.Node k as_) = mark.Other
found_mark owed olds i runs (what.Key v) = mark.Other
found_mark owed olds i runs (what.Cell ks v) = mark.Cell (runs && found_other_keys olds i ks)

-- Whether the innermost call of what is inside a group with this mark runs.
abbrev pub runs_inside : Mark → Bool → Bool
runs_inside (mark.Call cause) runs = is_run cause
runs_inside _ runs = runs

-- Whether the innermost call around a group of this depth runs. `runs` has for each open group, from the top on, whether
-- the innermost call of what is inside it runs. Outside all groups it is true.
abbrev pub runs_around : List Bool → ℕ → Bool
runs_around runs depth = let around = take (depth + 1) runs in slice_index_or around (length around - 1) true

-- The mark of the next new group, whose old group is at this index.
abbrev pub next_mark : List ℕ → List Group → List Bool → Option ℕ → Group → Mark
next_mark owed olds runs found g = found_mark owed olds found (runs_around runs g.depth) g.what

-- The runs after the next new group was marked and opened.
abbrev pub next_runs : List ℕ → List Group → List Bool → Option ℕ → Group → List Bool
next_runs owed olds runs found g =
    take (g.depth + 1) runs ++ runs_inside (next_mark owed olds runs found g) (runs_around runs g.depth) ∷ []

-- The marks of new groups, whose old groups are at these indexes, and the runs after them.
abbrev pub found_marks : List ℕ → List Group → List Bool → List (Option ℕ) → List Group → List Mark
found_marks owed olds runs [] gs = []
found_marks owed olds runs (i ∷ is) [] = []
found_marks owed olds runs (i ∷ is) (g ∷ gs) =
    next_mark owed olds runs i g ∷ found_marks owed olds (next_runs owed olds runs i g) is gs

abbrev pub found_runs : List ℕ → List Group → List Bool → List (Option ℕ) → List Group → List Bool
found_runs owed olds runs [] gs = runs
found_runs owed olds runs (i ∷ is) [] = runs
found_runs owed olds runs (i ∷ is) (g ∷ gs) = found_runs owed olds (next_runs owed olds runs i g) is gs
