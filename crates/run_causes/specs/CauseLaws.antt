-- Law: causes and reports agree.
use Rattle.std.specs.Prelude.{◌∷◌, Bool, map, ℕ, List, [], ◌≡◌, length}
use Rattle.std.specs.List.{filter}
use Rattle.rt_groups.specs.GroupForest.{GroupForest}
use Rattle.rt_groups.specs.Frames.{CallAtPath, nobody, calls, call_runs, ran, report, cells, is_calculated}
use Rattle.run_causes.specs.declared.causes.Cause.{Cause}
use Rattle.run_causes.specs.declared.causes.Mark.{Mark}
use Rattle.run_causes.specs.declared.causes.Mark.TheVariants as mark
use Rattle.run_causes.specs.Causes.{cause_of, causes, is_run, marks}

-- A call counts as run exactly if its cause is not `Skipped`.
abbrev pub CausesTellTheRunning : Type 0
CausesTellTheRunning = (owed : List ℕ) (old : GroupForest) (call : CallAtPath) →
    is_run (cause_of owed old call) ≡ call_runs owed old call

-- The calls of a frame that run are those whose cause is not `Skipped`, in the same order.
abbrev pub RanAreThoseWithACause : Type 0
RanAreThoseWithACause = (owed : List ℕ) (old new : GroupForest) →
    ran owed old new ≡ filter (λ call. is_run (cause_of owed old call)) (calls [] [] new)

-- The report of a frame counts the causes other than `Skipped`.
abbrev pub ReportCountsCauses : Type 0
ReportCountsCauses = (owed : List ℕ) (old new : GroupForest) →
    length (filter is_run (causes owed old new)) ≡ (report owed old new).ran

-- The causes among marks, in order.
abbrev pub causes_in : List Mark → List Cause
causes_in [] = []
causes_in (mark.Call c ∷ ms) = c ∷ causes_in ms
causes_in (mark.Cell b ∷ ms) = causes_in ms
causes_in (mark.Other ∷ ms) = causes_in ms

-- For each cell among marks, in order, whether it was calculated.
abbrev pub calculated_in : List Mark → List Bool
calculated_in [] = []
calculated_in (mark.Call c ∷ ms) = calculated_in ms
calculated_in (mark.Cell b ∷ ms) = b ∷ calculated_in ms
calculated_in (mark.Other ∷ ms) = calculated_in ms

-- The marks of a frame have the causes of its calls, in order.
abbrev pub MarksHaveTheCauses : Type 0
MarksHaveTheCauses = (owed : List ℕ) (old new : GroupForest) → causes_in (marks owed old new) ≡ causes owed old new

-- The marks of a frame say of each cell, in order, whether it counts as calculated.
abbrev pub MarksTellTheCalculated : Type 0
MarksTellTheCalculated = (owed : List ℕ) (old new : GroupForest) →
    calculated_in (marks owed old new) ≡ map (is_calculated owed old) (cells nobody [] [] new)
