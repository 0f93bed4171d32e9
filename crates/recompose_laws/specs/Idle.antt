-- Trusted: a frame that owes nothing.
use Rattle.std.specs.Prelude.{ℕ, List, [], ◌≡◌, false}
use Rattle.rt_groups.specs.declared.report.Report.{Report}
use Rattle.rt_values.specs.Maps.{Map}
use Rattle.rt_groups.specs.GroupForest.{GroupForest, End, Read, Group, GroupKind, Call, asks, how_many, how_many_nodes}
use Rattle.rt_groups.specs.Frames.{numbered_forest, report}
use Rattle.lang_ast.specs.Terms.{Func}
use Rattle.compose_model.specs.Composing.{forest}
use Rattle.recompose_laws.specs.Refreshing.{is_owed, SameReads}
use Rattle.recompose_laws.specs.Walking.{walk_work}
use Rattle.recompose_laws.specs.Work.{no_work}
use Rattle.recompose_laws.specs.Numbering.{without_numbers, kept_number, renewed_groups}

-- Only nodes have numbers.
abbrev pub IsNumbered : GroupForest → Type 0
IsNumbered End = Unit {0}
IsNumbered (Read x rest) = IsNumbered rest
IsNumbered (Group site n what inside rest) = (n ≡ kept_number what n) × IsNumbered inside × IsNumbered rest

-- The report of a frame that runs nothing and keeps a forest.
abbrev pub unchanged_report : GroupForest → Report
unchanged_report t = record { ran = 0; calculated = 0; reads = 0; groups = how_many t; nodes = how_many_nodes t }

-- Law: in the forest that a frame keeps, only nodes have numbers.
abbrev pub KeptTrailIsNumbered : Type 0
KeptTrailIsNumbered = (old new : GroupForest) (next : ℕ) → IsNumbered (numbered_forest old [] [] next new).0

-- A group is not an owed call.
abbrev pub IsNotOwed : List ℕ → GroupKind → GroupForest → Type 0
IsNotOwed owed (Call f vs) inside = is_owed owed inside ≡ false
IsNotOwed owed _ inside = Unit {0}

-- No call in a group forest is owed.
abbrev pub IsQuiet : List ℕ → GroupForest → Type 0
IsQuiet owed End = Unit {0}
IsQuiet owed (Read x rest) = IsQuiet owed rest
IsQuiet owed (Group site n what inside rest) = IsNotOwed owed what inside × IsQuiet owed inside × IsQuiet owed rest

-- Law: a part of the kept forest in which no call is owed is kept with its numbers, and causes no work.
abbrev pub QuietPartIsKept : Type 0
QuietPartIsKept = (m : Map) (owed : List ℕ) (t : GroupForest) (functions : List Func) (next : ℕ) →
    IsQuiet owed t → IsNumbered t →
    (renewed_groups m owed t functions next ≡ (t, next)) × (walk_work m owed t functions ≡ no_work)

-- Law: if nothing is owed, a frame keeps the whole forest with its numbers, and runs, calculates and reads nothing.
abbrev pub NothingOwedNothingDone : Type 0
NothingOwedNothingDone = (m m' : Map) (functions : List Func) (root : ℕ) (old : GroupForest) (next : ℕ) →
    without_numbers old ≡ forest functions root m → IsNumbered old → SameReads [] (asks old) m m' →
    let new = forest functions root m' in
    (numbered_forest old [] [] next new ≡ (old, next)) × (report [] old new ≡ unchanged_report old)
