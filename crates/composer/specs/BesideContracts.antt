-- Internal: what is reached by composing next to the groups of the last frame.
use Rattle.std.specs.Prelude.{ℕ, ◌++◌, ◌≡◌, ◌<◌, List, length, Result, Err, OnOk, OnErr, Option, Some, None}
use Rattle.rt_values.specs.Maps.{Map}
use Rattle.rt_groups.specs.GroupForest.{GroupForest, asks}
use Rattle.rt_groups.specs.Paths.{GroupKey, Found, inside_of}
use Rattle.rt_groups.specs.Frames.{most_groups}
use Rattle.lang_ast.specs.Terms.{Func}
use Rattle.recompose_laws.specs.Refreshing.{SameReads}
use Rattle.recompose_laws.specs.Numbering.{kept_number}
use Rattle.recompose_laws.specs.Idle.{IsNumbered}
use Rattle.recompose_laws.specs.MadeCalls.{IsMade, IsFoundMade}
use Rattle.recompose_laws.specs.CalculatedCells.{Calculation, CellsAreCalculated, IsFoundCalculated, FunctionsCalculate}
use Rattle.composer.specs.declared.stop.ComposeStop.{ComposeStop}
use Rattle.composer.specs.declared.stop.ComposeStop.TheVariants.{TooManyGroups}
use Rattle.composer.specs.ComposerState.{ComposerState}

-- The first part of a list.
pub record IsPrefix (some all : List ℕ) : Type 0 where
  pub rest : List ℕ
  pub is : some ++ rest ≡ all

-- The target was reached. After an error the view was asked for a first part of the reads, and there are too many
-- groups if the error says so.
pub record Reaches (target s : ComposerState) {U : Type 0} (result : Result U ComposeStop) : Type 0 where
  pub all : OnOk result (s ≡ target)
  pub part : OnErr result (IsPrefix s.asked target.asked)
  pub many : result ≡ Err TooManyGroups → most_groups < length target.groups

-- The map of the last good frame, all functions of the program, and the values of its calculations.
pub record LastComposition : Type 0 where
  pub map : Map
  pub functions : List Func
  pub calculation : Calculation

-- The given functions are the first functions of the program.
pub record IsSince (l : LastComposition) (functions : List Func) : Type 0 where
  pub more : List Func
  pub front : l.functions ≡ functions ++ more
  pub calculates : FunctionsCalculate l.calculation l.functions

-- The old siblings, and the new ones so far.
pub record OldSiblings : Type 0 where
  pub last : LastComposition
  pub old : GroupForest
  pub seen : List GroupKey

-- A part of the forest of the last frame: its calls are made and its cells calculated by the program, every object that
-- it read and that changed up to the map `m` is owed, and only nodes have numbers.
pub record IsOldPart (l : LastComposition) (owed : List ℕ) (m : Map) (t : GroupForest) : Type 0 where
  pub made : IsMade l.map l.functions t
  pub cells : CellsAreCalculated l.calculation t
  pub same : SameReads owed (asks t) l.map m
  pub numbered : IsNumbered t

-- Only nodes have numbers in the group that a lookup found.
abbrev pub IsFoundNumbered : Option Found → Type 0
IsFoundNumbered None = Unit {0}
IsFoundNumbered (Some g) = (g.number ≡ kept_number g.what g.number) × IsNumbered g.inside

-- The group that a lookup found at a site of the last frame, if any: its calls are made and its cells calculated by the
-- program, every object that it read and that changed up to the map `m` is owed, and only nodes have numbers.
pub record IsOldFound (l : LastComposition) (owed : List ℕ) (m : Map) (site : ℕ) (found : Option Found) : Type 0 where
  pub made : IsFoundMade l.map l.functions found
  pub cells : IsFoundCalculated l.calculation site found
  pub same : SameReads owed (asks (inside_of found)) l.map m
  pub numbered : IsFoundNumbered found
