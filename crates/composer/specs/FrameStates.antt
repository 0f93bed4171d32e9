-- Internal: what is known of a program, and the state after a whole frame.
use Rattle.std.specs.Prelude.{ℕ, ◌+◌, List, [], ◌++◌, length}
use Rattle.rt_values.specs.Maps.{Map}
use Rattle.rt_groups.specs.GroupForest.{GroupForest}
use Rattle.rt_groups.specs.PreorderGroups.{preorder}
use Rattle.rt_groups.specs.Frames.{numbered_forest, ran, calculated_cells, reads}
use Rattle.lang_ast.specs.Terms.{Func}
use Rattle.compose_model.specs.Composing.{forest}
use Rattle.recompose_laws.specs.MadeCalls.{AreOrdered}
use Rattle.recompose_laws.specs.CalculatedCells.{Calculation, FunctionsCalculate}
use Rattle.composer.specs.ComposerState.{ComposerState}

-- What is known of a program: each function calls only earlier functions, and the values of the calculations follow
-- from their sites.
pub record IsSound (functions : List Func) : Type 0 where
  pub ordered : AreOrdered 0 functions
  pub calculation : Calculation
  pub calculates : FunctionsCalculate calculation functions

-- The state after a frame that begins in the state `s`: the new groups with their numbers, and the counts and the reads
-- of the frame.
abbrev pub frame_state : List Func → ℕ → List ℕ → GroupForest → ℕ → Map → ComposerState → ComposerState
frame_state functions root owed old next m s =
    let new = forest functions root m in
    let given = numbered_forest old [] [] next new in
    record {
      groups = s.groups ++ preorder 0 given.0;
      next = given.1;
      ran = s.ran + length (ran owed old new);
      calculated = s.calculated + length (calculated_cells owed old new);
      asked = s.asked ++ reads owed old new;
      own = s.own;
    }
