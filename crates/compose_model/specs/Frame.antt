-- Trusted: one frame of a composition in the map of its snapshot.
use Rattle.std.specs.Prelude.{List, [], Option, Some, None}
use Rattle.std.specs.Option.{option_map}
use Rattle.rt_values.specs.Maps.{Map, differ}
use Rattle.rt_groups.specs.GroupForest.{GroupForest}
use Rattle.rt_groups.specs.declared.report.Report.{Report}
use Rattle.rt_groups.specs.Frames.{LastFrame, numbered_forest, report}
use Rattle.lang_ast.specs.Terms.{Func}
use Rattle.lang_ast.specs.Programs.{root_number}
use Rattle.compose_model.specs.Composing.{scratch}

-- The result of a good frame: the state for the next frame, and the report.
pub record FrameResult : Type 0 where
  pub left : LastFrame
  pub told : Report

-- The owed objects are those that differ from the map of the last good frame. A node keeps its number if its path was
-- in the last forest.
abbrev pub good_frame : LastFrame → Map → GroupForest → FrameResult
good_frame k m new =
    let given = numbered_forest k.trail [] [] k.next new in
    record {
      left = record { seen = Some m; trail = given.0; next = given.1 };
      told = report (differ k.seen m) k.trail new;
    }

-- The result of a frame, or `None` if the forest has too many groups. A frame without a result keeps the state of the
-- last good frame.
abbrev pub frame : List Func → LastFrame → Map → Option FrameResult
frame functions k m = option_map (good_frame k m) (scratch functions (root_number functions) m)

-- What is kept after a frame. A refused frame changes nothing.
abbrev pub kept_after : LastFrame → Option FrameResult → LastFrame
kept_after k None = k
kept_after k (Some good) = good.left
