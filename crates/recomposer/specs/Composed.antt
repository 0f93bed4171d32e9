-- Internal: what a frame composes before it ends.
use Rattle.std.specs.Prelude.{◌≡◌, ◌≤◌, [], false, Option, Some, None}
use Rattle.rt_values.specs.Maps.{Map}
use Rattle.rt_groups.specs.GroupForest.{how_many}
use Rattle.rt_groups.specs.Frames.{LastFrame, most_groups}
use Rattle.compose_model.specs.Composing.{forest}
use Rattle.composer.specs.FrameDrafts.{DraftGroups, IsFrameDraft, root_of}
use Rattle.lang_ast.specs.Programs.{functions_of}
use Rattle.recomposer.specs.declared.composition.Composition.{Composition}

-- What the frame of the composition in the map `m` composed after the kept state `k`: nothing if nothing is owed, else
-- the draft of the frame, which has few enough groups.
abbrev pub IsComposed : Composition → LastFrame → Map → Option DraftGroups → Type 0
IsComposed c k m None = (c.owed.all ≡ false) × (c.owed.objects ≡ [])
IsComposed c k m (Some d) =
    IsFrameDraft (functions_of c.program.now) (root_of c.program.now) c.owed k m d
    × (how_many (forest (functions_of c.program.now) (root_of c.program.now) m) ≤ most_groups)

-- What was composed is for the groups that the composition keeps.
abbrev pub IsForHeld : Composition → Option DraftGroups → Type 0
IsForHeld c None = Unit {0}
IsForHeld c (Some d) = d.olds ≡ c.held.groups
