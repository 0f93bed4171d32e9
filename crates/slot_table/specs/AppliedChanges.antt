-- Internal: the forms of a change list and of its preview. No public clause cites this module.
use Rattle.std.specs.Prelude.{◌≡◌, ◌<◌, ◌^◌, List, length}
use Rattle.rt_groups.specs.declared.groups.Group.{Group}
use Rattle.slot_table.specs.TableGroups.{TableGroups}
use Rattle.slot_table.specs.KeptRuns.{set_all, KeepDepths, patched, IsShrunk, HasBlocks, after_exchange}
use Rattle.slot_table.specs.declared.changes.Change.{Change}
use Rattle.slot_table.specs.declared.changes.Change.TheVariants as change
use Rattle.slot_table.specs.declared.changes.PreviewForm.{PreviewForm}
use Rattle.slot_table.specs.declared.changes.PreviewForm.TheVariants as form

-- The groups of the new frame.
abbrev pub changed_groups : List Group → Change → List Group
changed_groups olds (change.Whole table) = table.groups
changed_groups olds (change.InPlace fresh places) = set_all olds places.items fresh
changed_groups olds (change.Exchanged fresh places exchange) = after_exchange exchange (set_all olds places.items fresh)
changed_groups olds (change.Shrunk fresh runs len) = patched olds fresh runs.items

-- Groups that are changed in place keep their depths. Both blocks of an exchange are inside the table. Kept groups of a
-- table that shrinks do not move to later indexes.
abbrev pub IsChange : List Group → Change → Type 0
IsChange olds (change.Whole table) = Unit {0}
IsChange olds (change.InPlace fresh places) = (length places.items ≡ length fresh) × KeepDepths olds places.items fresh
IsChange olds (change.Exchanged fresh places exchange) =
    (length places.items ≡ length fresh) × KeepDepths olds places.items fresh × HasBlocks olds exchange
    × (length olds < 2 ^ 32)
IsChange olds (change.Shrunk fresh runs len) = IsShrunk olds fresh runs.items len × (len < 2 ^ 32)

-- The table of a preview.
abbrev pub preview_table : PreviewForm → TableGroups
preview_table (form.Held table) = table.now
preview_table (form.Made table) = table
