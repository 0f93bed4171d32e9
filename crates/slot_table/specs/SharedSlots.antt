-- Internal: the slots of a group, which tables share. No public clause cites this module.
use Rattle.std.specs.Prelude.{ℕ, List, []}
use Rattle.rt_groups.specs.declared.groups.GroupKind.{GroupKind}
use Rattle.slot_table.specs.declared.storage.Parts.{Parts}
use Rattle.slot_table.specs.declared.storage.Parts.TheVariants as parts

-- The kind of a group with its values, and its reads.
pub record GroupSlots : Type 0 where
  pub what : GroupKind
  pub reads : List ℕ

-- The slots of a group. A group that has only its kind has no reads.
abbrev pub slots_in : Parts → GroupSlots
slots_in (parts.Plain shared) = record { what = shared.value; reads = [] }
slots_in (parts.WithReads shared) = record { what = shared.value.what.value; reads = shared.value.reads }
