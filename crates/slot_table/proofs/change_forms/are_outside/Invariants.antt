use Rattle.std.proofs.Common.{drop}
use Rattle.slot_table.specs.KeptRuns.{AreOutside}
use Rattle.slot_table.proofs.change_forms.are_outside.Given as goal

abbrev pub invariant-loop-place : goal.invariant-loop-place
invariant-loop-place l = AreOutside l.exchange (drop l.place-index l.places) → AreOutside l.exchange l.places
