use Rattle.std.proofs.Common.{◌≡◌, ◌==◌, drop, length}
use Rattle.composer.specs.OwedObjects.{marked_numbers}
use Rattle.composer.proofs.owed.is_unmarked.Given as goal

abbrev pub invariant-loop-mark : goal.invariant-loop-mark
invariant-loop-mark l =
    (length (marked_numbers l.mark-index (drop l.mark-index l.marks)) == 0) ≡ (length (marked_numbers 0 l.marks) == 0)
