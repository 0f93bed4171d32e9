use Rattle.std.proofs.Common.{◌≡◌, ◌++◌, drop}
use Rattle.composer.specs.OwedObjects.{marked_numbers}
use Rattle.composer.proofs.owed.marked_objects.Given as goal

abbrev pub invariant-loop-x : goal.invariant-loop-x
invariant-loop-x l = l.objects.items ++ marked_numbers l.x (drop l.x l.marks) ≡ marked_numbers 0 l.marks
