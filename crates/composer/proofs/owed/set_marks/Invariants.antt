use Rattle.std.proofs.Common.{◌≡◌, drop}
use Rattle.composer.specs.OwedObjects.{marks_after}
use Rattle.composer.proofs.owed.set_marks.Given as goal

abbrev pub invariant-loop-x : goal.invariant-loop-x
invariant-loop-x l = marks_after l.marks.items (drop l.x-index l.objects) ≡ marks_after l.initial.marks.items l.objects
