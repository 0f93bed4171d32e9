use Rattle.std.proofs.Common.{◌≡◌, drop}
use Rattle.rt_groups.specs.Frames.{meets}
use Rattle.composer.proofs.compared.meet.Given as goal

abbrev pub invariant-loop-x : goal.invariant-loop-x
invariant-loop-x l = meets (drop l.x-index l.reads) l.last.owed.objects ≡ meets l.reads l.last.owed.objects
