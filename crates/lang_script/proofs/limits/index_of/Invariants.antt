use Rattle.std.proofs.Common.{◌≡◌, ◌+◌, length}
use Rattle.lang_script.specs.Scripts.{index_of}
use Rattle.lang_script.proofs.limits.index_of.Given as goal

abbrev pub invariant-loop-other : goal.invariant-loop-other
invariant-loop-other l =
    (l.index + length l.rest ≡ length l.names) × (l.index + index_of l.name l.rest ≡ index_of l.name l.names)

abbrev pub decreases-loop-other : goal.decreases-loop-other
decreases-loop-other l = length l.rest
