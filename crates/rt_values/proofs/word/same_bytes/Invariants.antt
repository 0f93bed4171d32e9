use Rattle.std.proofs.Common.{◌≡◌, ◌≤◌, ◌-◌, drop, length, bytes_eq}
use Rattle.rt_values.proofs.word.same_bytes.Given as goal

abbrev pub invariant-loop-place : goal.invariant-loop-place
invariant-loop-place l = (l.place ≤ length l.a) × (length l.a ≡ length l.b)
    × (bytes_eq (drop l.place l.a) (drop l.place l.b) ≡ bytes_eq l.a l.b)

abbrev pub decreases-loop-place : goal.decreases-loop-place
decreases-loop-place l = length l.a - l.place
