use Rattle.std.proofs.Common.{◌≡◌, ℕ, drop}
use Rattle.snap_api.specs.Settle.{settle_from}
use Rattle.snap_plain.specs.CallParts.{conflict_of}
use Rattle.snap_plain.proofs.settle_objects.least_conflict.Given as goal

abbrev pub invariant-loop-i : goal.invariant-loop-i
invariant-loop-i g l = (now : ℕ)
    → conflict_of (settle_from g.P.Policy.rules now l.shot.wrote l.i (drop l.i l.objects) (drop l.i l.shot.base)
    (drop l.i l.current) (drop l.i l.shot.view))
    ≡ conflict_of (settle_from g.P.Policy.rules now l.shot.wrote 0 l.objects l.shot.base l.current l.shot.view)
