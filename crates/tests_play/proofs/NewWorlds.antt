-- A world before its first call.
use Rattle.std.proofs.Common.{zero, suc, refl, arith}
use Rattle.snap_policy.specs.declared.policy.BuiltIn.{BuiltIn}
use Rattle.snap_api.specs.TracksLive.{OnlyGlobalIsLive}
use Rattle.snap_api.specs.World.{start}

-- In a new world only the global snapshot is live.
pub only_global : OnlyGlobalIsLive {P = BuiltIn} (start 0)
only_global zero h = absurd (omega (arith, h))
only_global (suc n) h = refl
