-- Trusted: which calls of an applier fail that fails where a list says.
use Rattle.std.specs.Prelude.{◌≡◌, ◌⊎◌, ℕ, IsErr, IsTrue, is_err, if◌then◌else◌}
use Rattle.std.specs.declared.result.Result.{Result}
use Rattle.rt_streams.specs.declared.source.Failed.{Failed}
use Rattle.rt_streams.specs.Streams.{Rose, next_count}
use Rattle.rt_streams.specs.Memory.{CallCounts, fails_next}

-- A call is counted. It fails if the list of failing calls has its number, and otherwise only if the call of the inner
-- applier failed, whose count of faults was `was` and is `is`. A failed call is counted as a fault. The list stays.
pub record FollowsPlan (before now : CallCounts) (was is : ℕ) (result : Result Unit Failed) : Type 0 where
  pub fails : IsTrue (fails_next before.failing before.made) → IsErr result
  pub cause : IsErr result → IsTrue (fails_next before.failing before.made) ⊎ Rose was is
  pub plan : now.failing ≡ before.failing
  pub calls : now.made ≡ next_count before.made
  pub faults : now.faults ≡ (if is_err result then next_count before.faults else before.faults)
