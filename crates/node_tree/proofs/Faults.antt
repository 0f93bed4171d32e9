-- Calls that fail by a list, and others.
use Rattle.std.proofs.Common.{ℕ, ◌≡◌, ◌≤◌, true, false, Result, Ok, Err, inl, inr, refl, sym, ◌∙◌, arith, true≢false, if◌then◌else◌}
use Rattle.std.specs.Prelude.{is_err}
use Rattle.rt_streams.specs.declared.source.Failed.{Failed}
use Rattle.rt_streams.specs.Streams.{HasCause, next_count}
use Rattle.rt_streams.specs.Memory.{CallCounts, fails_next}
use Rattle.node_tree.specs.Planned.{FollowsPlan}

-- A count of faults that rises with a failed call shows its cause.
pub caused : (before now : ℕ) (r : Result Unit Failed) → before ≤ now
    → now ≡ (if is_err r then next_count before else before) → HasCause before now r
caused before now (Ok u) later e = record { later = later; failed = tt }
caused before now (Err x) later e =
    let same : now ≡ next_count before = e in record { later = later; failed = omega (arith, same) }

-- A call that the list does not have follows the plan.
pub passes : (before now : CallCounts) (was is : ℕ) (r : Result Unit Failed)
    → fails_next before.failing before.made ≡ false → now.failing ≡ before.failing
    → now.made ≡ next_count before.made → now.faults ≡ (if is_err r then next_count before.faults else before.faults)
    → HasCause was is r → FollowsPlan before now was is r
passes before now was is (Ok u) lets plan calls faults has = record {
  fails = λ listed. absurd (true≢false (sym listed ∙ lets));
  cause = λ failed. absurd (true≢false (sym failed));
  plan = plan;
  calls = calls;
  faults = faults;
}
passes before now was is (Err e) lets plan calls faults has = record {
  fails = λ listed. refl;
  cause = λ failed. inr has.failed;
  plan = plan;
  calls = calls;
  faults = faults;
}

-- A call that the list has follows the plan.
pub fails : (before now : CallCounts) (was is : ℕ) (e : Failed) → fails_next before.failing before.made ≡ true
    → now.failing ≡ before.failing → now.made ≡ next_count before.made → now.faults ≡ next_count before.faults
    → FollowsPlan before now was is (Err e)
fails before now was is e holds plan calls faults = record {
  fails = λ listed. refl;
  cause = λ failed. inl holds;
  plan = plan;
  calls = calls;
  faults = faults;
}
