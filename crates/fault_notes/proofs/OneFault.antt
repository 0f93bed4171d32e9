-- The fault that the parser reports is the fault of the bytes.
use Rattle.std.proofs.Common.{◌≡◌, ◌⊎◌, Ok, Err, inl, inr}
use Rattle.std.specs.declared.result.Result.{Result}
use Rattle.play_core.specs.declared.fault.Fault.{Fault}
use Rattle.play_core.specs.declared.text.TextEnd.{TextEnd}
use Rattle.play_core.specs.declared.text.TextEnd.TheVariants.{Bad, NoMemory}

-- A parsed input has no fault.
pub no_fault : {T : Type 0} (r : Result T TextEnd) (x : T) (fault : Fault) → r ≡ Ok x
    → (r ≡ Err (Bad fault)) ⊎ (r ≡ Err NoMemory) → ⊥
no_fault r x fault is (inl e) = absurd cc
no_fault r x fault is (inr e) = absurd cc

-- A reported fault is the only one.
pub one_fault : {T : Type 0} (r : Result T TextEnd) (g fault : Fault) → r ≡ Err (Bad g)
    → (r ≡ Err (Bad fault)) ⊎ (r ≡ Err NoMemory) → g ≡ fault
one_fault r g fault is (inl e) = cc
one_fault r g fault is (inr e) = absurd cc
