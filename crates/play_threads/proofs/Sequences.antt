-- Parts that a worker makes one after the other.
use Rattle.std.proofs.Common.{◌≡◌, List, [], ◌∷◌, ◌++◌, length, refl, subst, append_assoc, arith}
use Rattle.snap_policy.specs.declared.policy.BuiltIn.{BuiltIn}
use Rattle.snap_api.specs.World.{World}
use Rattle.snap_shared.specs.declared.shared.Shared.{Shared}
use Rattle.lang_script.specs.StepCalls.{ActorPart}
use Rattle.play_threads.specs.ActorSteps.{HasCome, Leads, Makes}
use Rattle.play_threads.specs.declared.worker.Worker.{Worker}

module _ {W : Type 0} (stands : W → World BuiltIn → Type 0) (shared : Shared W BuiltIn) where
  -- The first parts of those that are left are made.
  pub leads_on : (w w' w'' : Worker W) (all here left : List ActorPart)
      → Leads stands shared w w' all (here ++ left) → Makes stands shared w' w'' here →
      Leads stands shared w w'' all left
  leads_on w w' w'' all here left one two o stood counts before rest start =
      two o stood counts before (left ++ rest)
      (subst (λ l. HasCome o before w' l) (append_assoc here left rest) (one o stood counts before rest start))

  -- The same parts in another form.
  pub leads_as : (w w' : Worker W) (all left left' : List ActorPart) → left ≡ left'
      → Leads stands shared w w' all left → Leads stands shared w w' all left'
  leads_as w w' all left left' same one = subst (λ l. Leads stands shared w w' all l) same one

-- A list that has come to its end.
pub none_left : {A : Type 0} (xs : List A) → length xs ≡ 0 → xs ≡ []
none_left [] e = refl
none_left (x ∷ xs) e = absurd (omega (arith, e))
