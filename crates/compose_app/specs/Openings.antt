-- Trusted: the world of a program's states.
use Rattle.std.specs.Prelude.{◌≡◌, List, [], ◌∷◌, None}
use Rattle.lang_ast.specs.declared.program.State.{State}
use Rattle.lang_script.specs.StepCalls.{opening_world}
use Rattle.snap_policy.specs.declared.policy.BuiltIn.{BuiltIn}
use Rattle.snap_policy.specs.Table.{table}
use Rattle.snap_api.specs.Valid.{IsValid}
use Rattle.snap_api.specs.World.{World}

-- A value represents this world, which calls reach and which has no watcher.
pub record IsOpened (stands : World BuiltIn → Type 0) (w : World BuiltIn) : Type 0 where
  pub represents : stands w
  pub valid : IsValid table w
  pub unwatched : w.lasts ≡ []

-- A value represents the world with these states, which calls reach. Its one watcher has no last map.
pub record IsOpening (stands : World BuiltIn → Type 0) (states : List State) : Type 0 where
  pub represents : stands (opening_world states)
  pub valid : IsValid table (opening_world states)
  pub lasts : (opening_world states).lasts ≡ None ∷ []
