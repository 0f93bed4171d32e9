-- Internal: the choice of `settle_into` for one object, and how choices add up.
use Rattle.std.specs.Prelude.{ℕ, List, ◌++◌}
use Rattle.rt_values.specs.Maps.{Map}
use Rattle.snap_api.specs.Settle.{Settled, settled, conflict, put_kept, put_changed}
use Rattle.snap_api.specs.declared.choice.Choice.{Choice}
use Rattle.snap_api.specs.declared.choice.Choice.TheVariants.{Changed, Kept, Clash}

-- The choice for object x, before the choices for the later objects.
abbrev pub choice_verdict : ℕ → Choice → Settled → Settled
choice_verdict x (Changed e) rest = put_changed x e rest
choice_verdict x (Kept e) rest = put_kept e rest
choice_verdict x Clash rest = conflict x

-- Entries and changed objects, before those of the later objects.
abbrev pub put_all : Map → List ℕ → Settled → Settled
put_all front changed (settled m more) = settled (front ++ m) (changed ++ more)
put_all front changed (conflict x) = conflict x
