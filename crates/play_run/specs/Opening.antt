-- Internal: the states of a checked program can be made.
use Rattle.std.specs.Prelude.{◌≡◌, List, [], ◌∷◌, true}
use Rattle.rt_values.specs.Values.{type_of}
use Rattle.snap_policy.specs.Table.{table_fits}
use Rattle.lang_ast.specs.declared.program.State.{State}

-- The policy of each state fits the type of its value.
abbrev pub StatesFit : List State → Type 0
StatesFit [] = Unit {0}
StatesFit (s ∷ more) = (table_fits s.policy (type_of s.initial) ≡ true) × StatesFit more
