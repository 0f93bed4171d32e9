use Rattle.std.proofs.Common.{◌≡◌, drop}
use Rattle.lang_limits.specs.LeastOffset.{least_offset_from}
use Rattle.lang_ast.specs.Sizes.{states_sizes}
use Rattle.lang_limits.proofs.lengths.measure_state_names.Given as goal

abbrev pub invariant-loop-state : goal.invariant-loop-state
invariant-loop-state l = least_offset_from l.least (states_sizes (drop l.state-index l.all))
    ≡ least_offset_from l.initial.least (states_sizes l.all)
