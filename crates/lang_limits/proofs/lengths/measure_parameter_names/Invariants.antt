use Rattle.std.proofs.Common.{◌≡◌, drop}
use Rattle.lang_limits.specs.LeastOffset.{least_offset_from}
use Rattle.lang_ast.specs.Sizes.{parameters_sizes}
use Rattle.lang_limits.proofs.lengths.measure_parameter_names.Given as goal

abbrev pub invariant-loop-parameter : goal.invariant-loop-parameter
invariant-loop-parameter l = least_offset_from l.least (parameters_sizes (drop l.parameter-index l.all))
    ≡ least_offset_from l.initial.least (parameters_sizes l.all)
