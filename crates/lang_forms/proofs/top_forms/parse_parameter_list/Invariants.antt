use Rattle.std.proofs.Common.{◌≡◌, ◌++◌, drop}
use Rattle.std.specs.Option.{option_map}
use Rattle.lang_forms.specs.Views.{seen_all}
use Rattle.lang_forms.specs.Readings.{parameters_form}
use Rattle.lang_forms.proofs.top_forms.parse_parameter_list.Given as goal

abbrev pub invariant-loop-tree : goal.invariant-loop-tree
invariant-loop-tree l = option_map (λ more. l.parameters.items ++ more)
    (parameters_form (seen_all (drop l.tree-index l.trees))) ≡ parameters_form (seen_all l.trees)
