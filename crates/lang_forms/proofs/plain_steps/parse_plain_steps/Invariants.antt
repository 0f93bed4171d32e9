use Rattle.std.proofs.Common.{◌≡◌, ◌++◌, drop}
use Rattle.std.specs.Option.{option_map}
use Rattle.lang_forms.specs.Views.{seen_all, state_names}
use Rattle.lang_forms.specs.Readings.{plain_steps_of}
use Rattle.lang_forms.proofs.plain_steps.parse_plain_steps.Given as goal

abbrev pub invariant-loop-tree : goal.invariant-loop-tree
invariant-loop-tree l = option_map (λ more. l.steps ++ more)
    (plain_steps_of (state_names l.states) (seen_all (drop l.tree-index l.trees)))
    ≡ plain_steps_of (state_names l.states) (seen_all l.trees)
