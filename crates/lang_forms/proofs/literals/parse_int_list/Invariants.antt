use Rattle.std.proofs.Common.{◌≡◌, ◌++◌, drop}
use Rattle.std.specs.Option.{option_map}
use Rattle.lang_forms.specs.Views.{seen_all}
use Rattle.lang_forms.specs.Readings.{ints_of}
use Rattle.lang_forms.proofs.literals.parse_int_list.Given as goal

abbrev pub invariant-loop-tree : goal.invariant-loop-tree
invariant-loop-tree l = option_map (λ more. l.ints.items ++ more) (ints_of (seen_all (drop l.tree-index l.trees)))
    ≡ ints_of (seen_all l.trees)
