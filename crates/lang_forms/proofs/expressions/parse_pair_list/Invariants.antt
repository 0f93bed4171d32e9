use Rattle.std.proofs.Common.{◌≡◌, ◌++◌, drop}
use Rattle.std.specs.Option.{option_map}
use Rattle.lang_ast.specs.SyntaxView.{nameds_view}
use Rattle.lang_forms.specs.Views.{seen_all, state_names}
use Rattle.lang_forms.specs.Readings.{pairs_form}
use Rattle.lang_forms.proofs.expressions.parse_pair_list.Given as goal

abbrev pub invariant-loop-tree : goal.invariant-loop-tree
invariant-loop-tree l = option_map (λ more. nameds_view l.pairs.items ++ more)
    (pairs_form (state_names l.states) (seen_all (drop l.tree-index l.trees)))
    ≡ pairs_form (state_names l.states) (seen_all l.trees)
