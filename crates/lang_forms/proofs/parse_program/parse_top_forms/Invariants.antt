use Rattle.std.proofs.Common.{◌≡◌, drop}
use Rattle.lang_forms.specs.Views.{seen_all, partial_source_view}
use Rattle.lang_forms.specs.TextReading.{tops_of}
use Rattle.lang_forms.proofs.parse_program.parse_top_forms.Given as goal

abbrev pub invariant-loop-tree : goal.invariant-loop-tree
invariant-loop-tree l = tops_of (partial_source_view l.read) (seen_all (drop l.tree-index l.trees))
    ≡ tops_of (partial_source_view l.initial.read) (seen_all l.trees)
