use Rattle.std.proofs.Common.{◌∙◌, sym}
use Rattle.sexp_text.proofs.Sames.{same_unplaced, unplaced_same}
use Rattle.sexp_text.proofs.same.same_trees.Goals as goal

pub returns-clause-same : goal.returns-clause-same
returns-clause-same c = λ yes. same_unplaced _ _ (sym c.are_same_trees.ensures ∙ yes)

pub returns-clause-other : goal.returns-clause-other
returns-clause-other c = λ same. c.are_same_trees.ensures ∙ unplaced_same _ _ same
