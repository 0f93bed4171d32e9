-- The views of the parts of a program in memory.
use Rattle.lang_ast.proofs.Views.{view-Get, view-Block}

pub ruleset parts = (view-Get, view-Block)
