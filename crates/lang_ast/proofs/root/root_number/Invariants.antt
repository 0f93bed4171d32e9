use Rattle.std.proofs.Common.{◌≡◌, ◌+◌, length}
use Rattle.lang_ast.specs.SyntaxView.{functions_view}
use Rattle.lang_ast.specs.Programs.{root_number}
use Rattle.lang_ast.proofs.root.root_number.Given as goal

abbrev pub invariant-loop-function : goal.invariant-loop-function
invariant-loop-function l = (l.number + length l.rest ≡ length l.functions)
    × (l.number + root_number (functions_view l.rest) ≡ root_number (functions_view l.functions))

abbrev pub decreases-loop-function : goal.decreases-loop-function
decreases-loop-function l = length l.rest
