use Rattle.std.proofs.Common.{◌≡◌, ◌++◌, ◌∷◌, [], length}
use Rattle.std.specs.Prelude.{codes}
use Rattle.std.specs.List.{flat_map}
use Rattle.json.specs.Token.{end_array}
use Rattle.lang_ast.specs.SyntaxView.{functions_view}
use Rattle.trace_lines.specs.TraceLines.{member, array}
use Rattle.trace_lines.specs.ProgramLine.{function_tokens}
use Rattle.trace_lines.proofs.program_line.put_functions.Given as goal

abbrev pub invariant-loop-function : goal.invariant-loop-function
invariant-loop-function l = record {
  tokens :
      l.line.tokens ++ (flat_map function_tokens (functions_view l.rest) ++ end_array ∷ [])
      ≡ l.fn.line.tokens ++ member (codes "functions") (array (flat_map function_tokens (functions_view l.fn.functions)));
  before : l.line.before ≡ l.fn.line.before;
}

abbrev pub decreases-loop-function : goal.decreases-loop-function
decreases-loop-function l = length l.rest
