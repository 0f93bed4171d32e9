use Rattle.std.proofs.Common.{◌≡◌, drop}
use Rattle.lang_ast.specs.SyntaxView.{functions_view}
use Rattle.lang_checks.specs.Scopes.{first_named}
use Rattle.lang_checks.proofs.named_parts.first_named.Given as goal

abbrev pub invariant-loop-i : goal.invariant-loop-i
invariant-loop-i l = first_named (functions_view (drop l.i l.functions)) l.name.text l.i
    ≡ first_named (functions_view l.functions) l.name.text 0
