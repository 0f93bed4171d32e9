use Rattle.std.proofs.Common.{◌≡◌, ◌+◌, drop, map}
use Rattle.lang_ast.specs.SyntaxView.{functions_view}
use Rattle.lang_forms.specs.Names.{number_in}
use Rattle.lang_forms.specs.Forms.{function_name}
use Rattle.lang_forms.proofs.known_names.function_among.Given as goal

abbrev pub invariant-loop-i : goal.invariant-loop-i
invariant-loop-i l = l.i + number_in l.name (map function_name (functions_view (drop l.i l.functions)))
    ≡ number_in l.name (map function_name (functions_view l.functions))
