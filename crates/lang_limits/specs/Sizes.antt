-- Trusted: all that exceeds a limit in the text of a program.
use Rattle.std.specs.Prelude.{ℕ, List, ◌++◌}
use Rattle.sexp_text.specs.Forest.{Forest}
use Rattle.lang_ast.specs.Programs.{Program}
use Rattle.lang_ast.specs.Sizes.{oversized_parts}
use Rattle.lang_limits.specs.Tokens.{oversized_offsets, program_trees}

-- The offsets of the oversized parts of a program.
abbrev pub program_sizes : Program → List ℕ
program_sizes p = oversized_parts p.states p.functions

-- The offsets of all that exceeds a limit in a program, with the trees that it was parsed from.
abbrev pub program_limits : Forest → Program → List ℕ
program_limits f p = oversized_offsets (program_trees f) ++ program_sizes p
