-- Trusted: the offsets of expressions in the source text.
use Rattle.std.specs.Prelude.{ℕ}
use Rattle.lang_ast.specs.Terms.{Expr, Literal, Variable, Get, Apply}

-- The offset of the first byte of an expression.
abbrev pub expr_offset : Expr → ℕ
expr_offset (Literal at v) = at
expr_offset (Variable name) = name.at
expr_offset (Get at name source) = at
expr_offset (Apply at op es) = at
