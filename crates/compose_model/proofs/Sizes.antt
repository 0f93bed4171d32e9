-- The sizes of statements and functions, which decrease in each recursive call of composing.
use Rattle.std.proofs.Common.{ℕ, zero, suc, ◌+◌, ◌*◌, ◌<◌, ◌≤◌, ◌≡◌, List, [], ◌∷◌, length, get_or, take, ap, ◌∙◌, arith}
use Rattle.std.specs.List.{sum_by}
use Rattle.std.proofs.lemmas.List.Sums.{sum_by_more_le}
use Rattle.lang_ast.specs.Terms.{Stmt, Call, If, Block, Stmts, done, next}
use Rattle.lang_ast.specs.SyntaxView.{stmt_view, stmts_view}
use Rattle.lang_ast.specs.declared.syntax.Statement.{Statement}
use Rattle.lang_ast.specs.declared.syntax.Function.{Function}

abbrev mutual
  pub stmt_size : Stmt → ℕ
  stmt_size (Call at site name function arguments) = 1
  stmt_size (If at site condition then_branch else_branch) = suc (stmts_size then_branch + stmts_size else_branch)
  stmt_size (Block at site head body) = suc (stmts_size body)

  pub stmts_size : Stmts → ℕ
  stmts_size done = 0
  stmts_size (next s ss) = stmt_size s + stmts_size ss

abbrev pub body_size : List Statement → ℕ
body_size body = stmts_size (stmts_view body)

abbrev pub weight : List Function → ℕ
weight fs = sum_by (λ f. body_size f.body.items + 1) fs

-- A statement is at most as large as its list.
pub size_at : (body : List Statement) (i : ℕ) (s : Statement) → i < length body → s ≡ get_or body i s
    → stmt_size (stmt_view s) ≤ body_size body
size_at [] i s below is = absurd (omega arith)
size_at (x ∷ body) zero s below is = let e = ap (λ (y : Statement). stmt_size (stmt_view y)) is in omega (arith, e)
size_at (x ∷ body) (suc i) s below is = let h = size_at body i s (omega arith) is in omega (arith, h)

-- The functions before a function are smaller than all of them with it.
pub falls_at : (fs : List Function) (i : ℕ) (f : Function) (slice : List Statement) → i < length fs → f ≡ get_or fs i f
    → slice ≡ f.body.items →
    8 * weight (take i fs) + 8 * body_size slice + 4 < 8 * weight fs + 2
falls_at fs i f slice below is items =
    let h = sum_by_more_le (λ (f : Function). body_size f.body.items + 1) fs i f below in
    let e : body_size slice ≡ body_size (get_or fs i f).body.items = ap body_size items
    ∙ ap (λ (x : Function). body_size x.body.items) is in
    omega (arith, h, e)
