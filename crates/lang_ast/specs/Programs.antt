-- Trusted: programs without pointers, their statements in the order of the text, and the index of the root function.
use Rattle.std.specs.Prelude.{ℕ, ◌==◌, suc, List, [], ◌∷◌, ◌++◌, Bool, Option, Some, None, codes, if◌then◌else◌}
use Rattle.std.specs.Str.{bytes_eq}
use Rattle.lang_ast.specs.declared.program.State.{State}
use Rattle.lang_ast.specs.declared.program.Version.{Version}
use Rattle.lang_ast.specs.declared.program.Program as declared
use Rattle.lang_ast.specs.Terms.{Stmt, Call, If, Block, Stmts, done, next, Func}
use Rattle.lang_ast.specs.SyntaxView.{functions_view}

-- The offset of the header, the version, the states by number, and the functions by index.
pub record Program : Type 0 where
  pub header : ℕ
  pub version : Version
  pub states : List State
  pub functions : List Func

abbrev pub program_view : declared.Program → Program
program_view p = record {
  header = p.header;
  version = p.version;
  states = p.states.items;
  functions = functions_view p.functions.items;
}

-- The functions of a program in memory.
abbrev pub functions_of : declared.Program → List Func
functions_of p = functions_view p.functions.items

abbrev pub is_root : Func → Bool
is_root f = bytes_eq f.name.text (codes "root")

-- The index of the first function with the name `root`, or the number of functions if there is none.
abbrev pub root_number : List Func → ℕ
root_number [] = 0
root_number (f ∷ fs) = if is_root f then 0 else suc (root_number fs)

-- The site of a statement.
abbrev pub site_of : Stmt → ℕ
site_of (Call at site name function arguments) = site
site_of (If at site condition then_branch else_branch) = site
site_of (Block at site head body) = site

abbrev mutual
  -- A statement, and after it the statements inside it, in the order of the text.
  pub statement_with_inner : Stmt → List Stmt
  statement_with_inner (Call at site name function arguments) = Call at site name function arguments ∷ []
  statement_with_inner (If at site condition then_branch else_branch) =
      If at site condition then_branch else_branch ∷ (statements_in then_branch ++ statements_in else_branch)
  statement_with_inner (Block at site head body) = Block at site head body ∷ statements_in body

  -- Each statement of a body, followed by the statements inside it, in the order of the text.
  pub statements_in : Stmts → List Stmt
  statements_in done = []
  statements_in (next s ss) = statement_with_inner s ++ statements_in ss

-- All statements of functions, in the order of the text.
abbrev pub functions_statements : List Func → List Stmt
functions_statements [] = []
functions_statements (f ∷ fs) = statements_in f.body ++ functions_statements fs

-- The first of some statements that has a site.
abbrev pub statement_at : ℕ → List Stmt → Option Stmt
statement_at site [] = None
statement_at site (s ∷ ss) = if site_of s == site then Some s else statement_at site ss

-- Each of some statements satisfies `P`.
abbrev pub Each : (Stmt → Type 0) → List Stmt → Type 0
Each P [] = Unit {0}
Each P (s ∷ ss) = P s × Each P ss
