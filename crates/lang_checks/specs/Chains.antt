-- Trusted: the lengths of chains of calls.
use Rattle.std.specs.Prelude.{ℕ, ◌+◌, max, nat_le, List, [], ◌∷◌, ◌++◌, slice_index_or}
use Rattle.lang_ast.specs.Terms.{Stmt, Call, If, Block, Stmts, done, next, Func}
use Rattle.lang_checks.specs.declared.faults.CheckKind.TheVariants as kind
use Rattle.lang_checks.specs.declared.faults.ProgramFault.{ProgramFault}
use Rattle.lang_checks.specs.FaultOrder.{fault_unless}

-- The most functions of a chain of calls.
abbrev pub most_chain : ℕ
most_chain = 32

abbrev mutual
  -- The length of the longest chain that a statement calls, by the lengths for the functions before its own. A call
  -- of any other function counts 0.
  pub longest : List ℕ → Stmt → ℕ
  longest chains (Call at site name function arguments) = slice_index_or chains function 0
  longest chains (If at site condition then_branch else_branch) = max (longest_in chains then_branch)
      (longest_in chains else_branch)
  longest chains (Block at site head body) = longest_in chains body

  pub longest_in : List ℕ → Stmts → ℕ
  longest_in chains done = 0
  longest_in chains (next s ss) = max (longest chains s) (longest_in chains ss)

-- The number of functions in the longest chain of a function, with itself.
abbrev pub chain : List ℕ → Func → ℕ
chain chains f = longest_in chains f.body + 1

-- The faults of functions whose chains are too long.
abbrev pub chains_faults : List ℕ → List Func → List ProgramFault
chains_faults chains [] = []
chains_faults chains (f ∷ fs) = fault_unless (nat_le (chain chains f) most_chain) kind.Order f.at
    ++ chains_faults (chains ++ chain chains f ∷ []) fs
