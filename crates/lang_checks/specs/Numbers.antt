-- Trusted: the numbers of statements, and of the functions that calls refer to.
use Rattle.std.specs.Prelude.{ℕ, ◌+◌, ◌<◌, ◌≡◌, List, [], ◌∷◌, map, Some}
use Rattle.lang_ast.specs.Terms.{Stmt, Call, Func}
use Rattle.lang_ast.specs.Programs.{Program, site_of, statements_in, functions_statements, Each}
use Rattle.lang_checks.specs.Scopes.{first_named}

-- `Counts k xs`: the numbers are `k`, `k` + 1, `k` + 2 and so on.
abbrev pub Counts : ℕ → List ℕ → Type 0
Counts k [] = Unit {0}
Counts k (x ∷ xs) = (x ≡ k) × Counts (k + 1) xs

-- A call of `name` by function `me` has the number of the first function with this name, if that function comes before
-- function `me`.
abbrev pub HasItsNumber : List Func → ℕ → List ℕ → ℕ → Type 0
HasItsNumber functions me name number =
    (i : ℕ) (f : Func) → first_named functions name 0 ≡ Some (i, f) → i < me → number ≡ i

-- If a statement of function `me` is a call, it has its number.
abbrev pub CallHasItsNumber : List Func → ℕ → Stmt → Type 0
CallHasItsNumber functions me (Call at site name function arguments) = HasItsNumber functions me name.text function
CallHasItsNumber functions me _ = Unit {0}

-- The calls in functions have their numbers, where the first of these functions is function `me`.
abbrev pub FunctionsCalls : List Func → ℕ → List Func → Type 0
FunctionsCalls functions me [] = Unit {0}
FunctionsCalls functions me (f ∷ fs) =
    Each (CallHasItsNumber functions me) (statements_in f.body) × FunctionsCalls functions (me + 1) fs

-- The sites of a program are 1, 2, 3 and so on in the order of the text, since 0 is the site of the root, and its calls
-- have their numbers. The number of a `get` is not here, since any number that is not that of a state with its name is
-- a fault.
pub record IsNumberedProgram (p : Program) : Type 0 where
  pub sites : Counts 1 (map site_of (functions_statements p.functions))
  pub calls : FunctionsCalls p.functions 0 p.functions
