-- Trusted: the values of cells, which follow from their sites and keys.
use Rattle.std.specs.Prelude.{ℕ, List, [], ◌∷◌, ◌≡◌, map, false, Option, Some, None}
use Rattle.rt_values.specs.declared.value.Value.{Value}
use Rattle.rt_values.specs.Maps.{Map}
use Rattle.rt_groups.specs.GroupForest.{GroupForest, End, Read, Group, GroupKind, Call, Node, Key, Cell}
use Rattle.rt_groups.specs.Paths.{Found}
use Rattle.lang_ast.specs.Terms.{Func, Stmt, Stmts, Block, Remember}
use Rattle.lang_ast.specs.Terms as terms
use Rattle.lang_ast.specs.Programs.{statement_with_inner, statements_in, functions_statements, Each}
use Rattle.lang_ast.specs.Evaluation.{Bindings, new_binding, eval, eval_named}
use Rattle.recompose_laws.specs.Skipping.{has_get}
use Rattle.compose_model.specs.Composing.{forest}
use Rattle.recompose_laws.specs.Numbering.{without_numbers}

-- The value that a program calculates at a site of a `remember` for the values of its keys.
abbrev pub Calculation : Type 0
Calculation = ℕ → List Value → Value

-- A cell at `site` has the value that `calc` gives for its keys.
abbrev pub IsCalculatedFor : Calculation → ℕ → GroupKind → Type 0
IsCalculatedFor calc site (Call f vs) = Unit {0}
IsCalculatedFor calc site (Node kind attributes) = Unit {0}
IsCalculatedFor calc site (Key v) = Unit {0}
IsCalculatedFor calc site (Cell ks v) = v ≡ calc site ks

-- Each cell in a forest has the value that `calc` gives for its site and its keys.
abbrev pub CellsAreCalculated : Calculation → GroupForest → Type 0
CellsAreCalculated calc End = Unit {0}
CellsAreCalculated calc (Read x rest) = CellsAreCalculated calc rest
CellsAreCalculated calc (Group site n what inside rest) =
    IsCalculatedFor calc site what × CellsAreCalculated calc inside × CellsAreCalculated calc rest

-- A group that a lookup found at `site` has the value that `calc` gives if it is a cell, and so has each cell inside.
abbrev pub IsFoundCalculated : Calculation → ℕ → Option Found → Type 0
IsFoundCalculated calc site None = Unit {0}
IsFoundCalculated calc site (Some g) = IsCalculatedFor calc site g.what × CellsAreCalculated calc g.inside

-- In all maps, the calculation `e` of a `remember` at `site` reads nothing and has the value that `calc` gives for the
-- values of `keys`.
abbrev pub CalculatesAtSite : Calculation → ℕ → List terms.Named → terms.Expr → Type 0
CalculatesAtSite calc site keys e = (m : Map) (env : Bindings) →
    let ks = (eval_named m keys env).value in
    ((eval m e ks).value ≡ calc site (map (λ k. k.value) ks)) × ((eval m e ks).reads ≡ [])

-- If a statement is a `remember`, `calc` gives the values of its calculation.
abbrev pub Calculates : Calculation → Stmt → Type 0
Calculates calc (Block at site (Remember name keys e) body) = CalculatesAtSite calc site keys e
Calculates calc _ = Unit {0}

-- `calc` gives the values of all calculations in a statement.
abbrev pub StmtCalculates : Calculation → Stmt → Type 0
StmtCalculates calc s = Each (Calculates calc) (statement_with_inner s)

-- `calc` gives the values of all calculations in the statements of a body.
abbrev pub StmtsCalculate : Calculation → Stmts → Type 0
StmtsCalculate calc ss = Each (Calculates calc) (statements_in ss)

-- `calc` gives the values of all calculations in the functions.
abbrev pub FunctionsCalculate : Calculation → List Func → Type 0
FunctionsCalculate calc functions = Each (Calculates calc) (functions_statements functions)

-- Law: if `calc` gives the values of all calculations of a program, it gives the values of the cells in each forest
-- that a frame keeps.
abbrev pub KeptCellsAreCalculated : Type 0
KeptCellsAreCalculated = (calc : Calculation) (m : Map) (functions : List Func) (root : ℕ) (old : GroupForest) →
    FunctionsCalculate calc functions → without_numbers old ≡ forest functions root m → CellsAreCalculated calc old

-- Each name with a value, up to the end of the shorter list.
abbrev pub named_with : List terms.Named → List Value → Bindings
named_with [] vs = []
named_with (n ∷ ns) [] = []
named_with (n ∷ ns) (v ∷ vs) = new_binding n.name.text v ∷ named_with ns vs

-- The value of a calculation that reads nothing, for the values of its keys.
abbrev pub calculated_from : List terms.Named → terms.Expr → List Value → Value
calculated_from keys e vs = (eval [] e (named_with keys vs)).value

-- Law: the value of a calculation without a `get` follows from its site, if no other calculation has that site.
abbrev pub PureCalculationsAreBySite : Type 0
PureCalculationsAreBySite = (calc : Calculation) (site : ℕ) (keys : List terms.Named) (e : terms.Expr) →
    has_get e ≡ false → ((vs : List Value) → calc site vs ≡ calculated_from keys e vs) →
    CalculatesAtSite calc site keys e
