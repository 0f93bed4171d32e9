-- Law: small programs with the forests and the reports of their frames.
use Rattle.std.specs.Prelude.{ℕ, ◌≡◌, ℤ, pos, List, [], ◌∷◌, codes}
use Rattle.rt_values.specs.declared.value.Value.{Value}
use Rattle.rt_values.specs.declared.value.Value.TheVariants as value
use Rattle.rt_values.specs.declared.value.Ty.TheVariants as ty
use Rattle.rt_values.specs.Maps.{Map}
use Rattle.rt_groups.specs.GroupForest.{GroupForest, End, Read, Group, Attribute, asks}
use Rattle.rt_groups.specs.GroupForest as trail
use Rattle.rt_groups.specs.declared.report.Report.{Report}
use Rattle.rt_groups.specs.Frames.{numbered_forest, report}
use Rattle.lang_ast.specs.declared.syntax.Ident.{Ident}
use Rattle.lang_ast.specs.declared.syntax.Operator.{Operator}
use Rattle.lang_ast.specs.declared.syntax.Operator.TheVariants as operator
use Rattle.lang_ast.specs.declared.syntax.Parameter.{Parameter}
use Rattle.lang_ast.specs.declared.syntax.Source.TheVariants as source
use Rattle.lang_ast.specs.Terms.{Expr, Literal, Variable, Get, Apply, none, Named, Head, Node, Key, For, Remember, Stmt, Call, Block, Stmts, done, Func, exprs, stmts}
use Rattle.lang_ast.specs.ResultsWithReads.{Reading}
use Rattle.lang_ast.specs.Evaluation.{eval}
use Rattle.compose_model.specs.Composing.{forest}

-- All offsets are 0.

abbrev name : List ℕ → Ident
name text = record { at = 0; text = text }

abbrev variable : List ℕ → Expr
variable text = Variable (name text)

abbrev number : ℕ → Expr
number n = Literal 0 (value.Int (pos n))

abbrev state : ℕ → Expr
state x = Get 0 (name []) (source.State x)

abbrev applied : Operator → List Expr → Expr
applied op es = Apply 0 op (exprs es)

abbrev named : List ℕ → Expr → Named
named text e = record { name = name text; value = e }

abbrev block : ℕ → Head → Stmts → Stmt
block site head body = Block 0 site head body

abbrev func : List Parameter → List Stmt → Func
func parameters body = record { at = 0; name = name []; parameters = parameters; body = stmts body }

abbrev integer : List ℕ → Parameter
integer text = record { name = name text; ty = ty.Int }

-- A map with these values, each with stamp 0.
abbrev values : List Value → Map
values [] = []
values (v ∷ vs) = record { value = v; stamp = 0 } ∷ values vs

abbrev shown : List ℕ → ℤ → Attribute
shown text z = record { name = text; value = value.Int z }

abbrev told : ℕ → ℕ → ℕ → ℕ → ℕ → Report
told ran calculated reads groups nodes =
    record { ran = ran; calculated = calculated; reads = reads; groups = groups; nodes = nodes }

-- Rows with keys: a list of items, each shown by a node inside a key group.

abbrev rows : List Func
rows = func []
    (block 1 (For (name (codes "i")) (state 0))
    (stmts (block 2 (Key (variable (codes "i")))
    (stmts (block 3 (Node (name (codes "Row")) (named (codes "item") (variable (codes "i")) ∷ [])) done ∷ [])) ∷ []))
    ∷ []) ∷ []

abbrev three : ℕ → ℕ → ℕ → GroupForest
three i j k = forest rows 0 (values (value.Ints (pos i ∷ pos j ∷ pos k ∷ []) ∷ []))

abbrev row : ℕ → ℕ → GroupForest → GroupForest
row n i rest = Group 2 0 (trail.Key (value.Int (pos i)))
    (Group 3 n (trail.Node (codes "Row") (shown (codes "item") (pos i) ∷ [])) End End) rest

abbrev rows_trail : ℕ → ℕ → ℕ → ℕ → ℕ → ℕ → GroupForest
rows_trail m i n j o k = Group 0 0 (trail.Call 0 []) (Read 0 (row m i (row n j (row o k End)))) End

-- The rows follow the items. Both frames run the call of the root. After the items are reordered each row keeps its
-- number.
abbrev pub RowsUnderKeys : Type 0
RowsUnderKeys =
    (three 1 2 3 ≡ rows_trail 0 1 0 2 0 3) × (three 3 1 2 ≡ rows_trail 0 3 0 1 0 2) × (asks (three 1 2 3) ≡ 0 ∷ [])
    × (report (0 ∷ []) End (three 1 2 3) ≡ told 1 0 1 7 3)
    × (report (0 ∷ []) (three 1 2 3) (three 3 1 2) ≡ told 1 0 1 7 3)
    × (numbered_forest End [] [] 1 (three 1 2 3) ≡ (rows_trail 1 1 2 2 3 3, 4))
    × (numbered_forest (rows_trail 1 1 2 2 3 3) [] [] 4 (three 3 1 2) ≡ (rows_trail 3 3 1 1 2 2, 4))

-- Calls: a leaf that reads a state, called by a function with a parameter, called by the root.

abbrev calls : List Func
calls = func [] (block 1 (Node (name (codes "Leaf")) (named (codes "a") (state 0) ∷ [])) done ∷ [])
    ∷ func (integer (codes "n") ∷ [])
    (block 2 (Node (name (codes "Mid")) (named (codes "n") (variable (codes "n")) ∷ []))
    (stmts (Call 0 3 (name (codes "leaf")) 0 none ∷ [])) ∷ [])
    ∷ func [] (Call 0 4 (name (codes "mid")) 1 (exprs (number 7 ∷ [])) ∷ []) ∷ []

abbrev called : ℕ → GroupForest
called a = forest calls 2 (values (value.Int (pos a) ∷ []))

abbrev calls_trail : ℕ → ℕ → ℕ → GroupForest
calls_trail m n a = Group 0 0 (trail.Call 2 [])
    (Group 4 0 (trail.Call 1 (value.Int (pos 7) ∷ []))
    (Group 2 m (trail.Node (codes "Mid") (shown (codes "n") (pos 7) ∷ []))
    (Group 3 0 (trail.Call 0 [])
    (Read 0 (Group 1 n (trail.Node (codes "Leaf") (shown (codes "a") (pos a) ∷ [])) End End)) End) End) End) End

-- The first frame runs three calls. After a change of the state only the leaf runs.
abbrev pub CallsRunAlone : Type 0
CallsRunAlone =
    (called 1 ≡ calls_trail 0 0 1) × (asks (called 1) ≡ 0 ∷ [])
    × (report (0 ∷ []) End (called 1) ≡ told 3 0 1 5 2) × (report (0 ∷ []) (called 1) (called 2) ≡ told 1 0 1 5 2)
    × (numbered_forest (calls_trail 1 2 1) [] [] 3 (called 2) ≡ (calls_trail 1 2 2, 3))

-- A cell: the square of a state is remembered with the state as key, and shown with another state.

abbrev cells : List Func
cells = func []
    (block 1 (Remember (name (codes "v")) (named (codes "k") (state 0) ∷ [])
    (applied operator.Multiply (variable (codes "k") ∷ variable (codes "k") ∷ [])))
    (stmts (block 2 (Node (name (codes "Text"))
    (named (codes "v") (variable (codes "v")) ∷ named (codes "z") (state 1) ∷ [])) done ∷ [])) ∷ []) ∷ []

abbrev remembered : ℕ → ℕ → GroupForest
remembered k z = forest cells 0 (values (value.Int (pos k) ∷ value.Int (pos z) ∷ []))

abbrev pub cells_trail : ℕ → ℤ → ℕ → GroupForest
cells_trail k v z = Group 0 0 (trail.Call 0 [])
    (Read 0 (Group 1 0 (trail.Cell (value.Int (pos k) ∷ []) (value.Int v)) End
    (Read 1
    (Group 2 0 (trail.Node (codes "Text") (shown (codes "v") v ∷ shown (codes "z") (pos z) ∷ [])) End End)))) End

-- The square is calculated in the first frame and after a change of its key, and not after a change of the other
-- state.
abbrev pub CellsAreKept : Type 0
CellsAreKept =
    (remembered 2 0 ≡ cells_trail 2 (pos 4) 0) × (remembered 3 1 ≡ cells_trail 3 (pos 9) 1)
    × (asks (remembered 2 0) ≡ 0 ∷ 1 ∷ [])
    × (report (0 ∷ 1 ∷ []) End (remembered 2 0) ≡ told 1 1 2 3 1)
    × (report (1 ∷ []) (remembered 2 0) (remembered 2 1) ≡ told 1 0 2 3 1)
    × (report (0 ∷ []) (remembered 2 1) (remembered 3 1) ≡ told 1 1 2 3 1)
    × (report (0 ∷ []) (remembered 3 1) (remembered 2 1) ≡ told 1 1 2 3 1)

-- Loops: a head, and after it a dot for each pair of numbers below a state.

abbrev below : Expr
below = applied operator.Range (number 0 ∷ state 0 ∷ [])

abbrev loops : List Func
loops = func [] (block 1 (Node (name (codes "Head")) (named (codes "m") (state 1) ∷ [])) done ∷ [])
    ∷ func []
    (Call 0 2 (name (codes "head")) 0 none
    ∷ block 3 (For (name (codes "i")) below)
    (stmts (block 4 (For (name (codes "j")) below) (stmts (block 5 (Node (name (codes "Dot")) []) done ∷ [])) ∷ []))
    ∷ []) ∷ []

abbrev looped : ℕ → ℕ → GroupForest
looped n m = forest loops 1 (values (value.Int (pos n) ∷ value.Int (pos m) ∷ []))

abbrev loops_trail : ℕ → ℕ → GroupForest
loops_trail h d = Group 0 0 (trail.Call 1 [])
    (Group 2 0 (trail.Call 0 [])
    (Read 1 (Group 1 h (trail.Node (codes "Head") (shown (codes "m") (pos 5) ∷ [])) End End))
    (Read 0 (Read 0 (Group 5 d (trail.Node (codes "Dot") []) End End)))) End

-- The list of an inner loop is read again in each turn of the outer loop.
abbrev pub LoopsReadEachTurn : Type 0
LoopsReadEachTurn =
    (looped 1 5 ≡ loops_trail 0 0) × (asks (looped 1 5) ≡ 1 ∷ 0 ∷ 0 ∷ [])
    × (report (0 ∷ 1 ∷ []) End (looped 1 5) ≡ told 2 0 3 4 2)
    × (numbered_forest End [] [] 1 (looped 1 5) ≡ (loops_trail 1 2, 3))

-- A choice between two states, which depends on a third state.

abbrev picked : ℕ → Reading Value
picked a = eval (values (value.Int (pos a) ∷ value.Int (pos 5) ∷ value.Int (pos 7) ∷ []))
    (applied operator.Pick (applied operator.Equal (state 0 ∷ number 1 ∷ []) ∷ state 1 ∷ state 2 ∷ [])) []

-- A pick reads only the operand that it takes.
abbrev pub PicksReadOneOperand : Type 0
PicksReadOneOperand =
    (picked 1 ≡ record { value = value.Int (pos 5); reads = 0 ∷ 1 ∷ [] })
    × (picked 2 ≡ record { value = value.Int (pos 7); reads = 0 ∷ 2 ∷ [] })

-- The definitions of evaluation, composing and frames give these results for all programs.
abbrev pub ExamplesHold : Type 0
ExamplesHold = RowsUnderKeys × CallsRunAlone × CellsAreKept × LoopsReadEachTurn × PicksReadOneOperand
