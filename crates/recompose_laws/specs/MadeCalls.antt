-- Trusted: the calls of a kept forest, each made by its function.
use Rattle.std.specs.Prelude.{ℕ, ◌+◌, ◌<◌, List, [], ◌∷◌, ◌≡◌, Option, Some, None}
use Rattle.rt_values.specs.Maps.{Map}
use Rattle.rt_groups.specs.GroupForest.{GroupForest, End, Read, Group, GroupKind, Call}
use Rattle.rt_groups.specs.Paths.{Found}
use Rattle.lang_ast.specs.Terms.{Func, Stmt}
use Rattle.lang_ast.specs.Terms as terms
use Rattle.lang_ast.specs.Programs.{statements_in, Each}
use Rattle.compose_model.specs.Composing.{meanings, meaning_at, forest}
use Rattle.recompose_laws.specs.Numbering.{without_numbers}

-- The groups inside a call are those that its function makes in the map `m`, except for node numbers. `functions` has
-- all functions of the program.
abbrev pub IsMadeInside : Map → List Func → GroupKind → GroupForest → Type 0
IsMadeInside m functions (Call f vs) inside = without_numbers inside ≡ meaning_at (meanings m functions) f vs
IsMadeInside m functions _ inside = Unit {0}

-- Each call in a forest contains what its function makes in the map `m`.
abbrev pub IsMade : Map → List Func → GroupForest → Type 0
IsMade m functions End = Unit {0}
IsMade m functions (Read x rest) = IsMade m functions rest
IsMade m functions (Group site n what inside rest) =
    IsMadeInside m functions what inside × IsMade m functions inside × IsMade m functions rest

-- A group that a lookup found contains what its function makes, and so does each call inside.
abbrev pub IsFoundMade : Map → List Func → Option Found → Type 0
IsFoundMade m functions None = Unit {0}
IsFoundMade m functions (Some g) = IsMadeInside m functions g.what g.inside × IsMade m functions g.inside

-- If a statement is a call, it calls a function with a number below `k`.
abbrev pub CallsBelow : ℕ → Stmt → Type 0
CallsBelow k (terms.Call at site name function arguments) = function < k
CallsBelow k _ = Unit {0}

-- Each function calls only earlier functions. The first function of the list has number `k`.
abbrev pub AreOrdered : ℕ → List Func → Type 0
AreOrdered k [] = Unit {0}
AreOrdered k (f ∷ fs) = Each (CallsBelow k) (statements_in f.body) × AreOrdered (k + 1) fs

-- Law: if each function calls only earlier functions, each call of a kept forest contains what its function makes in
-- the map of that forest.
abbrev pub KeptCallsAreMade : Type 0
KeptCallsAreMade = (m : Map) (functions : List Func) (root : ℕ) (old : GroupForest) → AreOrdered 0 functions →
    without_numbers old ≡ forest functions root m → IsMade m functions old
