-- Law: the laws that calls with equal reads need not run again, and that cells can keep their values.
use Rattle.std.specs.Prelude.{ℕ, ◌<◌, ◌≤◌, List, [], ◌∷◌, ◌≡◌, length, take, get_or, Bool, true, false, ◌||◌}
use Rattle.rt_values.specs.declared.value.Value.{Value}
use Rattle.rt_values.specs.Maps.{Map, value_at}
use Rattle.rt_groups.specs.GroupForest.{GroupForest, End, Read, Group, GroupKind, Call, asks, own_part}
use Rattle.lang_ast.specs.Terms.{Expr, Literal, Variable, Get, Apply, Exprs, none, more, Stmts, Func}
use Rattle.lang_ast.specs.Evaluation.{Bindings, eval}
use Rattle.compose_model.specs.Composing.{Meaning, meaning, meaning_at, meanings, run_all}

-- The objects of a list have equal values in two maps.
abbrev pub Agree : Map → Map → List ℕ → Type 0
Agree m m' [] = Unit {0}
Agree m m' (x ∷ xs) = (value_at m x ≡ value_at m' x) × Agree m m' xs

-- The forest inside a group, where the forest inside a call is composed again.
abbrev pub recomposed_inside : List Meaning → GroupKind → GroupForest → GroupForest
recomposed_inside fs (Call f vs) inside = meaning_at fs f vs
recomposed_inside fs _ inside = inside

-- A forest in which each call is composed again by the meaning of its function, and everything else is kept.
abbrev pub recomposed_forest : List Meaning → GroupForest → GroupForest
recomposed_forest fs End = End
recomposed_forest fs (Read x rest) = Read x (recomposed_forest fs rest)
recomposed_forest fs (Group site n what inside rest) =
    Group site n what (recomposed_inside fs what (recomposed_forest fs inside)) (recomposed_forest fs rest)

-- If the objects that an expression reads agree, it reads the same objects and has the same value.
abbrev pub EvaluationAgrees : Type 0
EvaluationAgrees = (m m' : Map) (e : Expr) (env : Bindings) →
    Agree m m' (eval m e env).reads → eval m e env ≡ eval m' e env

-- The own part of a call depends only on the values of its variables and on the values of its own reads.
abbrev pub OwnPartsAgree : Type 0
OwnPartsAgree = (m m' : Map) (fs fs' : List Meaning) (body : Stmts) (env : Bindings) →
    Agree m m' (asks (own_part (run_all m fs body env))) →
    own_part (run_all m fs body env) ≡ own_part (run_all m' fs' body env)

-- If the own reads of a call agree, composing it again gives its old own part, in which the inner calls are composed
-- again.
abbrev pub SkippingIsRight : Type 0
SkippingIsRight = (m m' : Map) (fs fs' : List Meaning) (body : Stmts) (env : Bindings) →
    Agree m m' (asks (own_part (run_all m fs body env))) →
    run_all m' fs' body env ≡ recomposed_forest fs' (own_part (run_all m fs body env))

-- A call makes the forest of the body of its function, which sees only the earlier functions. A call of a missing
-- function makes nothing.
abbrev pub CallsReachEarlierFunctions : Type 0
CallsReachEarlierFunctions = (m : Map) (functions : List Func) (j : ℕ) (args : List Value) (d : Func) →
    (j < length functions → meaning_at (meanings m functions) j args
    ≡ meaning m (meanings m (take j functions)) (get_or functions j d) args)
    × (length functions ≤ j → meaning_at (meanings m functions) j args ≡ End)

abbrev mutual
  -- Whether an expression contains a `Get`.
  pub has_get : Expr → Bool
  has_get (Literal at v) = false
  has_get (Variable name) = false
  has_get (Get at name source) = true
  has_get (Apply at op es) = have_get es

  -- Whether any of these expressions contains a `Get`.
  pub have_get : Exprs → Bool
  have_get none = false
  have_get (more e es) = has_get e || have_get es

-- A calculation without a `Get` reads nothing and has the same value in all maps, so a cell with equal keys can keep
-- its value.
abbrev pub CellsMayBeKept : Type 0
CellsMayBeKept = (e : Expr) → has_get e ≡ false → (m m' : Map) (env : Bindings) →
    ((eval m e env).reads ≡ []) × (eval m e env ≡ eval m' e env)
