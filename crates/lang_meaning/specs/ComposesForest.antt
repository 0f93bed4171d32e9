-- Internal: the contract of the functions that compose a part of a program.
use Rattle.std.specs.Prelude.{ℕ, ℤ, ◌++◌, ◌≡◌, ◌<◌, ◌≤◌, List, length, map, Result, Err, OnOk, OnErr}
use Rattle.rt_values.specs.declared.value.Value.{Value}
use Rattle.rt_values.specs.Maps.{Map}
use Rattle.rt_values.specs.Views.{Grew}
use Rattle.rt_groups.specs.GroupForest.{GroupForest, End, asks, own_part}
use Rattle.rt_groups.specs.GroupForest as trail
use Rattle.rt_groups.specs.PreorderGroups.{preorder}
use Rattle.rt_groups.specs.Frames.{most_groups}
use Rattle.rt_groups.specs.declared.groups.Group.{Group}
use Rattle.lang_ast.specs.Terms.{Expr, Named, Head, Stmt, Stmts}
use Rattle.lang_ast.specs.Evaluation.{Bindings, eval, eval_named}
use Rattle.compose_model.specs.Composing.{forest_after, group, composed_block}
use Rattle.lang_meaning.specs.declared.composition.Level.{Level}
use Rattle.lang_meaning.specs.declared.composition.Progress.{Progress}
use Rattle.lang_meaning.specs.declared.composition.ScratchStop.{ScratchStop}
use Rattle.lang_meaning.specs.declared.composition.ScratchStop.TheVariants.{TooManyGroups}
use Rattle.compose_model.specs.StatementForests.{statement_forest, body_forest, call_forest, loop_forest}

-- The effect of composing a forest at a depth on the groups, on the list of reads that the view was asked for and on
-- the reads of the innermost call. A good result appends everything that the forest contains. Else the view was asked
-- for a first part of the reads, and there are too many groups if the result says so.
pub record ComposesForest (depth : ℕ) (t : GroupForest) (groups groups' : List Group)
    (asked asked' reads reads' : List ℕ) {U : Type 0} (result : Result U ScratchStop) : Type 0 where
  pub made : OnOk result (groups' ≡ groups ++ preorder depth t)
  pub came : OnOk result (asked' ≡ asked ++ asks t)
  pub charged : OnOk result (reads' ≡ reads ++ asks (own_part t))
  pub part : OnErr result (Grew asked asked' (asks t))
  pub many : result ≡ Err TooManyGroups → most_groups < length (groups ++ preorder depth t)

-- The state of a loop that composes the forest t, where `rest` is the part that remains.
pub record LoopProgress (depth : ℕ) (rest t : GroupForest) (groups groups' : List Group)
    (asked asked' reads reads' : List ℕ) : Type 0 where
  pub made : groups' ++ preorder depth rest ≡ groups ++ preorder depth t
  pub came : asked' ++ asks rest ≡ asked ++ asks t
  pub charged : reads' ++ asks (own_part rest) ≡ reads ++ asks (own_part t)

-- The forests of statements and calls at a level, as functions of the map.

abbrev pub statement_at : Level → Stmt → Bindings → Map → GroupForest
statement_at level s env m = statement_forest m level.functions.now s env

abbrev pub body_at : Level → Stmts → Bindings → Map → GroupForest
body_at level body env m = body_forest m level.functions.now body env

abbrev pub block_at : Level → ℕ → Head → Stmts → Bindings → Map → GroupForest
block_at level site head body env m = composed_block m site head env (λ inner. body_at level body inner m)

abbrev pub call_at : Level → ℕ → ℕ → List Value → Map → GroupForest
call_at level site function arguments m = call_forest m level.functions.now site function arguments

abbrev pub loop_at : Level → List ℕ → Stmts → Bindings → List ℤ → Map → GroupForest
loop_at level name body env items m = loop_forest m level.functions.now name body env items

-- The forest of a head: the reads that it makes and its group, if it makes one, with no statements governed by it.
abbrev pub head_at : ℕ → Head → Bindings → Map → GroupForest
head_at site head env m = composed_block m site head env (λ inner. End)

-- The forest of a cell: the reads of its keys and of its value, and its group.
abbrev pub cell_at : ℕ → List Named → Expr → Bindings → Map → GroupForest
cell_at site keys e env m =
    forest_after (eval_named m keys env) (λ ks. forest_after (eval m e ks) (λ v.
    group site (trail.Cell (map (λ b. b.value) ks) v) trail.End))

-- `HasRoom level made`: the depth is possible after these groups, and there are not more groups than the limit.
abbrev pub HasRoom : Level → Progress → Type 0
HasRoom level made = (level.depth ≤ length made.groups) × (length made.groups ≤ most_groups)

-- The contract of composing a part of a program: `t m` is the forest of the part in the map `m`. The view and the
-- progress before are `view` and `made`, those after are `view'` and `made'`. The view changes only by reads, and it
-- shows the same maps. The variables in scope are the same, and the effect is that of the forest in each map that the
-- view shows.
pub record Composes {W : Type 0} (shown : W → Map → Type 0) (asked : W → List ℕ) (kept : W → W → Type 0)
    (depth : ℕ) (t : Map → GroupForest) (view view' : W) (made made' : Progress)
    {U : Type 0} (result : Result U ScratchStop) : Type 0 where
  pub keeps : kept view view'
  pub same : (m : Map) → shown view m → shown view' m
  pub same_scope : OnOk result (made'.scope ≡ made.scope)
  pub longer : OnOk result (length made.groups ≤ length made'.groups)
  pub fits : OnOk result (length made'.groups ≤ most_groups)
  pub ran : (m : Map) → shown view m →
      ComposesForest depth (t m) made.groups made'.groups (asked view) (asked view') made.reads made'.reads result
