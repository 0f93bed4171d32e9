-- Internal: the contract of evaluating the head of a block.
use Rattle.std.specs.Prelude.{ℕ, ◌+◌, ◌++◌, ◌≡◌, ◌≤◌, List, [], ◌∷◌, length, Result, IfOk, OnOk, OnErr}
use Rattle.rt_values.specs.declared.value.Value.TheVariants as value
use Rattle.rt_values.specs.Maps.{Map}
use Rattle.rt_values.specs.Operators.{items_of}
use Rattle.rt_groups.specs.GroupForest.{GroupForest}
use Rattle.rt_groups.specs.Frames.{most_groups}
use Rattle.rt_groups.specs.declared.groups.Group.{Group}
use Rattle.lang_ast.specs.Terms.{Head}
use Rattle.lang_ast.specs.Evaluation.{Bindings, new_binding}
use Rattle.compose_model.specs.Composing.{composed_block, turns}
use Rattle.lang_meaning.specs.declared.composition.Entered.{Entered}
use Rattle.lang_meaning.specs.declared.composition.Entered.TheVariants as entered
use Rattle.lang_meaning.specs.declared.composition.Progress.{Progress}
use Rattle.lang_meaning.specs.declared.composition.ScratchStop.{ScratchStop}
use Rattle.lang_meaning.specs.ComposesForest.{ComposesForest}

-- The depth of the groups that the body of a block makes.
abbrev pub body_depth : ℕ → Entered → ℕ
body_depth d entered.Inside = d + 1
body_depth d (entered.Bound name v) = d
body_depth d (entered.Turns name v) = d

-- The forest that remains after the head of a block, where `go` gives the forest of the body for the variables in scope
-- there.
abbrev pub body_left : Entered → Bindings → (Bindings → GroupForest) → GroupForest
body_left entered.Inside env go = go env
body_left (entered.Bound name v) env go = go (env ++ new_binding name.now.text v ∷ [])
body_left (entered.Turns name v) env go =
    turns (λ i. go (env ++ new_binding name.now.text (value.Int i) ∷ [])) (items_of v)

-- Whatever composes the forest that remains has composed the block `t`.
pub record Remains (depth : ℕ) (t : GroupForest) (go : Bindings → GroupForest) (env : Bindings) (out mid : List Group)
    (asked asked1 mine mine1 : List ℕ) (e : Entered) : Type 0 where
  pub whole : (out' : List Group) (asked' mine' : List ℕ) (result : Result (Unit {0}) ScratchStop) →
      ComposesForest (body_depth depth e) (body_left e env go) mid out' asked1 asked' mine1 mine' result
      → ComposesForest depth t out out' asked asked' mine mine' result

-- The contract of evaluating the head of a block at a site: the view changes only by reads, the variables in scope are
-- the same, and there is room for the body. In each map that the view shows, composing the body completes the block,
-- and an error is one of the block.
pub record EntersBlock {W : Type 0} (shown : W → Map → Type 0) (asked : W → List ℕ) (kept : W → W → Type 0)
    (depth site : ℕ) (head : Head) (view view' : W) (made made' : Progress) (result : Result Entered ScratchStop) : Type 0
  where
    pub keeps : kept view view'
    pub same : (m : Map) → shown view m → shown view' m
    pub same_scope : OnOk result (made'.scope ≡ made.scope)
    pub longer : OnOk result (length made.groups ≤ length made'.groups)
    pub deep : IfOk result (λ e. body_depth depth e ≤ length made'.groups)
    pub fits : OnOk result (length made'.groups ≤ most_groups)
    pub failed : (m : Map) (go : Bindings → GroupForest) → shown view m → OnErr result
        (ComposesForest depth (composed_block m site head made.scope go) made.groups made'.groups (asked view) (asked view')
        made.reads made'.reads result)
    pub remains : (m : Map) (go : Bindings → GroupForest) → shown view m → IfOk result
        (Remains depth (composed_block m site head made.scope go) go made.scope made.groups made'.groups (asked view)
        (asked view') made.reads made'.reads)
