-- Internal: the contract of entering a block.
use Rattle.std.specs.Prelude.{ℕ, ◌+◌, ◌++◌, ◌≡◌, ◌≤◌, List, [], ◌∷◌, length, true, Option, Result, IfOk, OnOk, OnErr}
use Rattle.rt_values.specs.declared.value.Value.TheVariants as value
use Rattle.rt_values.specs.Maps.{Map}
use Rattle.rt_values.specs.Operators.{items_of}
use Rattle.rt_groups.specs.declared.groups.Group.{Group as Listed}
use Rattle.rt_groups.specs.GroupForest.{GroupForest}
use Rattle.rt_groups.specs.Paths.{GroupKey, Found, inside_of}
use Rattle.lang_ast.specs.Terms.{Head, Block, done, Func}
use Rattle.lang_ast.specs.SyntaxView.{functions_view}
use Rattle.lang_ast.specs.Evaluation.{Bindings, new_binding}
use Rattle.compose_model.specs.Composing.{composed_block, turns}
use Rattle.recompose_laws.specs.CalculatedCells.{Calculation, Calculates}
use Rattle.composer.specs.declared.blocks.Entered.{Entered}
use Rattle.composer.specs.declared.blocks.Entered.TheVariants as entered
use Rattle.composer.specs.declared.progress.Level.{Level}
use Rattle.composer.specs.declared.progress.Progress.{Progress}
use Rattle.composer.specs.declared.pending.Pending.{Pending}
use Rattle.composer.specs.declared.stop.ComposeStop.{ComposeStop}
use Rattle.composer.specs.ComposerState.{ComposerState, composed_beside}
use Rattle.composer.specs.BesideContracts.{Reaches, OldSiblings, IsOldPart}
use Rattle.composer.specs.OldSiblings.{IsFoundIn}
use Rattle.composer.specs.OldGroups.{Alike}
use Rattle.composer.specs.WrittenGroups.{state_of}
use Rattle.composer.specs.Recomposes.{ComposesBeside, IsBeside, Continues}

-- The depth of the groups that the body of a block makes.
abbrev pub body_depth : ℕ → Entered → ℕ
body_depth d (entered.Inside found) = d + 1
body_depth d (entered.Bound name v) = d
body_depth d (entered.Turns name v) = d

-- The old group that a block was matched with is one of these groups.
abbrev pub IsEnteredIn : List Listed → Entered → Type 0
IsEnteredIn groups (entered.Inside found) = IsFoundIn groups found
IsEnteredIn groups (entered.Bound name v) = Unit {0}
IsEnteredIn groups (entered.Turns name v) = Unit {0}

-- `calc` gives the value of the calculation in a head at a site, if there is one.
abbrev pub HeadCalculates : Calculation → ℕ → Head → Type 0
HeadCalculates calc site head = Calculates calc (Block 0 site head done)

-- The body of a block was composed: inside the group of the block next to the old groups inside the one that it was
-- matched with, or next to the old siblings of the block. `go` gives the forest of the body for the variables in scope
-- there.
abbrev pub BodyReaches : OldSiblings → List ℕ → Map → List Func → ℕ → Pending → Bindings → (Bindings → GroupForest)
    → ComposerState → Entered → ComposerState → Pending → Result (Unit {0}) ComposeStop → Type 0
BodyReaches o owed m fs depth left env go s (entered.Inside found) s' after result =
    OnOk result (after ≡ left) × ((there : Option Found) → IsOldPart o.last owed m (inside_of there)
    → Alike depth found there →
    Reaches (composed_beside owed (inside_of there) (depth + 1) true [] (go env) s) s' result)
BodyReaches o owed m fs depth left env go s (entered.Bound name v) s' after result =
    (now : List GroupKey) → IsBeside (record { last = o.last; old = o.old; seen = now }) owed m fs depth left
    → ComposesBeside owed o.old depth now (go (env ++ new_binding name.now.text v ∷ [])) s s' after result
BodyReaches o owed m fs depth left env go s (entered.Turns name v) s' after result =
    (now : List GroupKey) → IsBeside (record { last = o.last; old = o.old; seen = now }) owed m fs depth left
    → ComposesBeside owed o.old depth now
    (turns (λ i. go (env ++ new_binding name.now.text (value.Int i) ∷ [])) (items_of v)) s s' after result

-- Whatever composes the body of a block has composed the block `t`.
pub record Remains (o : OldSiblings) (owed : List ℕ) (m : Map) (fs : List Func) (depth : ℕ) (left : Pending)
    (env : Bindings) (go : Bindings → GroupForest) (t : GroupForest) (s mid : ComposerState) (e : Entered) : Type 0 where
  pub whole : (s' : ComposerState) (after : Pending) (result : Result (Unit {0}) ComposeStop) →
      BodyReaches o owed m fs depth left env go mid e s' after result
      → ComposesBeside owed o.old depth o.seen t s s' after result

-- The contract of entering a block at a site: there is room for its body, and in each map that the view shows, composing
-- the body completes the block, and an error is one of the block.
pub record EntersBlock {W : Type 0} (shown : W → Map → Type 0) (asked : W → List ℕ) (kept : W → W → Type 0)
    (level : Level) (site : ℕ) (head : Head) (view view' : W) (made made' : Progress) (result : Result Entered ComposeStop)
    : Type 0 where
  pub part : Continues shown asked kept level view view' made made' result
  pub deep : IfOk result (λ e. body_depth level.depth e ≤ length made'.writer.groups)
  pub found : IfOk result (λ e. IsEnteredIn level.last.now.groups e)
  pub failed : (m : Map) (o : OldSiblings) (go : Bindings → GroupForest) → shown view m →
      IsBeside o level.last.now.owed.objects m (functions_view level.functions.now) level.depth made.pending →
      HeadCalculates o.last.calculation site head → OnErr result
      (ComposesBeside level.last.now.owed.objects o.old level.depth o.seen (composed_block m site head made.scope go)
      (state_of made.writer (asked view) made.reads) (state_of made'.writer (asked view') made'.reads) made'.pending
      result)
  pub remains : (m : Map) (o : OldSiblings) (go : Bindings → GroupForest) → shown view m →
      IsBeside o level.last.now.owed.objects m (functions_view level.functions.now) level.depth made.pending →
      HeadCalculates o.last.calculation site head → IfOk result
      (Remains o level.last.now.owed.objects m (functions_view level.functions.now) level.depth made'.pending made.scope go
      (composed_block m site head made.scope go) (state_of made.writer (asked view) made.reads)
      (state_of made'.writer (asked view') made'.reads))
