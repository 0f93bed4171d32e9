-- Internal: the contracts of the functions that compose again.
use Rattle.std.specs.Prelude.{ℕ, ℤ, ◌+◌, ◌≡◌, ◌≤◌, List, [], length, Bool, true, false, Option, Some, Result, OnOk}
use Rattle.rt_values.specs.declared.value.Value.{Value}
use Rattle.rt_values.specs.Maps.{Map}
use Rattle.rt_groups.specs.declared.groups.Group.{Group as Listed}
use Rattle.rt_groups.specs.declared.groups.GroupKind.{GroupKind as ListedKind}
use Rattle.rt_groups.specs.declared.groups.GroupKind.TheVariants as listed
use Rattle.rt_groups.specs.GroupForest.{GroupForest, GroupKind, Call, Node, Key, Cell}
use Rattle.rt_groups.specs.Paths.{GroupKey, Found, inside_of}
use Rattle.rt_groups.specs.Frames.{most_groups}
use Rattle.lang_ast.specs.Terms.{Head, Stmt, Stmts, Func}
use Rattle.lang_ast.specs.SyntaxView.{functions_view}
use Rattle.lang_ast.specs.Evaluation.{Bindings}
use Rattle.compose_model.specs.Composing.{composed_block, meaning_at, meanings}
use Rattle.compose_model.specs.StatementForests.{statement_forest, body_forest, call_forest, loop_forest}
use Rattle.recompose_laws.specs.Work.{siblings}
use Rattle.recompose_laws.specs.Refreshing.{is_owed}
use Rattle.recompose_laws.specs.CalculatedCells.{Calculation}
use Rattle.composer.specs.declared.progress.Level.{Level}
use Rattle.composer.specs.declared.progress.Progress.{Progress}
use Rattle.composer.specs.declared.stop.ComposeStop.{ComposeStop}
use Rattle.composer.specs.ComposerState.{ComposerState, composed_beside, run_beside, skipped_inside, skipped_groups}
use Rattle.composer.specs.BesideContracts.{Reaches, LastComposition, IsSince, OldSiblings, IsOldPart}
use Rattle.composer.specs.declared.pending.Pending.{Pending}
use Rattle.rt_groups.specs.PreorderGroups.{preorder}
use Rattle.lang_ast.specs.declared.program.Program.{Program}
use Rattle.composer.specs.FrameDrafts.{root_of, IsOwing}
use Rattle.lang_ast.specs.Programs.{functions_of}
use Rattle.composer.specs.FrameStates.{frame_state}
use Rattle.composer.specs.OldSiblings.{KeyInfo, LastFrameGroups}
use Rattle.composer.specs.OldGroups.{Fits, Alike, Begins}
use Rattle.composer.specs.WrittenGroups.{WrittenGroups, state_of}

-- A new forest was composed next to the old siblings, and the siblings that are left are those after its groups.
pub record ComposesBeside (owed : List ℕ) (old : GroupForest) (depth : ℕ) (seen : List GroupKey) (t : GroupForest)
    (s s' : ComposerState) (left : Pending) {U : Type 0} (result : Result U ComposeStop) : Type 0 where
  pub reached : Reaches (composed_beside owed old depth true seen t s) s' result
  pub fits : OnOk result (Fits depth left old (siblings t seen))

-- The state of a loop that composes the forest `t`, where `rest` is the part that remains. `now` has the new siblings
-- so far.
pub record BesideProgress (owed : List ℕ) (old : GroupForest) (depth : ℕ) (seen : List GroupKey) (rest t : GroupForest)
    (s s' : ComposerState) (left : Pending) : Type 0 where
  pub now : List GroupKey
  pub fits : Fits depth left old now
  pub behind : siblings rest now ≡ siblings t seen
  pub going : composed_beside owed old depth true now rest s' ≡ composed_beside owed old depth true seen t s

-- The groups in hand are the old siblings that no new one was matched with, and a part of what the last frame made.
pub record IsBeside (o : OldSiblings) (owed : List ℕ) (m : Map) (functions : List Func) (depth : ℕ) (left : Pending)
    : Type 0 where
  pub since : IsSince o.last functions
  pub part : IsOldPart o.last owed m o.old
  pub fits : Fits depth left o.old o.seen

-- The forests of statements and calls at a level, as functions of the map.

abbrev pub statement_at : Level → Stmt → Bindings → Map → GroupForest
statement_at level s env m = statement_forest m level.functions.now s env

abbrev pub body_at : Level → Stmts → Bindings → Map → GroupForest
body_at level body env m = body_forest m level.functions.now body env

abbrev pub block_at : Level → ℕ → Head → Stmts → Bindings → Map → GroupForest
block_at level site head body env m = composed_block m site head env (λ inner. body_at level body inner m)

abbrev pub call_at : Level → ℕ → ℕ → List Value → Map → GroupForest
call_at level site function arguments m = call_forest m level.functions.now site function arguments

abbrev pub loop_at : Level → List ℕ → Stmts → Bindings → List ℤ → Map → GroupForest
loop_at level name body env items m = loop_forest m level.functions.now name body env items

-- A group kind that contains other groups but is no call.
abbrev pub is_container : GroupKind → Bool
is_container (Call f vs) = false
is_container (Node kind attributes) = true
is_container (Key v) = true
is_container (Cell ks v) = false

abbrev pub is_call_kept : ListedKind → Bool
is_call_kept (listed.Call f vs) = true
is_call_kept (listed.Node kind attributes) = false
is_call_kept (listed.Key v) = false
is_call_kept (listed.Cell ks v) = false

-- There is no calculation to know.
abbrev pub any_calculation : Calculation → Type 0
any_calculation calc = Unit {0}

-- There are not more groups than the limit, and they change the groups `olds`.
pub record FitsIn (olds : List Listed) (written : WrittenGroups) : Type 0 where
  pub few : length written.groups ≤ most_groups
  pub same : written.olds ≡ olds

-- The depth is possible after these groups, which change those of the level's table.
pub record HasRoomToWrite (level : Level) (written : WrittenGroups) : Type 0 where
  pub deep : level.depth ≤ length written.groups
  pub fits : FitsIn level.last.now.groups written

-- The old siblings are groups of the level's table, and the new groups change that table.
pub record StaysIn (level : Level) (made : Progress) : Type 0 where
  pub written : FitsIn level.last.now.groups made.writer
  pub pending : made.pending.table.now.groups ≡ level.last.now.groups

pub record HasRoom (level : Level) (made : Progress) : Type 0 where
  pub deep : level.depth ≤ length made.writer.groups
  pub stays : StaysIn level made

-- What composing a part of a program leaves, whatever the part is. The view changes only by reads, and it shows the
-- same maps. The variables in scope are the same. The reads are counted when the call that makes them ends.
pub record Continues {W : Type 0} (shown : W → Map → Type 0) (asked : W → List ℕ) (kept : W → W → Type 0)
    (level : Level) (view view' : W)
    (made made' : Progress) {U : Type 0} (result : Result U ComposeStop) : Type 0 where
  pub keeps : kept view view'
  pub same : (m : Map) → shown view m → shown view' m
  pub same_scope : OnOk result (made'.scope ≡ made.scope)
  pub longer : OnOk result (length made.writer.groups ≤ length made'.writer.groups)
  pub fits : OnOk result (StaysIn level made')
  pub counted : (m : Map) → shown view m → OnOk result (made'.writer.reads + length made'.reads + length (asked view)
      ≡ made.writer.reads + length made.reads + length (asked view'))

-- The statements inside a group were composed next to the old groups inside the group `there`, which is `found` in the
-- table: `t m` is their forest in the map `m`, and `calculates` says that a calculation gives the values of its cells.
abbrev pub RanInside : Level → Option KeyInfo → (Map → GroupForest) → (Calculation → Type 0) → Map → List ℕ → List ℕ
    → Progress → Progress → {U : Type 0} → Result U ComposeStop → Type 0
RanInside level found t calculates m asked asked' made made' result =
    (l : LastComposition) (there : Option Found) → IsSince l (functions_view level.functions.now) →
    IsOldPart l level.last.now.owed.objects m (inside_of there) → Alike level.depth found there →
    calculates l.calculation →
    Reaches (composed_beside level.last.now.owed.objects (inside_of there) (level.depth + 1) true [] (t m)
    (state_of made.writer asked made.reads)) (state_of made'.writer asked' made'.reads) result

-- The contract of composing a part of a program: `t m` is the forest of the part in the map `m`, and `calculates` says
-- that a calculation gives the values of its cells. The view changes only by reads, and it shows the same maps. The
-- variables in scope are the same. The reads are counted when the call that makes them ends.
pub record Recomposes {W : Type 0} (shown : W → Map → Type 0) (asked : W → List ℕ) (kept : W → W → Type 0)
    (level : Level) (t : Map → GroupForest) (calculates : Calculation → Type 0) (view view' : W) (made made' : Progress)
    {U : Type 0} (result : Result U ComposeStop) : Type 0 where
  pub keeps : kept view view'
  pub same : (m : Map) → shown view m → shown view' m
  pub same_scope : OnOk result (made'.scope ≡ made.scope)
  pub longer : OnOk result (length made.writer.groups ≤ length made'.writer.groups)
  pub fits : OnOk result (StaysIn level made')
  pub counted : (m : Map) → shown view m → OnOk result (made'.writer.reads + length made'.reads + length (asked view)
      ≡ made.writer.reads + length made.reads + length (asked view'))
  pub ran : (m : Map) (o : OldSiblings) → shown view m →
      IsBeside o level.last.now.owed.objects m (functions_view level.functions.now) level.depth made.pending →
      calculates o.last.calculation →
      ComposesBeside level.last.now.owed.objects o.old level.depth o.seen (t m)
      (state_of made.writer (asked view) made.reads)
      (state_of made'.writer (asked view') made'.reads) made'.pending result

-- What is in hand stays: the variables in scope, the old siblings that are not matched yet, and the reads of the call.
pub record StaysInHand (made made' : Progress) : Type 0 where
  pub scope : made'.scope ≡ made.scope
  pub pending : made'.pending ≡ made.pending
  pub reads : made'.reads ≡ made.reads

-- The contract of writing the groups of a call that runs, or of groups that are skipped: `reaches m` is what was
-- reached in the map `m`.
pub record Writes {W : Type 0} (shown : W → Map → Type 0) (asked : W → List ℕ) (kept : W → W → Type 0)
    (olds : List Listed) (view view' : W) (made made' : Progress) {U : Type 0} (result : Result U ComposeStop)
    (reaches : Map → Type 0) : Type 0 where
  pub keeps : kept view view'
  pub same : (m : Map) → shown view m → shown view' m
  pub in_hand : OnOk result (StaysInHand made made')
  pub longer : OnOk result (length made.writer.groups ≤ length made'.writer.groups)
  pub fits : OnOk result (FitsIn olds made'.writer)
  pub counted : (m : Map) → shown view m → OnOk result (made'.writer.reads + length (asked view)
      ≡ made.writer.reads + length (asked view'))
  pub ran : (m : Map) → shown view m → reaches m

-- A call ran next to the old groups inside the group `there`, which is `found` in the table. `own` has the reads of the
-- call around it.
abbrev pub BodyRan : Level → Map → ℕ → ℕ → List Value → Option KeyInfo → List ℕ → List ℕ → WrittenGroups → WrittenGroups
    → {U : Type 0} → Result U ComposeStop → Type 0
BodyRan level m site function arguments found asked asked' written written' result =
    (l : LastComposition) (there : Option Found) (own : List ℕ) → IsSince l (functions_view level.functions.now) →
    IsOldPart l level.last.now.owed.objects m (inside_of there) → Alike level.depth found there →
    Reaches (run_beside level.last.now.owed.objects (inside_of there) level.depth site (Call function arguments)
    (meaning_at (meanings m (functions_view level.functions.now)) function arguments) (state_of written asked own))
    (state_of written' asked' own) result

-- An old group was skipped.
abbrev pub GroupSkipped : Level → Map → ℕ → KeyInfo → List ℕ → List ℕ → WrittenGroups → WrittenGroups → {U : Type 0}
    → Result U ComposeStop → Type 0
GroupSkipped level m site old asked asked' written written' result =
    (l : LastComposition) (f : Found) (own : List ℕ) → IsSince l (functions_view level.functions.now) →
    IsOldPart l level.last.now.owed.objects m f.inside → Alike level.depth (Some old) (Some f) →
    Reaches (skipped_inside m level.last.now.owed.objects (functions_view level.functions.now) level.depth site f.number
    f.what
    (is_owed level.last.now.owed.objects f.inside) f.inside (skipped_groups m level.last.now.owed.objects f.inside)
    (state_of written asked own))
    (state_of written' asked' own) result

-- The old groups of a forest were skipped.
abbrev pub GroupsSkipped : Level → Map → List Listed → List ℕ → List ℕ → WrittenGroups → WrittenGroups → {U : Type 0}
    → Result U ComposeStop → Type 0
GroupsSkipped level m groups asked asked' written written' result =
    (l : LastComposition) (t : GroupForest) (own : List ℕ) → IsSince l (functions_view level.functions.now) →
    IsOldPart l level.last.now.owed.objects m t → Begins level.depth groups t →
    Reaches (skipped_groups m level.last.now.owed.objects t (functions_view level.functions.now) level.depth
    (state_of written asked own))
    (state_of written' asked' own) result

-- The groups of a frame were written after those of `written`.
abbrev pub FrameWritten : Program → LastFrameGroups → Map → List ℕ → List ℕ → WrittenGroups → WrittenGroups
    → {U : Type 0} → Result U ComposeStop → Type 0
FrameWritten p last m asked asked' written written' result =
    (seen : Option Map) (t : GroupForest) (own : List ℕ) → last.groups ≡ preorder 0 t →
    IsOwing (functions_of p) (root_of p) seen t m last.owed →
    Reaches (frame_state (functions_of p) (root_of p) last.owed.objects t written.next m (state_of written asked own))
    (state_of written' asked' own) result
