-- Trusted: what a screen keeps, the state that it is in, and what a frame of it promises.
use Rattle.std.specs.Prelude.{◌≡◌, ◌⊎◌, ℕ, ◌<◌, true, length, Option, Some, None, Result, IfOk, IfErr}
use Rattle.std.specs.Option.{option_map}
use Rattle.rt_values.specs.Maps.{Map}
use Rattle.rt_groups.specs.declared.report.Report.{Report}
use Rattle.rt_groups.specs.Frames.{LastFrame, is_detached}
use Rattle.rt_groups.specs.Nodes.{nodes}
use Rattle.compose_model.specs.Frame.{FrameResult, frame}
use Rattle.lang_ast.specs.declared.program.Program.{Program}
use Rattle.lang_ast.specs.Programs.{functions_of}
use Rattle.node_tree.specs.NodeTrees.{CursorTree, tree_at_root}
use Rattle.snap_policy.specs.declared.policy.BuiltIn.{BuiltIn}
use Rattle.snap_policy.specs.Table.{table}
use Rattle.snap_api.specs.Valid.{IsValid}
use Rattle.snap_api.specs.World.{World, last_of, snapshot_of, clock_limit}
use Rattle.recomposer.specs.AppliedFrames.{Mirrors, UnlessFault, FaultHasCause, kept_after_fault}
use Rattle.recomposer.specs.Compositions.{IsAt, OwesNoCall, world_of_frame}
use Rattle.recomposer.specs.declared.composition.Composition.{Composition}
use Rattle.recomposer.specs.declared.composition.FrameStop.{FrameStop}
use Rattle.recomposer.specs.declared.composition.FrameStop.TheVariants.{TooManyGroups, ApplierFault, Spent, NoMemory}

-- What a screen keeps: its program, the composition, the world of the states, and the applier.
pub record ScreenParts (V A : Type 0) : Type 0 where
  pub program : Program
  pub composition : Composition
  pub world : V
  pub applier : A

abbrev pub screen_parts : {V A : Type 0} → Program → Composition → V → A → ScreenParts V A
screen_parts program composition world applier =
    record { program = program; composition = composition; world = world; applier = applier }

-- The screen represents the plain world `w`, and has kept the state `k` of its last good frame. A tree that the applier
-- knows is that of `k`, unless a call on the applier failed in the last frame.
pub record IsScreenAt {V A : Type 0} (stands : V → World BuiltIn → Type 0) (tree : A → Option CursorTree)
    (s : ScreenParts V A) (k : LastFrame) (w : World BuiltIn) : Type 0 where
  pub represents : stands s.world w
  pub valid : IsValid table w
  pub watched : 0 < length w.lasts
  pub watcher : s.composition.watcher ≡ 0
  pub program : s.composition.program.now ≡ s.program
  pub kept : IsAt s.composition k (last_of w 0)
  pub mirrors : Mirrors (tree s.applier) k

-- A screen is always in such a state.
pub record IsReadyScreen {V A : Type 0} (stands : V → World BuiltIn → Type 0) (tree : A → Option CursorTree)
    (s : ScreenParts V A) : Type 0 where
  pub kept : LastFrame
  pub world : World BuiltIn
  pub is_at : IsScreenAt stands tree s kept world

-- The values of the states in the global snapshot: a frame composes in these.
abbrev pub global_map : World BuiltIn → Map
global_map w = (snapshot_of w 0).view

-- The result of a frame: the program composed from scratch in the values of the states, with the numbers of the nodes
-- that were kept. There is none if it has too many groups.
abbrev pub screen_frame : Program → LastFrame → World BuiltIn → Option FrameResult
screen_frame p k w = frame (functions_of p) k (global_map w)

-- The world after a frame: it has taken and disposed the frame's snapshot.
abbrev pub world_after_frame : World BuiltIn → World BuiltIn
world_after_frame w = world_of_frame table w 0 0

-- A good frame: `result` is there and its report is returned. The screen has kept it, and a tree that the applier knows
-- is that of `result`. `at` says in which state the screen is.
pub record ShowsFrame (at : LastFrame → World BuiltIn → Type 0) (result : Option FrameResult) (w : World BuiltIn)
    (before now : Option CursorTree) (report : Report) : Type 0 where
  pub made : FrameResult
  pub is : result ≡ Some made
  pub reports : report ≡ made.told
  pub is_at : at made.left (world_after_frame w)
  pub shows : now ≡ option_map (λ t. tree_at_root (nodes made.left.trail)) before

-- A refused frame. It keeps what there was, and after a failed call on the applier only the number of the next new node:
-- the next frame then clears the applier's tree and makes all nodes again.
abbrev pub StopsFrame : (LastFrame → World BuiltIn → Type 0) → Option FrameResult → LastFrame → World BuiltIn
    → FrameStop → Type 0
StopsFrame at result k w TooManyGroups = (result ≡ None) × at k (world_after_frame w)
StopsFrame at result k w ApplierFault =
    (is_detached (kept_after_fault k result) ≡ true) × at (kept_after_fault k result) (world_after_frame w)
StopsFrame at result k w Spent = (w.clock ≡ clock_limit) × at k w
StopsFrame at result k w NoMemory = at k w ⊎ at k (world_after_frame w)

-- A frame led the screen from `old` to `new`, with this result.
pub record MakesScreenFrame {V A : Type 0} (stands : V → World BuiltIn → Type 0) (tree : A → Option CursorTree)
    (faults : A → ℕ) (old new : ScreenParts V A) (result : Result Report FrameStop) : Type 0 where
  -- After a good frame a tree that the applier knows is that of composing from scratch.
  pub good : (k : LastFrame) (w : World BuiltIn) → IsScreenAt stands tree old k w → IfOk result
      (ShowsFrame (IsScreenAt stands tree new) (screen_frame old.program k w) w (tree old.applier) (tree new.applier))
  -- A refused frame has a cause, and keeps what there was or, after a failed call on the applier, the next number.
  pub err : (k : LastFrame) (w : World BuiltIn) → IsScreenAt stands tree old k w → IfErr result
      (StopsFrame (IsScreenAt stands tree new) (screen_frame old.program k w) k w)
  -- A frame makes no call on the applier if no call of the last good frame has read a state that changed since.
  pub quiet : (k : LastFrame) (w : World BuiltIn) → IsScreenAt stands tree old k w → OwesNoCall k (global_map w)
      → new.applier ≡ old.applier
  -- A refusal except a failed call on the applier leaves the applier's tree.
  pub still : UnlessFault (tree new.applier ≡ tree old.applier) result
  -- The frame stops for a failed call only if a call on the applier failed.
  pub cause : FaultHasCause (faults old.applier) (faults new.applier) result
  -- The program stays.
  pub program : new.program ≡ old.program
