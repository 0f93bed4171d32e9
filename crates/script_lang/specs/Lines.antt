-- Trusted: the lines that are printed of a history: one for each call, and the report, the calls on an applier and the
-- tree after the dispose of a frame's snapshot.
use Rattle.std.specs.Prelude.{ℕ, zero, suc, ◌+◌, ◌==◌, not, List, [], ◌∷◌, ◌++◌, map, Bool, true, false, codes, Option, Some, None, if◌then◌else◌, slice_get}
use Rattle.std.specs.List.{flat_map, filter}
use Rattle.std.specs.Option.{option_map_or}
use Rattle.std.specs.Fmt.{decimal}
use Rattle.rt_values.specs.Values.{value_text}
use Rattle.rt_values.specs.Keywords.{type_word, kind_word}
use Rattle.rt_values.specs.Maps.{contains}
use Rattle.rt_groups.specs.GroupForest.{Attribute, GroupForest}
use Rattle.rt_groups.specs.Nodes.{Nodes, Branch, nodes}
use Rattle.rt_groups.specs.Nodes as tree
use Rattle.rt_groups.specs.Frames.{LastFrame, no_last_frame}
use Rattle.rt_groups.specs.declared.report.Report.{Report}
use Rattle.lang_ast.specs.declared.program.State.{State}
use Rattle.lang_ast.specs.Terms.{Func}
use Rattle.lang_ast.specs.declared.program.Program.{Program}
use Rattle.compose_model.specs.Frame.{FrameResult, frame, kept_after}
use Rattle.node_tree.specs.Calls.{attribute_of}
use Rattle.node_tree.specs.FrameOps.{frame_ops}
use Rattle.node_tree.specs.declared.ops.NewNode.{NewNode}
use Rattle.node_tree.specs.declared.ops.Op.{Op}
use Rattle.node_tree.specs.declared.ops.Op.TheVariants as op
use Rattle.snap_policy.specs.declared.policy.BuiltIn.{BuiltIn}
use Rattle.snap_policy.specs.Table.{table}
use Rattle.snap_api.specs.declared.data.Request.{Request}
use Rattle.snap_api.specs.declared.data.Request.TheVariants as request
use Rattle.snap_api.specs.declared.data.Reply.{Reply}
use Rattle.snap_api.specs.declared.data.Reply.TheVariants as reply
use Rattle.snap_api.specs.declared.data.Refusal.{Refusal}
use Rattle.snap_api.specs.declared.data.Refusal.TheVariants as refusal
use Rattle.snap_api.specs.declared.data.Entry.{Entry}
use Rattle.snap_api.specs.World.{World, History, call, snapshot_of}
use Rattle.script_lang.specs.declared.flags.Flags.{Flags}
use Rattle.lang_script.specs.declared.scripts.Script.{Script}
use Rattle.lang_script.specs.SnapshotNames.{never_taken}
use Rattle.lang_script.specs.StepCalls.{ActorPart, no_notes, opening_world, sequential}
use Rattle.script_lang.specs.TreeJson.{tree_json}

-- The names in lines: those of the states and those of the actors, by number.
pub record Titles : Type 0 where
  pub states : List State
  pub actors : List (List ℕ)

-- The names that the lines of a script on a program have.
abbrev pub titles_of : Program → Script → Titles
titles_of program script = record { states = program.states.items; actors = script.actors.items }

-- What the lines of a run depend on besides its history: the names in lines, and the flags.
pub record LineStyle : Type 0 where
  pub titles : Titles
  pub flags : Flags

-- The name of the actor with this number; empty if there is none.
abbrev pub actor_name : List (List ℕ) → ℕ → List ℕ
actor_name actors number = option_map_or (λ name. name) (slice_get actors number) []

-- A line ends with LF.
abbrev pub line : List ℕ → List ℕ
line t = t ++ 10 ∷ []

abbrev pub state_name : List State → ℕ → List ℕ
state_name states x = option_map_or (λ s. s.name.text) (slice_get states x) []

-- The name of each state, each after a blank.
abbrev pub state_names : List State → List ℕ → List ℕ
state_names states [] = []
state_names states (x ∷ xs) = 32 ∷ state_name states x ++ state_names states xs

-- The number of a snapshot as it is printed: - for a number that is never assigned.
abbrev pub snapshot_number_text : ℕ → List ℕ
snapshot_number_text name = if name == never_taken then codes "-" else decimal name

-- A snapshot is printed as @ and its number.
abbrev pub snapshot : ℕ → List ℕ
snapshot name = 64 ∷ snapshot_number_text name

abbrev pub request_text : List State → Request → List ℕ
request_text states (request.Take parent kind) = codes "take " ++ kind_word kind ++ 32 ∷ snapshot parent
request_text states (request.TakeFor watcher) = codes "frame"
request_text states (request.Read name x) = codes "read " ++ snapshot name ++ 32 ∷ state_name states x
request_text states (request.Write name x v) =
    codes "write " ++ snapshot name ++ 32 ∷ state_name states x ++ 32 ∷ value_text v
request_text states (request.Apply name) = codes "apply " ++ snapshot name
request_text states (request.Dispose name) = codes "dispose " ++ snapshot name

abbrev pub refusal_text : Titles → Refusal → List ℕ
refusal_text t refusal.Spent = codes "spent"
refusal_text t (refusal.Closed name) = codes "closed"
refusal_text t refusal.Global = codes "global"
refusal_text t (refusal.NotYours owner) = codes "owned by " ++ actor_name t.actors owner
refusal_text t refusal.UnknownObject = codes "unknown object"
refusal_text t refusal.UnknownWatcher = codes "unknown watcher"
refusal_text t refusal.ReadOnly = codes "read only"
refusal_text t (refusal.WrongType kept) = codes "wrong type " ++ type_word kept
refusal_text t refusal.BadPolicy = codes "bad policy"
refusal_text t refusal.ParentClosed = codes "parent closed"
refusal_text t (refusal.Conflict x) = codes "conflict " ++ state_name t.states x
refusal_text t refusal.NoMemory = codes "no memory"

abbrev pub reply_text : Titles → Reply → List ℕ
reply_text t (reply.Taken name) = snapshot name
reply_text t (reply.TakenFor name changed) = snapshot name ++ codes " changed" ++ state_names t.states changed
reply_text t (reply.Got v) = value_text v
reply_text t (reply.Wrote true) = codes "changed"
reply_text t (reply.Wrote false) = codes "same"
reply_text t reply.Applied = codes "applied"
reply_text t reply.Disposed = codes "disposed"
reply_text t (reply.Refused r) = refusal_text t r

-- The first part of the line of a call: ACTOR: REQUEST =, and a blank.
abbrev pub call_text : Titles → ℕ → Request → List ℕ
call_text t caller q = actor_name t.actors caller ++ codes ": " ++ request_text t.states q ++ codes " = "

-- The line of a call: ACTOR: REQUEST = REPLY.
abbrev pub entry_line : Titles → Entry → List ℕ
entry_line t e = line (call_text t e.caller e.request ++ reply_text t e.reply)

-- A word and a number.
unfoldable pub count_text : List ℕ → ℕ → List ℕ
count_text word count = word ++ decimal count

-- The counts of what ran.
abbrev pub work_text : ℕ → ℕ → ℕ → List ℕ
work_text ran calculated reads =
    count_text (codes "report: ran ") ran
    ++ (count_text (codes ", calculated ") calculated ++ count_text (codes ", reads ") reads)

-- The counts of the groups and the nodes.
abbrev pub size_text : ℕ → ℕ → List ℕ
size_text groups nodes = count_text (codes ", groups ") groups ++ count_text (codes ", nodes ") nodes

abbrev pub report_line : Report → List ℕ
report_line r = line (work_text r.ran r.calculated r.reads ++ size_text r.groups r.nodes)

-- Two blanks for each level.
abbrev pub margin : ℕ → List ℕ
margin zero = []
margin (suc depth) = 32 ∷ 32 ∷ margin depth

-- Each attribute: a blank, the name, = and the value.
abbrev pub attributes_text : List Attribute → List ℕ
attributes_text [] = []
attributes_text (a ∷ more) = 32 ∷ a.name ++ 61 ∷ value_text a.value ++ attributes_text more

-- A node: its number, its kind and its attributes.
abbrev pub node_text : ℕ → List ℕ → List Attribute → List ℕ
node_text number kind attributes = 35 ∷ decimal number ++ 32 ∷ kind ++ attributes_text attributes

abbrev pub node_line : ℕ → ℕ → List ℕ → List Attribute → List ℕ
node_line depth number kind attributes = line (margin depth ++ node_text number kind attributes)

-- One line for each node, in preorder.
abbrev pub tree_lines : ℕ → Nodes → List (List ℕ)
tree_lines depth tree.None = []
tree_lines depth (Branch number kind attributes children rest) =
    node_line depth number kind attributes ∷ (tree_lines (depth + 1) children ++ tree_lines depth rest)

-- A node that an applier inserts.
abbrev pub new_node_text : NewNode → List ℕ
new_node_text node = node_text node.number node.kind (map attribute_of node.attributes)

-- A call on an applier with its arguments.
abbrev pub op_text : Op → List ℕ
op_text (op.Down index) = codes "down " ++ decimal index
op_text op.Up = codes "up"
op_text (op.InsertTopDown index node) = codes "insertTopDown " ++ decimal index ++ 32 ∷ new_node_text node
op_text (op.InsertBottomUp index node) = codes "insertBottomUp " ++ decimal index ++ 32 ∷ new_node_text node
op_text (op.Remove index count) = codes "remove " ++ decimal index ++ 32 ∷ decimal count
op_text (op.Move from to count) = codes "move " ++ decimal from ++ 32 ∷ decimal to ++ 32 ∷ decimal count
op_text (op.Set name value) = codes "set " ++ name ++ 32 ∷ value_text value
op_text op.Clear = codes "clear"

abbrev pub op_line : Op → List ℕ
op_line call = line (codes "op: " ++ op_text call)

-- With `--ops` a line for each call on an applier of a frame that keeps this forest after the kept state.
abbrev pub ops_lines : Flags → LastFrame → GroupForest → List (List ℕ)
ops_lines flags k trail = if flags.ops then map op_line (frame_ops k trail) else []

-- One line for each node, or with `--json` one line for the whole tree.
abbrev pub shown_tree : Flags → Nodes → List (List ℕ)
shown_tree flags t = if flags.json then line (tree_json t) ∷ [] else tree_lines 0 t

-- A good frame after the kept state prints its report, the calls on an applier and its tree.
abbrev pub frame_lines : Flags → LastFrame → Option FrameResult → List (List ℕ)
frame_lines flags k None = line (codes "refused: too many groups") ∷ []
frame_lines flags k (Some good) =
    report_line good.told ∷ (ops_lines flags k good.left.trail ++ shown_tree flags (nodes good.left.trail))

-- The state of a walk along a history: the plain world, what is kept of the last good frame, and the snapshots of
-- frames that are not disposed yet.
pub record Standing : Type 0 where
  pub world : World BuiltIn
  pub kept : LastFrame
  pub frames : List ℕ

-- Whether a call ends a frame.
abbrev pub ends_frame : List ℕ → Request → Bool
ends_frame frames (request.Dispose name) = contains name frames
ends_frame frames _ = false

-- The snapshot number of a dispose.
abbrev pub name_in : Request → ℕ
name_in (request.Dispose name) = name
name_in _ = 0

-- The snapshot that a call takes for a frame.
abbrev pub frame_taken : Request → Reply → List ℕ
frame_taken (request.TakeFor watcher) (reply.TakenFor name changed) = name ∷ []
frame_taken _ _ = []

-- The outcome of the frame that a call ends: it is composed in the view of its snapshot.
abbrev pub frame_at : List Func → Standing → Entry → Option FrameResult
frame_at functions s e = frame functions s.kept (snapshot_of s.world (name_in e.request)).view

-- The lines of a call, with those of the frame that it ends.
abbrev pub lines_at : LineStyle → List Func → Standing → Entry → List (List ℕ)
lines_at style functions s e =
    entry_line style.titles e
    ∷ (if ends_frame s.frames e.request then frame_lines style.flags s.kept (frame_at functions s e) else [])

abbrev pub next : List Func → Standing → Entry → Standing
next functions s e =
    let world = (call table s.world e.caller e.request).0 in
    if ends_frame s.frames e.request
    then record {
      world = world;
      kept = kept_after s.kept (frame_at functions s e);
      frames = filter (λ n. not (n == name_in e.request)) s.frames;
    }
    else record { world = world; kept = s.kept; frames = s.frames ++ frame_taken e.request e.reply }

-- The lines of a history, from a state of the walk.
abbrev pub lines : LineStyle → List Func → Standing → History → List (List ℕ)
lines style functions s [] = []
lines style functions s (e ∷ es) = lines_at style functions s e ++ lines style functions (next functions s e) es

-- The state of the walk after a history.
abbrev pub standing_after : List Func → Standing → History → Standing
standing_after functions s [] = s
standing_after functions s (e ∷ es) = standing_after functions (next functions s e) es

-- The state before the first call: the opening world, before any frame.
abbrev pub initial_standing : List State → Standing
initial_standing states = record { world = opening_world states; kept = no_last_frame; frames = [] }

-- All that a run prints: the lines of the history that the steps make one after the other.
unfoldable pub run_text : LineStyle → List Func → List ActorPart → List ℕ
run_text style functions parts =
    flat_map (λ l. l)
    (lines style functions (initial_standing style.titles.states)
    (sequential (opening_world style.titles.states) no_notes parts))
