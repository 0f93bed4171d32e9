-- Trusted: the lines of a trace for calls and frames. Each line is the text of JSON tokens without spaces, with LF.
use Rattle.std.specs.Prelude.{ℕ, ℤ, List, [], ◌∷◌, ◌++◌, map, Bool, codes}
use Rattle.std.specs.List.{flat_map, cons_option, slice_get}
use Rattle.std.specs.Fmt.{decimal, signed_decimal}
use Rattle.json.specs.Token.{Token, begin_object, end_object, begin_array, end_array, key, string, number, boolean}
use Rattle.json.specs.Print.{print}
use Rattle.rt_values.specs.declared.value.Value.{Value}
use Rattle.rt_values.specs.declared.value.Value.TheVariants as value
use Rattle.rt_groups.specs.declared.groups.Attribute.{Attribute}
use Rattle.rt_groups.specs.declared.groups.GroupKind.{GroupKind}
use Rattle.rt_groups.specs.declared.groups.GroupKind.TheVariants as what
use Rattle.rt_groups.specs.declared.groups.Group.{Group}
use Rattle.rt_groups.specs.declared.report.Report.{Report}
use Rattle.lang_ast.specs.declared.program.State.{State}
use Rattle.lang_ast.specs.declared.program.Program.{Program}
use Rattle.lang_ast.specs.Terms.{Func}
use Rattle.lang_ast.specs.Programs.{functions_of}
use Rattle.run_causes.specs.declared.causes.Cause.{Cause}
use Rattle.run_causes.specs.declared.causes.Cause.TheVariants.{NewPath, OtherArguments, Read, Skipped}
use Rattle.run_causes.specs.declared.causes.Mark.{Mark}
use Rattle.run_causes.specs.declared.causes.Mark.TheVariants as mark
use Rattle.run_causes.specs.Causes.{is_run}
use Rattle.trace_lines.specs.declared.frame_line.FrameHead as memory

-- ---- parts

-- A line is the text of its tokens with LF.
abbrev pub line : List Token → List ℕ
line tokens = print tokens ++ 10 ∷ []

abbrev pub array : List Token → List Token
array tokens = begin_array ∷ (tokens ++ end_array ∷ [])

abbrev pub object : List Token → List Token
object tokens = begin_object ∷ (tokens ++ end_object ∷ [])

-- A member of an object: its name and the tokens of its value.
abbrev pub member : List ℕ → List Token → List Token
member name tokens = key name ∷ tokens

-- A member whose value is a natural number.
abbrev pub count : List ℕ → ℕ → List Token
count name n = member name (number (decimal n) ∷ [])

-- A member whose value is a string.
abbrev pub text : List ℕ → List ℕ → List Token
text name bytes = member name (string bytes ∷ [])

-- A member whose value is a truth value.
abbrev pub truth : List ℕ → Bool → List Token
truth name b = member name (boolean b ∷ [])

abbrev pub integers_tokens : List ℤ → List Token
integers_tokens zs = array (map (λ z. number (signed_decimal z)) zs)

abbrev pub value_tokens : Value → List Token
value_tokens (value.Int z) = number (signed_decimal z) ∷ []
value_tokens (value.Bool b) = boolean b ∷ []
value_tokens (value.Text t) = string t ∷ []
value_tokens (value.Ints zs) = integers_tokens zs

abbrev pub values_tokens : List Value → List Token
values_tokens vs = array (flat_map value_tokens vs)

-- ---- names

-- The names of a program that lines show: those of its states and of its functions, by number.
pub record Names : Type 0 where
  pub states : List (List ℕ)
  pub functions : List (List ℕ)

abbrev pub state_names : List State → List (List ℕ)
state_names states = map (λ s. s.name.text) states

abbrev pub function_names : List Func → List (List ℕ)
function_names functions = map (λ f. f.name.text) functions

abbrev pub names_of : List State → List Func → Names
names_of states functions = record { states = state_names states; functions = function_names functions }

-- The names of a program in memory.
abbrev pub program_names : Program → Names
program_names p = names_of p.states.items (functions_of p)

-- The item of a list at an index, as a list of at most one item.
abbrev pub item_at : {A : Type 0} → List A → ℕ → List A
item_at xs n = cons_option (slice_get xs n) []

-- The array of the names of objects. `states` are the names of the states, by number.
abbrev pub objects_tokens : List (List ℕ) → List ℕ → List Token
objects_tokens states objects = array (map string (flat_map (item_at states) objects))

-- ---- causes and groups

abbrev pub cause_members : List (List ℕ) → Cause → List Token
cause_members states NewPath = text (codes "cause") (codes "new path")
cause_members states (OtherArguments vs) =
    text (codes "cause") (codes "other arguments") ++ member (codes "old") (values_tokens vs)
cause_members states (Read xs) = text (codes "cause") (codes "read") ++ member (codes "owed") (objects_tokens states xs)
cause_members states Skipped = text (codes "cause") (codes "skipped")

-- The members that a mark adds to a group: whether a call ran and why, or whether the value of a cell was calculated.
abbrev pub mark_members : List (List ℕ) → Mark → List Token
mark_members states (mark.Call cause) = truth (codes "ran") (is_run cause) ++ cause_members states cause
mark_members states (mark.Cell calculated) = truth (codes "calculated") calculated
mark_members states mark.Other = []

-- An attribute is a pair, since a node may have several attributes of one name.
abbrev pub attribute_tokens : Attribute → List Token
attribute_tokens a = array (string a.name ∷ value_tokens a.value)

-- The members of a call of function f with its own reads.
abbrev pub call_members : Names → ℕ → List Value → List ℕ → List Token
call_members names f vs reads =
    text (codes "kind") (codes "call") ++ (member (codes "arguments") (values_tokens vs)
    ++ (flat_map (text (codes "function")) (item_at names.functions f)
    ++ member (codes "reads") (objects_tokens names.states reads)))

abbrev pub node_members : List ℕ → ℕ → List Attribute → List Token
node_members kind n attributes =
    text (codes "kind") (codes "node") ++ (text (codes "node") kind ++ (count (codes "number") n
    ++ member (codes "attributes") (array (flat_map attribute_tokens attributes))))

abbrev pub key_members : Value → List Token
key_members v = text (codes "kind") (codes "key") ++ member (codes "key") (value_tokens v)

abbrev pub cell_members : List Value → Value → List Token
cell_members ks v =
    text (codes "kind") (codes "cell") ++ (member (codes "keys") (values_tokens ks)
    ++ member (codes "value") (value_tokens v))

-- The members of a group that depend on its kind.
abbrev pub kind_members : Names → Group → GroupKind → List Token
kind_members names g (what.Call f vs) = call_members names f vs g.reads
kind_members names g (what.Node kind attributes) = node_members kind g.number attributes
kind_members names g (what.Key v) = key_members v
kind_members names g (what.Cell ks v) = cell_members ks v

abbrev pub group_tokens : Names → Group → Mark → List Token
group_tokens names g m =
    object (count (codes "depth") g.depth ++ (count (codes "site") g.site
    ++ (kind_members names g g.what ++ mark_members names.states m)))

-- The groups of a frame in preorder, each with its mark.
abbrev pub groups_tokens : Names → List Group → List Mark → List Token
groups_tokens names [] ms = []
groups_tokens names (g ∷ gs) [] = []
groups_tokens names (g ∷ gs) (m ∷ ms) = group_tokens names g m ++ groups_tokens names gs ms

abbrev pub report_members : Report → List Token
report_members r =
    count (codes "ran") r.ran ++ (count (codes "calculated") r.calculated ++ (count (codes "reads") r.reads
    ++ (count (codes "groups") r.groups ++ count (codes "nodes") r.nodes)))

abbrev pub report_tokens : Report → List Token
report_tokens r = object (report_members r)

-- ---- lines

-- The first members of the line of a frame: the number of the frame, the name of its actor, the number of its snapshot,
-- the objects that changed since the previous frame, and the objects that the frame owes.
pub record FrameHead : Type 0 where
  pub frame : ℕ
  pub actor : List ℕ
  pub snapshot : ℕ
  pub changed : List ℕ
  pub owed : List ℕ

abbrev pub head_members : Names → FrameHead → List Token
head_members names h =
    count (codes "frame") h.frame ++ (text (codes "actor") h.actor ++ (count (codes "snapshot") h.snapshot
    ++ (member (codes "changed") (objects_tokens names.states h.changed)
    ++ member (codes "owed") (objects_tokens names.states h.owed))))

-- The head that a value in memory represents.
abbrev pub head_view : memory.FrameHead → FrameHead
head_view h = record {
  frame = h.number;
  actor = h.actor.now;
  snapshot = h.snapshot;
  changed = h.changed.now;
  owed = h.owed.now;
}

-- A good frame. `ops` are the calls on the applier, as `run --ops` prints them.
abbrev pub good_frame_tokens : Names → FrameHead → Report → List Group → List Mark → List (List ℕ) → List Token
good_frame_tokens names h r groups marks ops =
    object (head_members names h ++ (member (codes "report") (report_tokens r)
    ++ (member (codes "groups") (array (groups_tokens names groups marks))
    ++ member (codes "ops") (array (map string ops)))))

abbrev pub good_frame_line : Names → FrameHead → Report → List Group → List Mark → List (List ℕ) → List ℕ
good_frame_line names h r groups marks ops = line (good_frame_tokens names h r groups marks ops)

abbrev pub refused_frame_tokens : Names → FrameHead → List Token
refused_frame_tokens names h = object (head_members names h ++ text (codes "refused") (codes "too many groups"))

abbrev pub refused_frame_line : Names → FrameHead → List ℕ
refused_frame_line names h = line (refused_frame_tokens names h)

-- A call whose line in `run` has this text, without LF.
abbrev pub call_tokens : List ℕ → List Token
call_tokens words = object (text (codes "call") words)

abbrev pub call_line : List ℕ → List ℕ
call_line words = line (call_tokens words)
