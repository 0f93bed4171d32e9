-- Internal: the groups of a new frame as they are written, and what each group adds.
use Rattle.std.specs.Prelude.{ℕ, ◌+◌, ◌-◌, ◌^◌, ◌<◌, ◌≤◌, ◌++◌, ◌≡◌, Ok, Err, List, [], ◌∷◌, length, Option, Some, None, Bool, if◌then◌else◌}
use Rattle.std.specs.declared.result.Result.{Result}
use Rattle.rt_values.specs.declared.value.Value.{Value}
use Rattle.rt_values.specs.Values.{same_values}
use Rattle.rt_groups.specs.declared.groups.Group.{Group}
use Rattle.rt_groups.specs.declared.groups.GroupKind.{GroupKind}
use Rattle.rt_groups.specs.declared.groups.GroupKind.TheVariants as what
use Rattle.rt_groups.specs.PreorderGroups.{flat_group}
use Rattle.slot_table.specs.TableGroups.{group_at}
use Rattle.slot_table.specs.ChangeLists.{nodes_in}
use Rattle.composer.specs.declared.stop.ComposeStop.{ComposeStop}
use Rattle.composer.specs.declared.stop.ComposeStop.TheVariants.{NoMemory}
use Rattle.composer.specs.declared.writer.NewKind.{NewKind}
use Rattle.composer.specs.declared.writer.NewKind.TheVariants as new
use Rattle.composer.specs.declared.writer.CallArguments.{CallArguments}
use Rattle.composer.specs.declared.writer.CallArguments.TheVariants as arguments
use Rattle.composer.specs.declared.writer.CellValue.{CellValue}
use Rattle.composer.specs.OldSiblings.{KeyInfo, old_group}
use Rattle.composer.specs.FrameDrafts.{DraftGroups, HaveScopes}
use Rattle.composer.specs.Comparisons.{other_keys}
use Rattle.composer.specs.ComposerState.{ComposerState, one_if}

-- The groups of the table that is changed, the new groups so far, the number of the next new node, how many calls ran
-- and how many cells were calculated, and how many reads the calls made that ran and ended.
pub record WrittenGroups : Type 0 where
  pub olds : List Group
  pub groups : List Group
  pub next : ℕ
  pub ran : ℕ
  pub calculated : ℕ
  pub reads : ℕ

-- The composer's state for the groups so far, with the reads that the view was asked for and those of the innermost
-- call.
abbrev pub state_of : WrittenGroups → List ℕ → List ℕ → ComposerState
state_of w asked own =
    record { groups = w.groups; next = w.next; ran = w.ran; calculated = w.calculated; asked = asked; own = own }

-- The kind of a new group.
abbrev pub group_kind : NewKind → GroupKind
group_kind (new.Node kind attributes) = what.Node kind.now attributes
group_kind (new.Key v) = what.Key v

-- The arguments of a call that runs.
abbrev pub arguments_of : CallArguments → List Value
arguments_of (arguments.New vs) = vs
arguments_of (arguments.Old vs) = vs.now

-- Old arguments are those of the old group, which is a call of this function.
abbrev pub AreArguments : ℕ → CallArguments → Option KeyInfo → Type 0
AreArguments f (arguments.New vs) found = Unit {0}
AreArguments f (arguments.Old vs) None = ⊥
AreArguments f (arguments.Old vs) (Some k) = (old_group k).what ≡ what.Call f vs.now

-- The reads of the group of a call until the call ends.
abbrev pub first_reads : CallArguments → Option KeyInfo → List ℕ
first_reads (arguments.New vs) found = []
first_reads (arguments.Old vs) None = []
first_reads (arguments.Old vs) (Some k) = (old_group k).reads

-- The number of a node and the next unused number: the number of the old group, or the next one.
abbrev pub number_for : Option KeyInfo → ℕ → ℕ × ℕ
number_for None next = (next, next + 1)
number_for (Some k) next = ((old_group k).number, next)

abbrev pub written_number : GroupKind → Option KeyInfo → ℕ → ℕ × ℕ
written_number (what.Call f vs) found next = (0, next)
written_number (what.Node kind attributes) found next = number_for found next
written_number (what.Key v) found next = (0, next)
written_number (what.Cell ks v) found next = (0, next)

-- 1 for a cell that is calculated.
abbrev pub cells_in : Option KeyInfo → GroupKind → ℕ
cells_in found (what.Call f vs) = 0
cells_in found (what.Node kind attributes) = 0
cells_in found (what.Key v) = 0
cells_in found (what.Cell ks v) = one_if (other_keys found ks)

-- A new group with its number. It counts if it is a cell that is calculated.
abbrev pub enter_group : ℕ → ℕ → GroupKind → Option KeyInfo → WrittenGroups → WrittenGroups
enter_group depth site w found d = record {
  olds = d.olds;
  groups = d.groups ++ flat_group depth site (written_number w found d.next).0 w [] ∷ [];
  next = (written_number w found d.next).1;
  ran = d.ran;
  calculated = d.calculated + cells_in found w;
  reads = d.reads;
}

-- The group of a call, which counts if it runs.
abbrev pub with_call : ℕ → ℕ → GroupKind → Bool → WrittenGroups → WrittenGroups
with_call depth site w runs d = record {
  olds = d.olds;
  groups = d.groups ++ flat_group depth site 0 w [] ∷ [];
  next = d.next;
  ran = d.ran + one_if runs;
  calculated = d.calculated;
  reads = d.reads;
}

-- The group of a call that runs, with the reads that it has until the call ends.
abbrev pub running_call : ℕ → ℕ → GroupKind → List ℕ → WrittenGroups → WrittenGroups
running_call depth site w reads d = record {
  olds = d.olds;
  groups = d.groups ++ flat_group depth site 0 w reads ∷ [];
  next = d.next;
  ran = d.ran + 1;
  calculated = d.calculated;
  reads = d.reads;
}

-- An old group that is kept.
abbrev pub written_kept : ℕ → ℕ → ℕ → GroupKind → List ℕ → WrittenGroups → WrittenGroups
written_kept depth site number w reads d = record {
  olds = d.olds;
  groups = d.groups ++ flat_group depth site number w reads ∷ [];
  next = d.next;
  ran = d.ran;
  calculated = d.calculated;
  reads = d.reads;
}

-- Old groups that are kept as they are.
abbrev pub written_run : List Group → WrittenGroups → WrittenGroups
written_run gs d = record {
  olds = d.olds;
  groups = d.groups ++ gs;
  next = d.next;
  ran = d.ran;
  calculated = d.calculated;
  reads = d.reads;
}

-- The number that a group keeps: that of a node.
abbrev pub number_kept : GroupKind → ℕ → ℕ
number_kept (what.Call f vs) n = 0
number_kept (what.Node kind attributes) n = n
number_kept (what.Key v) n = 0
number_kept (what.Cell ks v) n = 0

-- The value of an old cell that was calculated for these keys.
abbrev pub kept_in : GroupKind → List Value → Option Value
kept_in (what.Call f vs) ks = None
kept_in (what.Node kind attributes) ks = None
kept_in (what.Key v) ks = None
kept_in (what.Cell js v) ks = if same_values js ks then Some v else None

abbrev pub kept_of : Option KeyInfo → List Value → Option Value
kept_of None ks = None
kept_of (Some k) ks = kept_in (old_group k).what ks

-- The value of a cell if it is that of the old cell.
abbrev pub value_kept : CellValue → Option Value
value_kept c = if c.is_kept then Some c.value else None

-- The draft is that of a frame with these groups.
pub record IsDraftOf (w : WrittenGroups) (d : DraftGroups) : Type 0 where
  pub olds : d.olds ≡ w.olds
  pub groups : d.groups ≡ w.groups
  pub next : d.next ≡ w.next
  pub report : d.report ≡ record {
    ran = w.ran;
    calculated = w.calculated;
    reads = w.reads;
    groups = length w.groups;
    nodes = nodes_in w.groups;
  }
  pub scopes : HaveScopes d.olds d.groups d.scopes

-- The result of drafting a frame with these groups, which were written with the first result: the draft, or else why
-- they were not all written, or no memory.
abbrev pub Drafts : {U : Type 0} → WrittenGroups → Result U ComposeStop → Result DraftGroups ComposeStop → Type 0
Drafts w (Ok u) (Ok d) = IsDraftOf w d × (w.reads ≤ 2 ^ 64 - 1)
Drafts w (Ok u) (Err x) = x ≡ NoMemory
Drafts w (Err x) (Ok d) = ⊥
Drafts w (Err x) (Err y) = y ≡ x

-- The group at an index is at this depth and site, has this number, and has no reads.
pub record IsPlacedAt (groups : List Group) (at depth site number : ℕ) : Type 0 where
  pub inside : at < length groups
  pub depth_is : (group_at groups at).depth ≡ depth
  pub site_is : (group_at groups at).site ≡ site
  pub number_is : (group_at groups at).number ≡ number
  pub reads : (group_at groups at).reads ≡ []

-- The group at an index is this one, without reads.
pub record IsKeptAt (groups : List Group) (at depth site number : ℕ) (w : GroupKind) : Type 0 where
  pub inside : at < length groups
  pub is : group_at groups at ≡ flat_group depth site number w []
