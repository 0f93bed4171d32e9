-- Trusted: what a composition keeps between frames, and the draft of the next frame.
use Rattle.std.specs.Prelude.{ℕ, ◌≡◌, ◌<◌, ◌≤◌, ◌++◌, List, [], Option, Some, None, true, false, Result, Err, IfOk, OnOk, OnErr}
use Rattle.rt_values.specs.Views.{Grew}
use Rattle.rt_values.specs.Maps.{Map}
use Rattle.rt_groups.specs.declared.groups.Group.{Group}
use Rattle.rt_groups.specs.declared.report.Report.{Report}
use Rattle.rt_groups.specs.GroupForest.{GroupForest, End, asks, how_many}
use Rattle.rt_groups.specs.PreorderGroups.{preorder}
use Rattle.rt_groups.specs.Frames.{LastFrame, numbered_forest, report, reads, most_groups}
use Rattle.lang_ast.specs.Terms.{Func}
use Rattle.lang_ast.specs.Programs.{functions_of, root_number}
use Rattle.lang_ast.specs.declared.program.Program.{Program}
use Rattle.recompose_scopes.specs.Scopes.{ScopeLists, AreScopesOf, own_reads}
use Rattle.compose_model.specs.Composing.{forest}
use Rattle.recompose_laws.specs.Refreshing.{SameReads}
use Rattle.recompose_laws.specs.Numbering.{without_numbers}
use Rattle.recompose_laws.specs.Idle.{IsNumbered}
use Rattle.composer.specs.declared.stop.ComposeStop.{ComposeStop}
use Rattle.composer.specs.declared.stop.ComposeStop.TheVariants.{TooManyGroups}
use Rattle.composer.specs.OwedObjects.{OwedObjects}

-- The index of a program's root.
abbrev pub root_of : Program → ℕ
root_of p = root_number (functions_of p)

-- The groups of the last good frame in preorder, the number of the next new node, and the scopes of the calls.
pub record HeldGroups : Type 0 where
  pub groups : List Group
  pub next : ℕ
  pub scopes : ScopeLists

-- The groups that are kept before a new frame and the groups of the frame, in preorder, the number of the next new
-- node, the report of the frame, and the scopes of its calls, if they are other ones than before.
pub record DraftGroups : Type 0 where
  pub olds : List Group
  pub groups : List Group
  pub next : ℕ
  pub report : Report
  pub scopes : Option ScopeLists

-- The groups are those of the kept forest, the next number is the kept number, and each scope is that of a call with
-- the objects that the call read itself.
abbrev pub Holds : HeldGroups → LastFrame → Type 0
Holds h k = (h.groups ≡ preorder 0 k.trail) × (h.next ≡ k.next) × AreScopesOf (own_reads h.groups) h.scopes

-- The scopes of new groups are those of their calls. Without scopes each new group has the reads of the group before at
-- its index, so the scopes stay.
abbrev pub HaveScopes : List Group → List Group → Option ScopeLists → Type 0
HaveScopes olds news None = own_reads news ≡ own_reads olds
HaveScopes olds news (Some scopes) = AreScopesOf (own_reads news) scopes

-- Before the first good frame nothing is kept and everything is owed. After it the kept forest is that of composing in
-- the map of that frame, only its nodes have numbers, and every object that it read and that changed up to the map `m`
-- is owed.
abbrev pub IsOwing : List Func → ℕ → Option Map → GroupForest → Map → OwedObjects → Type 0
IsOwing functions root None old m owed = (old ≡ End) × (owed.all ≡ true)
IsOwing functions root (Some seen) old m owed =
    (without_numbers old ≡ forest functions root seen) × (owed.all ≡ false) × IsNumbered old
    × SameReads owed.objects (asks old) seen m

-- The draft has the groups that the frame in the map `m` keeps after the kept frame, with their numbers, its report,
-- and the scopes of its calls.
pub record IsFrameDraft (functions : List Func) (root : ℕ) (owed : OwedObjects) (k : LastFrame) (m : Map)
    (d : DraftGroups) : Type 0 where
  pub groups : d.groups ≡ preorder 0 (numbered_forest k.trail [] [] k.next (forest functions root m)).0
  pub next : d.next ≡ (numbered_forest k.trail [] [] k.next (forest functions root m)).1
  pub report : d.report ≡ report owed.objects k.trail (forest functions root m)
  pub scopes : HaveScopes d.olds d.groups d.scopes

-- The result of composing a frame in the map `m` after the kept frame, with the reads that the view was asked for
-- before and after. A draft is that of the frame, which has few enough groups, and the reads are those of the calls
-- that run. Else the view was asked for a first part of these reads, and there are too many groups if the result says
-- so.
pub record ComposesFrame (functions : List Func) (root : ℕ) (owed : OwedObjects) (k : LastFrame) (m : Map)
    (asked asked' : List ℕ)
    (result : Result DraftGroups ComposeStop) : Type 0 where
  pub made : IfOk result (λ d. IsFrameDraft functions root owed k m d)
  pub fits : OnOk result (how_many (forest functions root m) ≤ most_groups)
  pub came : OnOk result (asked' ≡ asked ++ reads owed.objects k.trail (forest functions root m))
  pub many : result ≡ Err TooManyGroups → most_groups < how_many (forest functions root m)
  pub part : OnErr result (Grew asked asked' (reads owed.objects k.trail (forest functions root m)))
