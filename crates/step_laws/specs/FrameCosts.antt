-- Law: the groups that composing opens, group by group, are at most those of the bound.
use Rattle.std.specs.Prelude.{ℕ, ◌+◌, ◌≤◌, ◌≡◌, List, [], ◌∷◌, Bool, true, false, ◌||◌, Option, Some, None, if◌then◌else◌, take}
use Rattle.rt_values.specs.declared.value.Value.{Value}
use Rattle.rt_values.specs.Maps.{Map, contains}
use Rattle.rt_groups.specs.GroupForest.{GroupForest, End, Read, Group, GroupKind, Call, Node, Key, Cell, joined_forest, asks}
use Rattle.rt_groups.specs.Paths.{GroupKey, sibling, occurrence, Found, matching_sibling, inside_of}
use Rattle.rt_groups.specs.Frames.{runs_after}
use Rattle.lang_ast.specs.Terms.{Func}
use Rattle.lang_ast.specs.Programs.{Program}
use Rattle.lang_checks.specs.Numbers.{IsNumberedProgram}
use Rattle.lang_checks.specs.ProgramFaults.{program_faults}
use Rattle.compose_model.specs.Composing.{meanings, meaning_at, forest}
use Rattle.recompose_laws.specs.Work.{siblings}
use Rattle.recompose_laws.specs.Refreshing.{is_owed, SameReads}
use Rattle.recompose_laws.specs.Numbering.{without_numbers}
use Rattle.recompose_laws.specs.Idle.{IsNumbered, IsQuiet}
use Rattle.recompose_laws.specs.Distinct.{NodesAt}
use Rattle.step_laws.specs.Costs.{is_owed_call, owed_walks, step_bound}
use Rattle.step_laws.specs.Sums.{amount_if}

-- Whether a forest has an owed call.
abbrev pub has_owed_call : List ℕ → GroupForest → Bool
has_owed_call owed End = false
has_owed_call owed (Read x rest) = has_owed_call owed rest
has_owed_call owed (Group site n what inside rest) =
    (is_owed_call owed what inside || has_owed_call owed inside) || has_owed_call owed rest

-- The groups on the ways to all owed calls of a forest: at each level the siblings up to the last one that is or
-- contains an owed call.
abbrev pub visits : List ℕ → GroupForest → ℕ
visits owed End = 0
visits owed (Read x rest) = visits owed rest
visits owed (Group site n what inside rest) =
    (if has_owed_call owed (Group site n what inside rest) then 1 else 0) + (visits owed inside + visits owed rest)

-- Law: the groups on the ways to all owed calls are at most the sum of the walks to them.
abbrev pub WalksBoundVisits : Type 0
WalksBoundVisits = (owed : List ℕ) (t : GroupForest) → visits owed t ≤ owed_walks owed 0 0 t

-- The groups that are opened when a forest is skipped: those on the ways to the owed calls that no other owed call
-- contains. An owed call runs, so the groups inside it are not skipped.
abbrev pub skip_visits : List ℕ → GroupForest → ℕ
skip_visits owed End = 0
skip_visits owed (Read x rest) = skip_visits owed rest
skip_visits owed (Group site n what inside rest) =
    (if has_owed_call owed (Group site n what inside rest) then 1 else 0)
    + ((if is_owed_call owed what inside then 0 else skip_visits owed inside) + skip_visits owed rest)

-- The number of groups at the top of a forest.
abbrev pub sibling_count : GroupForest → ℕ
sibling_count End = 0
sibling_count (Read x rest) = sibling_count rest
sibling_count (Group site n what inside rest) = 1 + sibling_count rest

-- Whether a call that is matched with `old` in a skipped part runs: the old group is an owed call, or the call is new.
abbrev pub runs_in_skipped : List ℕ → Option Found → Bool
runs_in_skipped owed None = true
runs_in_skipped owed (Some g) = is_owed_call owed g.what g.inside

-- Whether a call runs. `running` says whether the call around it runs.
abbrev pub runs_beside : List ℕ → Bool → Option Found → GroupKind → Bool
runs_beside owed running old what = if running then runs_after owed old what else runs_in_skipped owed old

-- The groups that are opened inside one new call with the old groups `inside`: the siblings directly inside a call that
-- runs. A call that is kept by a running call is skipped. `go` counts what is opened for the new groups inside.
abbrev pub call_cost : List ℕ → Bool → Bool → GroupForest → (Bool → ℕ) → ℕ
call_cost owed running true inside go = sibling_count inside + go true
call_cost owed running false inside go = amount_if running (skip_visits owed inside) + go false

-- The groups that are opened inside one new group with the old groups `inside`. A running call opens the siblings
-- directly inside its nodes and keys. Nothing is inside a cell.
abbrev pub cost_inside : List ℕ → Bool → Option Found → GroupKind → GroupForest → (Bool → ℕ) → ℕ
cost_inside owed running old (Call f vs) inside go =
    call_cost owed running (runs_beside owed running old (Call f vs)) inside go
cost_inside owed running old (Node kind attributes) inside go = amount_if running (sibling_count inside) + go running
cost_inside owed running old (Key v) inside go = amount_if running (sibling_count inside) + go running
cost_inside owed running old (Cell ks v) inside go = if running then 0 else go false

-- The groups that are opened when a new forest is composed next to old siblings that were counted before. `seen` has the
-- new siblings so far, and `running` says whether the call around them runs. A running call opens at most one queued
-- sibling for each new one.
abbrev pub beside_cost : List ℕ → Bool → GroupForest → List GroupKey → GroupForest → ℕ
beside_cost owed running old seen End = 0
beside_cost owed running old seen (Read x rest) = beside_cost owed running old seen rest
beside_cost owed running old seen (Group site n what inside rest) =
    let found = matching_sibling (sibling site what) (occurrence (sibling site what) seen) old in
    amount_if running 1
    + (cost_inside owed running found what (inside_of found) (λ runs. beside_cost owed runs (inside_of found) [] inside)
    + beside_cost owed running old (sibling site what ∷ seen) rest)

-- The groups that are opened when a call runs next to the old groups inside it and makes the forest `new`.
abbrev pub run_cost : List ℕ → GroupForest → GroupForest → ℕ
run_cost owed old new = sibling_count old + beside_cost owed true old [] new

-- The groups that are opened inside one skipped group: an owed call runs, and any other group is skipped, which `go`
-- counts.
abbrev pub skip_cost_inside : Map → List ℕ → List Func → GroupKind → Bool → GroupForest → (List Func → ℕ) → ℕ
skip_cost_inside m owed functions (Call f vs) anew inside go =
    if anew then run_cost owed inside (meaning_at (meanings m functions) f vs) else go (take f functions)
skip_cost_inside m owed functions (Node kind attributes) anew inside go = go functions
skip_cost_inside m owed functions (Key v) anew inside go = go functions
skip_cost_inside m owed functions (Cell ks v) anew inside go = go functions

-- The groups that are opened when old groups are skipped, one after another.
abbrev pub skip_cost : Map → List ℕ → GroupForest → List Func → ℕ
skip_cost m owed End functions = 0
skip_cost m owed (Read x rest) functions = skip_cost m owed rest functions
skip_cost m owed (Group site n what inside rest) functions =
    (if has_owed_call owed (Group site n what inside rest) then 1 else 0)
    + (skip_cost_inside m owed functions what (is_owed owed inside) inside (skip_cost m owed inside)
    + skip_cost m owed rest functions)

-- Law: the cost of a concatenation is the cost of `t`, then the cost of `u` with the groups of `t` counted as earlier
-- siblings.
abbrev pub CostGoesInOrder : Type 0
CostGoesInOrder = (owed : List ℕ) (running : Bool) (old : GroupForest) (seen : List GroupKey) (t u : GroupForest) →
    beside_cost owed running old seen (joined_forest t u)
    ≡ beside_cost owed running old seen t + beside_cost owed running old (siblings t seen) u

-- Law: skipping the old groups of a call that does not run opens the groups on the ways to its owed calls, and what
-- composing the call again next to them opens in these calls.
abbrev pub SkippingCostIsKeptCost : Type 0
SkippingCostIsKeptCost =
    (m m' : Map) (owed : List ℕ) (functions : List Func) (f : ℕ) (vs : List Value) (inside : GroupForest) →
    without_numbers inside ≡ meaning_at (meanings m functions) f vs → SameReads owed (asks inside) m m' →
    is_owed owed inside ≡ false →
    skip_cost m' owed inside (take f functions)
    ≡ skip_visits owed inside + beside_cost owed false inside [] (meaning_at (meanings m' functions) f vs)

-- Law: the groups that a frame opens are at most the bound. A new node must not be matched with an old call, which is so
-- if the nodes of both forests are at the sites of node statements.
abbrev pub CostsAreBounded : Type 0
CostsAreBounded = (at_site : ℕ → Bool) (owed : List ℕ) (old new : GroupForest) → NodesAt at_site old →
    NodesAt at_site new → skip_visits owed old + beside_cost owed false old [] new ≤ step_bound owed old new

-- Law: a frame of a checked program that skips the old groups opens at most as many groups as the bound says.
abbrev pub SkippingIsBounded : Type 0
SkippingIsBounded =
    (p : Program) (root : ℕ) (seen m : Map) (owed : List ℕ) (old : GroupForest) → IsNumberedProgram p →
    program_faults p ≡ [] → without_numbers old ≡ forest p.functions root seen → SameReads owed (asks old) seen m →
    skip_cost m owed old p.functions ≤ step_bound owed old (forest p.functions root m)

-- Law: the first frame of a checked program opens at most as many groups as the bound says.
abbrev pub FirstFrameIsBounded : Type 0
FirstFrameIsBounded = (p : Program) (root : ℕ) (m : Map) (owed : List ℕ) → IsNumberedProgram p →
    program_faults p ≡ [] →
    run_cost owed End (meaning_at (meanings m p.functions) root []) ≤ step_bound owed End (forest p.functions root m)

-- Of these objects, each is owed in both lists or in neither.
abbrev pub AreOwedAlike : List ℕ → List ℕ → List ℕ → Type 0
AreOwedAlike o p [] = Unit {0}
AreOwedAlike o p (x ∷ xs) = (contains x o ≡ contains x p) × AreOwedAlike o p xs

-- Law: lists of owed objects that agree on the reads of the old forest give one bound.
abbrev pub BoundIsOfReads : Type 0
BoundIsOfReads = (o p : List ℕ) (old new : GroupForest) → AreOwedAlike o p (asks old) →
    step_bound o old new ≡ step_bound p old new

-- Law: the bound of a frame that owes no call is 0.
abbrev pub QuietFramesAreFree : Type 0
QuietFramesAreFree = (m m' : Map) (owed : List ℕ) (functions : List Func) (root : ℕ) (old : GroupForest) →
    without_numbers old ≡ forest functions root m → SameReads owed (asks old) m m' → IsNumbered old →
    IsQuiet owed old → step_bound owed old (forest functions root m') ≡ 0
