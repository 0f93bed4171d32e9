-- Law: the work of one walk over the old groups.
use Rattle.std.specs.Prelude.{ℕ, List, [], ◌≡◌, length, Bool, true, take, if◌then◌else◌}
use Rattle.rt_values.specs.Maps.{Map}
use Rattle.rt_groups.specs.GroupForest.{GroupForest, End, Read, Group, GroupKind, Call, asks}
use Rattle.rt_groups.specs.Frames.{ran, calculated_cells, reads}
use Rattle.lang_ast.specs.Terms.{Func}
use Rattle.compose_model.specs.Composing.{meanings, meaning_at, forest}
use Rattle.recompose_laws.specs.Work.{Work, no_work, work_sum, with_call, work}
use Rattle.recompose_laws.specs.Refreshing.{is_owed, SameReads}

-- The work inside one group: an owed call runs, and its body is matched with its old groups; any other call does
-- nothing itself.
abbrev pub walk_work_inside : Map → List ℕ → List Func → GroupKind → Bool → GroupForest → (List Func → Work) → Work
walk_work_inside m owed functions (Call f vs) anew inside go =
    if anew then with_call true (work owed inside [] true (meaning_at (meanings m functions) f vs))
    else go (take f functions)
walk_work_inside m owed functions _ anew inside go = go functions

-- The work of the walk: that of the calls that are composed again.
abbrev pub walk_work : Map → List ℕ → GroupForest → List Func → Work
walk_work m owed End functions = no_work
walk_work m owed (Read x rest) functions = walk_work m owed rest functions
walk_work m owed (Group site n what inside rest) functions =
    work_sum (walk_work_inside m owed functions what (is_owed owed inside) inside (walk_work m owed inside))
    (walk_work m owed rest functions)

-- Law: if every object that the forest read and that changed is owed, the walk over the forest of one map does exactly
-- the work of the frame that makes the forest of the other.
abbrev pub WalkDoesTheFrame : Type 0
WalkDoesTheFrame = (m m' : Map) (owed : List ℕ) (functions : List Func) (root : ℕ) →
    SameReads owed (asks (forest functions root m)) m m' →
    let old = forest functions root m in
    let new = forest functions root m' in
    walk_work m' owed old functions
    ≡ record {
      ran = length (ran owed old new);
      calculated = length (calculated_cells owed old new);
      reads = reads owed old new;
    }
