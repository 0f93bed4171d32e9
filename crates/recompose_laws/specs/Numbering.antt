-- Trusted: node numbers, from the groups of one frame to those of the next.
use Rattle.std.specs.Prelude.{ℕ, List, [], ◌∷◌, ◌≡◌, length, Bool, take, if◌then◌else◌}
use Rattle.rt_values.specs.Maps.{Map}
use Rattle.rt_groups.specs.GroupForest.{GroupForest, End, Read, Group, GroupKind, Call, is_node, asks}
use Rattle.rt_groups.specs.Paths.{GroupKey, sibling, occurrence, matching_sibling, inside_of}
use Rattle.rt_groups.specs.Frames.{given_number, numbered_forest, ran, calculated_cells, reads}
use Rattle.lang_ast.specs.Terms.{Func}
use Rattle.compose_model.specs.Composing.{meanings, meaning_at, forest}
use Rattle.recompose_laws.specs.Refreshing.{is_owed, SameReads}
use Rattle.recompose_laws.specs.Walking.{walk_work}

-- A group forest without node numbers, as composing from scratch makes it.
abbrev pub without_numbers : GroupForest → GroupForest
without_numbers End = End
without_numbers (Read x rest) = Read x (without_numbers rest)
without_numbers (Group site n what inside rest) = Group site 0 what (without_numbers inside) (without_numbers rest)

-- The new forest with node numbers, and the next unused number, found by matching with the old siblings. `seen` has
-- the new siblings so far.
abbrev pub numbered_by_siblings : GroupForest → List GroupKey → ℕ → GroupForest → GroupForest × ℕ
numbered_by_siblings old seen next End = (End, next)
numbered_by_siblings old seen next (Read x rest) =
    let more = numbered_by_siblings old seen next rest in (Read x more.0, more.1)
numbered_by_siblings old seen next (Group site n what inside rest) =
    let found = matching_sibling (sibling site what) (occurrence (sibling site what) seen) old in
    let own_number = given_number what found next in
    let within = numbered_by_siblings (inside_of found) [] own_number.1 inside in
    let more = numbered_by_siblings old (sibling site what ∷ seen) within.1 rest in
    (Group site own_number.0 what within.0 more.0, more.1)

-- The number that a kept group has: a node keeps its number, other groups have 0.
abbrev pub kept_number : GroupKind → ℕ → ℕ
kept_number what n = if is_node what then n else 0

-- The groups inside one group, with numbers: an owed call is composed again, and its nodes are matched with its old
-- groups; any other call is walked.
abbrev pub renewed_inside : Map → List Func → GroupKind → Bool → GroupForest → ℕ → (List Func → ℕ → GroupForest × ℕ)
    → GroupForest × ℕ
renewed_inside m functions (Call f vs) anew inside next go =
    if anew then numbered_by_siblings inside [] next (meaning_at (meanings m functions) f vs)
    else go (take f functions) next
renewed_inside m functions _ anew inside next go = go functions next

-- The walk over the old groups with their numbers: calls whose own reads include an owed object are composed again,
-- and the rest keeps its numbers. The second result is the next unused number.
abbrev pub renewed_groups : Map → List ℕ → GroupForest → List Func → ℕ → GroupForest × ℕ
renewed_groups m owed End functions next = (End, next)
renewed_groups m owed (Read x rest) functions next =
    let more = renewed_groups m owed rest functions next in (Read x more.0, more.1)
renewed_groups m owed (Group site n what inside rest) functions next =
    let within = renewed_inside m functions what (is_owed owed inside) inside next (renewed_groups m owed inside) in
    let more = renewed_groups m owed rest functions within.1 in
    (Group site (kept_number what n) what within.0 more.0, more.1)

-- Law: node numbers by paths are node numbers by siblings.
abbrev pub PathNumbersAreSiblingNumbers : Type 0
PathNumbersAreSiblingNumbers = (old new : GroupForest) (next : ℕ) →
    numbered_forest old [] [] next new ≡ numbered_by_siblings old [] next new

-- Law: the forest that a frame keeps is that of composing from scratch, except for node numbers.
abbrev pub KeptTrailIsTheForest : Type 0
KeptTrailIsTheForest = (old : GroupForest) (next : ℕ) (functions : List Func) (root : ℕ) (m : Map) →
    without_numbers (numbered_forest old [] [] next (forest functions root m)).0 ≡ forest functions root m

-- Law: if every object that the kept forest read and that changed is owed, one walk over it gives the forest that the
-- frame of the other map keeps, and does exactly the frame's work.
abbrev pub ComposingAgainIsTheFrame : Type 0
ComposingAgainIsTheFrame =
    (m m' : Map) (owed : List ℕ) (functions : List Func) (root : ℕ) (old : GroupForest) (next : ℕ) →
    without_numbers old ≡ forest functions root m → SameReads owed (asks old) m m' →
    let new = forest functions root m' in
    (renewed_groups m' owed old functions next ≡ numbered_forest old [] [] next new)
    × (walk_work m' owed old functions
    ≡ record {
      ran = length (ran owed old new);
      calculated = length (calculated_cells owed old new);
      reads = reads owed old new;
    })
