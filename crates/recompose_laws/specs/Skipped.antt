-- Law: one call that is skipped.
use Rattle.std.specs.Prelude.{ℕ, List, [], ◌≡◌, take, false}
use Rattle.rt_values.specs.declared.value.Value.{Value}
use Rattle.rt_values.specs.Maps.{Map}
use Rattle.rt_groups.specs.GroupForest.{GroupForest, asks, own_part}
use Rattle.lang_ast.specs.Terms.{Func}
use Rattle.compose_model.specs.Composing.{meanings, meaning_at}
use Rattle.recompose_laws.specs.Work.{work}
use Rattle.recompose_laws.specs.Refreshing.{is_owed, SameReads}
use Rattle.recompose_laws.specs.Walking.{walk_work}
use Rattle.recompose_laws.specs.Numbering.{without_numbers, numbered_by_siblings, renewed_groups}

-- Law: for a call with equal arguments whose own reads do not include an owed object, the walk over its old groups
-- gives what composing the call again next to them gives: the same groups with numbers, the same work, and the same own
-- reads.
abbrev pub SkippedCallIsRenewed : Type 0
SkippedCallIsRenewed =
    (m m' : Map) (owed : List ℕ) (functions : List Func) (f : ℕ) (vs : List Value) (inside : GroupForest) (next : ℕ) →
    without_numbers inside ≡ meaning_at (meanings m functions) f vs → SameReads owed (asks inside) m m' →
    is_owed owed inside ≡ false →
    let new = meaning_at (meanings m' functions) f vs in
    (renewed_groups m' owed inside (take f functions) next ≡ numbered_by_siblings inside [] next new)
    × (walk_work m' owed inside (take f functions) ≡ work owed inside [] false new)
    × (asks (own_part new) ≡ asks (own_part inside))
