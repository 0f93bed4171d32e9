-- The work of a concatenation of forests.
use Rattle.std.proofs.Common.{ℕ, List, [], ◌∷◌, ◌≡◌, refl, ap, ◌∙◌, Bool}
use Rattle.rt_groups.specs.GroupForest.{GroupForest, End, Read, Group, joined_forest}
use Rattle.rt_groups.specs.Paths.{GroupKey, sibling, occurrence, matching_sibling, inside_of}
use Rattle.recompose_laws.specs.Work.{Work, work_sum, with_read, runs_in, work_at_group, work, siblings, WorkGoesInOrder}
use Rattle.recompose_laws.proofs.Works.{no_work-work_sum, work_sum-work_sum, with_read-work_sum}

pub siblings-joined_forest : (t u : GroupForest) (seen : List GroupKey)
    → siblings (joined_forest t u) seen ≡ siblings u (siblings t seen)
siblings-joined_forest End u seen = refl
siblings-joined_forest (Read x rest) u seen = siblings-joined_forest rest u seen
siblings-joined_forest (Group site n what inside rest) u seen = siblings-joined_forest rest u (sibling site what ∷ seen)

work-joined_forest : (owed : List ℕ) (old : GroupForest) (seen : List GroupKey) (running : Bool) (t u : GroupForest) →
    work owed old seen running (joined_forest t u)
    ≡ work_sum (work owed old seen running t) (work owed old (siblings t seen) running u)
work-joined_forest owed old seen running End u = no_work-work_sum (work owed old seen running u)
work-joined_forest owed old seen running (Read x rest) u =
    ap (λ w. with_read running x w) (work-joined_forest owed old seen running rest u)
    ∙ with_read-work_sum running x (work owed old seen running rest) (work owed old (siblings rest seen) running u)
work-joined_forest owed old seen running (Group site n what inside rest) u =
    let here : Work = work_at_group (runs_in owed running
    (matching_sibling (sibling site what) (occurrence (sibling site what) seen) old) what)
    (matching_sibling (sibling site what) (occurrence (sibling site what) seen) old) what
    (work owed (inside_of (matching_sibling (sibling site what) (occurrence (sibling site what) seen) old)) []
    (runs_in owed running (matching_sibling (sibling site what) (occurrence (sibling site what) seen) old) what)
    inside) in
    ap (λ w. work_sum here w) (work-joined_forest owed old (sibling site what ∷ seen) running rest u)
    ∙ work_sum-work_sum here (work owed old (sibling site what ∷ seen) running rest)
    (work owed old (siblings rest (sibling site what ∷ seen)) running u)

pub work_goes_in_order : WorkGoesInOrder
work_goes_in_order owed old seen running t u =
    (work-joined_forest owed old seen running t u, siblings-joined_forest t u seen)
