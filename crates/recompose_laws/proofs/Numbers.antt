-- Numbering a group by its path is numbering it by its siblings.
use Rattle.std.proofs.Common.{ℕ, List, [], ◌∷◌, ◌++◌, ◌≡◌, refl, ap, ◌∙◌, sym}
use Rattle.rt_groups.specs.GroupForest.{GroupForest, End, Read, Group}
use Rattle.rt_groups.specs.Paths.{Path, GroupKey, sibling, step, occurrence, matching_sibling, inside_of, at_path}
use Rattle.rt_groups.specs.Frames.{given_number, numbered_forest}
use Rattle.recompose_laws.specs.Numbering.{numbered_by_siblings, PathNumbersAreSiblingNumbers}
use Rattle.recompose_laws.proofs.Beside.{inside_at, at_path-append, inside_at-append}
use Rattle.recompose_laws.proofs.Plain.{put, same_put}

along : (old : GroupForest) (here : Path) (seen : List GroupKey) (k : ℕ) (beside t : GroupForest)
    → beside ≡ inside_at here old → numbered_forest old here seen k t ≡ numbered_by_siblings beside seen k t
along old here seen k beside End e = refl
along old here seen k beside (Read x rest) e =
    ap (λ (p : GroupForest × ℕ). (Read x p.0, p.1)) (along old here seen k beside rest e)
along old here seen k beside (Group site n what inside rest) e =
    let path = here ++ step site what seen ∷ [] in
    let found = matching_sibling (sibling site what) (occurrence (sibling site what) seen) beside in
    let same : at_path (here ++ step site what seen ∷ []) old ≡ matching_sibling (sibling site what) (occurrence (sibling site what) seen) beside =
    at_path-append here (step site what seen) old
    ∙ ap (λ t. matching_sibling (sibling site what) (occurrence (sibling site what) seen) t) (sym e) in
    let deeper : inside_of (matching_sibling (sibling site what) (occurrence (sibling site what) seen) beside) ≡ inside_at (here ++ step site what seen ∷ []) old =
    ap (λ t. inside_of (matching_sibling (sibling site what) (occurrence (sibling site what) seen) t)) e
    ∙ sym (inside_at-append here (step site what seen) old) in
    same_put site (given_number what (at_path path old) k).0 what
    (numbered_forest old path [] (given_number what (at_path path old) k).1 inside)
    (numbered_by_siblings (inside_of found) [] (given_number what (at_path path old) k).1 inside)
    (λ j. numbered_forest old here (sibling site what ∷ seen) j rest)
    (λ j. numbered_by_siblings beside (sibling site what ∷ seen) j rest)
    (along old (here ++ step site what seen ∷ []) []
    (given_number what (at_path (here ++ step site what seen ∷ []) old)
    k).1 (inside_of (matching_sibling (sibling site what) (occurrence (sibling site what) seen) beside)) inside
    deeper)
    (λ j. along old here (sibling site what ∷ seen) j beside rest e)
    ∙ ap (λ g. put site (given_number what g k).0 what
    (numbered_by_siblings (inside_of found) [] (given_number what g k).1 inside)
    (λ j. numbered_by_siblings beside (sibling site what ∷ seen) j rest)) same

pub path_numbers_are_sibling_numbers : PathNumbersAreSiblingNumbers
path_numbers_are_sibling_numbers old new k = along old [] [] k old new refl
