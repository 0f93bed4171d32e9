-- Looking a group up by its path is descending through matched siblings.
use Rattle.std.proofs.Common.{ℕ, ◌+◌, List, [], ◌∷◌, ◌++◌, ◌≡◌, refl, ap, ◌∙◌, sym, map, length, length-append, Bool, true, false, ◌&&◌, if◌then◌else◌}
use Rattle.std.specs.List.{filter}
use Rattle.std.proofs.lemmas.List.{map-append}
use Rattle.std.proofs.lemmas.List.Elements.{filter-append}
use Rattle.rt_groups.specs.GroupForest.{GroupForest, End, Read, Group, GroupKind, Call, Node, Key, Cell}
use Rattle.rt_groups.specs.Paths.{Path, PathStep, GroupKey, sibling, step, occurrence, matching_sibling, inside_of, at_path}
use Rattle.rt_groups.specs.Frames.{CallAtPath, CellAtPath, nobody, innermost_call, calls, cells, trace, runs_after, call_runs, other_keys, is_calculated}
use Rattle.recompose_laws.specs.Work.{Work, work_sum, with_call, with_cell, with_read, runs_in, work_at_group, work, PathWorkIsSiblingWork}
use Rattle.recompose_laws.proofs.Works.{parts, same_parts, with_call-work_sum, with_cell-work_sum}

-- The groups inside the group at a path; at the empty path, all groups.
abbrev pub inside_at : Path → GroupForest → GroupForest
inside_at [] t = t
inside_at (s ∷ path) t = inside_at path (inside_of (matching_sibling s.of s.occurrence t))

pub at_path-append : (path : Path) (s : PathStep) (t : GroupForest)
    → at_path (path ++ s ∷ []) t ≡ matching_sibling s.of s.occurrence (inside_at path t)
at_path-append [] s t = refl
at_path-append (r ∷ []) s t = refl
at_path-append (r ∷ (q ∷ path)) s t = at_path-append (q ∷ path) s (inside_of (matching_sibling r.of r.occurrence t))

pub inside_at-append : (path : Path) (s : PathStep) (t : GroupForest)
    → inside_at (path ++ s ∷ []) t ≡ inside_of (matching_sibling s.of s.occurrence (inside_at path t))
inside_at-append [] s t = refl
inside_at-append (r ∷ path) s t = inside_at-append path s (inside_of (matching_sibling r.of r.occurrence t))

-- Lists of which some members are counted or kept.

count-append : {X : Type 0} (p : X → Bool) (xs ys : List X)
    → length (filter p (xs ++ ys)) ≡ length (filter p xs) + length (filter p ys)
count-append p xs ys = ap length (filter-append p xs ys) ∙ length-append (filter p xs) (filter p ys)

abbrev taken : List ℕ → GroupForest → List (CallAtPath × ℕ) → List ℕ
taken owed old rs = map (λ r. r.1) (filter (λ r. call_runs owed old r.0) rs)

taken-append : (owed : List ℕ) (old : GroupForest) (rs ss : List (CallAtPath × ℕ))
    → taken owed old (rs ++ ss) ≡ taken owed old rs ++ taken owed old ss
taken-append owed old rs ss =
    ap (λ l. map (λ (r : CallAtPath × ℕ). r.1) l) (filter-append (λ (r : CallAtPath × ℕ). call_runs owed old r.0) rs ss)
    ∙ map-append (λ (r : CallAtPath × ℕ). r.1) (filter (λ (r : CallAtPath × ℕ). call_runs owed old r.0) rs)
    (filter (λ (r : CallAtPath × ℕ). call_runs owed old r.0) ss)

-- The work of a forest by paths.
abbrev told : List ℕ → GroupForest → CallAtPath → Path → List GroupKey → GroupForest → Work
told owed old caller here seen t =
    parts (length (filter (call_runs owed old) (calls here seen t)))
    (length (filter (is_calculated owed old) (cells caller here seen t)))
    (taken owed old (trace caller here seen t))

-- The work at a group by its path, added to the work inside it.
abbrev at_place : List ℕ → GroupForest → CallAtPath → Path → GroupKind → Work → Work
at_place owed old caller path (Call f vs) w =
    with_call (call_runs owed old (record { path = path; what = Call f vs })) w
at_place owed old caller path (Node kind attributes) w = w
at_place owed old caller path (Key v) w = w
at_place owed old caller path (Cell ks v) w =
    with_cell (call_runs owed old caller && other_keys (at_path path old) ks) w

told-read : (b : Bool) (ran calculated : ℕ) (r : CallAtPath × ℕ) (rs : List (CallAtPath × ℕ)) →
    parts ran calculated (map (λ r. r.1) (if b then r ∷ rs else rs))
    ≡ with_read b r.1 (parts ran calculated (map (λ r. r.1) rs))
told-read true ran calculated r rs = refl
told-read false ran calculated r rs = refl

told-call : (b : Bool) (c : CallAtPath) (cs : List CallAtPath) (calculated : ℕ) (reads : List ℕ)
    → parts (length (if b then c ∷ cs else cs)) calculated reads ≡ with_call b (parts (length cs) calculated reads)
told-call true c cs calculated reads = refl
told-call false c cs calculated reads = refl

told-cell : (b : Bool) (ran : ℕ) (k : CellAtPath) (ks : List CellAtPath) (reads : List ℕ)
    → parts ran (length (if b then k ∷ ks else ks)) reads ≡ with_cell b (parts ran (length ks) reads)
told-cell true ran k ks reads = refl
told-cell false ran k ks reads = refl

told-append : (owed : List ℕ) (old : GroupForest) (as_ bs : List CallAtPath) (cs ds : List CellAtPath)
    (rs ss : List (CallAtPath × ℕ)) →
    parts (length (filter (call_runs owed old) (as_ ++ bs))) (length (filter (is_calculated owed old) (cs ++ ds)))
    (taken owed old (rs ++ ss))
    ≡ work_sum (parts (length (filter (call_runs owed old) as_)) (length (filter (is_calculated owed old) cs))
    (taken owed old rs)) (parts (length (filter (call_runs owed old) bs))
    (length (filter (is_calculated owed old) ds)) (taken owed old ss))
told-append owed old as_ bs cs ds rs ss =
    same_parts _ _ _ _ _ _ (count-append (call_runs owed old) as_ bs) (count-append (is_calculated owed old) cs ds)
    (taken-append owed old rs ss)

told-group : (owed : List ℕ) (old : GroupForest) (caller : CallAtPath) (here : Path) (seen : List GroupKey) (site n : ℕ)
    (what : GroupKind) (inside rest : GroupForest) →
    told owed old caller here seen (Group site n what inside rest)
    ≡ work_sum (at_place owed old caller (here ++ step site what seen ∷ []) what
    (told owed old (innermost_call caller (here ++ step site what seen ∷ []) what)
    (here ++ step site what seen ∷ []) [] inside)) (told owed old caller here (sibling site what ∷ seen) rest)
told-group owed old caller here seen site n (Call f vs) inside rest =
    let path = here ++ step site (Call f vs) seen ∷ [] in
    let me : CallAtPath = record { path = path; what = Call f vs } in
    told-call (call_runs owed old me) me
    (filter (call_runs owed old) (calls path [] inside ++ calls here (sibling site (Call f vs) ∷ seen) rest)) _ _
    ∙ ap (λ w. with_call (call_runs owed old me) w)
    (told-append owed old (calls path [] inside) (calls here (sibling site (Call f vs) ∷ seen) rest)
    (cells me path [] inside) (cells caller here (sibling site (Call f vs) ∷ seen) rest)
    (trace me path [] inside) (trace caller here (sibling site (Call f vs) ∷ seen) rest))
    ∙ with_call-work_sum (call_runs owed old me) (told owed old me path [] inside)
    (told owed old caller here (sibling site (Call f vs) ∷ seen) rest)
told-group owed old caller here seen site n (Node kind attributes) inside rest =
    let path = here ++ step site (Node kind attributes) seen ∷ [] in
    told-append owed old (calls path [] inside) (calls here (sibling site (Node kind attributes) ∷ seen) rest)
    (cells caller path [] inside) (cells caller here (sibling site (Node kind attributes) ∷ seen) rest)
    (trace caller path [] inside) (trace caller here (sibling site (Node kind attributes) ∷ seen) rest)
told-group owed old caller here seen site n (Key v) inside rest =
    let path = here ++ step site (Key v) seen ∷ [] in
    told-append owed old (calls path [] inside) (calls here (sibling site (Key v) ∷ seen) rest)
    (cells caller path [] inside) (cells caller here (sibling site (Key v) ∷ seen) rest)
    (trace caller path [] inside) (trace caller here (sibling site (Key v) ∷ seen) rest)
told-group owed old caller here seen site n (Cell ks v) inside rest =
    let path = here ++ step site (Cell ks v) seen ∷ [] in
    let cell : CellAtPath = record { caller = caller; path = path; keys = ks } in
    told-cell (is_calculated owed old cell) _ cell
    (filter (is_calculated owed old)
    (cells caller path [] inside ++ cells caller here (sibling site (Cell ks v) ∷ seen) rest)) _
    ∙ ap (λ w. with_cell (is_calculated owed old cell) w)
    (told-append owed old (calls path [] inside) (calls here (sibling site (Cell ks v) ∷ seen) rest)
    (cells caller path [] inside) (cells caller here (sibling site (Cell ks v) ∷ seen) rest)
    (trace caller path [] inside) (trace caller here (sibling site (Cell ks v) ∷ seen) rest))
    ∙ with_cell-work_sum (is_calculated owed old cell) (told owed old caller path [] inside)
    (told owed old caller here (sibling site (Cell ks v) ∷ seen) rest)

go_on : (owed : List ℕ) (old : GroupForest) (caller : CallAtPath) (here : Path) (s : PathStep) (what : GroupKind)
    (running : Bool) (beside : GroupForest) → beside ≡ inside_at here old → running ≡ call_runs owed old caller →
    runs_in owed running (matching_sibling s.of s.occurrence beside) what
    ≡ call_runs owed old (innermost_call caller (here ++ s ∷ []) what)
go_on owed old caller here s (Call f vs) running beside e r =
    ap (λ g. runs_after owed g (Call f vs))
    (ap (λ t. matching_sibling s.of s.occurrence t) e ∙ sym (at_path-append here s old))
go_on owed old caller here s _ running beside e r = r

same_place : (owed : List ℕ) (old : GroupForest) (caller : CallAtPath) (here : Path) (s : PathStep) (what : GroupKind)
    (running : Bool) (beside : GroupForest) (w : Work) → beside ≡ inside_at here old
    → running ≡ call_runs owed old caller →
    at_place owed old caller (here ++ s ∷ []) what w
    ≡ work_at_group (runs_in owed running (matching_sibling s.of s.occurrence beside) what)
    (matching_sibling s.of s.occurrence beside) what w
same_place owed old caller here s (Call f vs) running beside w e r =
    ap (λ b. with_call b w) (sym (go_on owed old caller here s (Call f vs) running beside e r))
same_place owed old caller here s (Node kind attributes) running beside w e r = refl
same_place owed old caller here s (Key v) running beside w e r = refl
same_place owed old caller here s (Cell ks v) running beside w e r =
    ap (λ b. with_cell (b && other_keys (at_path (here ++ s ∷ []) old) ks) w) (sym r)
    ∙ ap (λ g. with_cell (running && other_keys g ks) w)
    (at_path-append here s old ∙ ap (λ t. matching_sibling s.of s.occurrence t) (sym e))

along : (owed : List ℕ) (old : GroupForest) (caller : CallAtPath) (here : Path) (seen : List GroupKey) (running : Bool)
    (beside t : GroupForest) → beside ≡ inside_at here old → running ≡ call_runs owed old caller →
    told owed old caller here seen t ≡ work owed beside seen running t
along owed old caller here seen running beside End e r = refl
along owed old caller here seen running beside (Read x rest) e r =
    told-read (call_runs owed old caller) _ _ (caller, x)
    (filter (λ r. call_runs owed old r.0) (trace caller here seen rest))
    ∙ ap (λ b. with_read b x (told owed old caller here seen rest)) (sym r)
    ∙ ap (λ w. with_read running x w) (along owed old caller here seen running beside rest e r)
along owed old caller here seen running beside (Group site n what inside rest) e r =
    told-group owed old caller here seen site n what inside rest
    ∙ ap (λ w. work_sum (at_place owed old caller (here ++ step site what seen ∷ []) what w)
    (told owed old caller here (sibling site what ∷ seen) rest))
    (along owed old (innermost_call caller (here ++ step site what seen ∷ []) what)
    (here ++ step site what seen ∷ []) []
    (runs_in owed running (matching_sibling (sibling site what) (occurrence (sibling site what) seen) beside) what)
    (inside_of (matching_sibling (sibling site what) (occurrence (sibling site what) seen) beside)) inside
    (ap (λ t. inside_of (matching_sibling (sibling site what) (occurrence (sibling site what) seen) t)) e
    ∙ sym (inside_at-append here (step site what seen) old))
    (go_on owed old caller here (step site what seen) what running beside e r))
    ∙ ap (λ w. work_sum w (told owed old caller here (sibling site what ∷ seen) rest))
    (same_place owed old caller here (step site what seen) what running beside _ e r)
    ∙ ap (λ w. work_sum (work_at_group (runs_in owed running
    (matching_sibling (sibling site what) (occurrence (sibling site what) seen) beside) what)
    (matching_sibling (sibling site what) (occurrence (sibling site what) seen) beside) what
    (work owed (inside_of (matching_sibling (sibling site what) (occurrence (sibling site what) seen) beside)) []
    (runs_in owed running (matching_sibling (sibling site what) (occurrence (sibling site what) seen) beside) what)
    inside)) w)
    (along owed old caller here (sibling site what ∷ seen) running beside rest e r)

pub path_work_is_sibling_work : PathWorkIsSiblingWork
path_work_is_sibling_work owed old new = along owed old nobody [] [] true old new refl refl
