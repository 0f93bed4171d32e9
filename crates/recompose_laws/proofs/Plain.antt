-- Composing from scratch gives no node numbers, and node numbers change nothing else.
use Rattle.std.proofs.Common.{ℕ, List, [], ◌∷◌, ◌++◌, ◌≡◌, refl, ap, ◌∙◌, sym, Bool, true, false, if◌then◌else◌, take}
use Rattle.rt_values.specs.declared.value.Value.{Value}
use Rattle.rt_values.specs.Maps.{Map}
use Rattle.rt_groups.specs.GroupForest.{GroupForest, End, Read, Group, GroupKind, asks, own_part}
use Rattle.rt_groups.specs.GroupForest as trail
use Rattle.rt_groups.specs.Paths.{Path, GroupKey, sibling, step, occurrence, matching_sibling, inside_of, at_path}
use Rattle.rt_groups.specs.Frames.{meets, given_number, numbered_forest}
use Rattle.lang_ast.specs.Terms.{Stmt, Call, If, Block, Func}
use Rattle.lang_ast.specs.Programs.{functions_statements}
use Rattle.lang_ast.specs.Evaluation.{Bindings}
use Rattle.compose_model.specs.Composing.{Meaning, group, meaning_at, meanings, forest}
use Rattle.recompose_laws.specs.Work.{with_read, work_sum, runs_in, work_at_group, work}
use Rattle.recompose_laws.specs.Refreshing.{is_owed, refreshed_inside, refreshed_groups}
use Rattle.recompose_laws.specs.Numbering.{without_numbers, numbered_by_siblings, KeptTrailIsTheForest}
use Rattle.recompose_laws.proofs.ForestProperties.{Encloses, allows_all, StatementFacts, AnyReads, AnyStmt, each_any, IsForestProperty, AllHold, meanings_hold}

-- A forest without node numbers.
abbrev IsPlain : GroupForest → Type 0
IsPlain t = without_numbers t ≡ t

group_plain : (site : ℕ) (what : GroupKind) → Encloses IsPlain site what
group_plain site what t u f g =
    ap (λ v. Group site 0 what v (without_numbers u)) f ∙ ap (λ v. Group site 0 what t v) g

-- The property that no group has a number, for all statements.
plain_forests : (m : Map) (fs : List Meaning) → AllHold IsPlain fs
    → IsForestProperty m fs AnyReads IsPlain AnyStmt
plain_forests m fs calls = record {
  none = refl;
  read = λ x xs r. (tt, λ t h. ap (λ u. Read x u) h);
  facts = facts;
}
  where
    facts : (s : Stmt) (env : Bindings) → AnyStmt s → StatementFacts m fs AnyReads IsPlain s env
    facts (Call at site name function arguments) env h = (tt, λ u g. group_plain site _ _ u (calls function _) g)
    facts (If at site condition then_branch else_branch) env h = tt
    facts (Block at site head body) env h = (tt, allows_all IsPlain site _ (group_plain site))

pub meaning_plain : (m : Map) (functions : List Func) (n : ℕ) (vs : List Value)
    → without_numbers (meaning_at (meanings m functions) n vs) ≡ meaning_at (meanings m functions) n vs
meaning_plain m functions n vs =
    meanings_hold (plain_forests m) functions refl (each_any (functions_statements functions)) n vs

forest_plain : (functions : List Func) (root : ℕ) (m : Map)
    → without_numbers (forest functions root m) ≡ forest functions root m
forest_plain functions root m = ap (λ t. group 0 (trail.Call root []) t) (meaning_plain m functions root [])

-- Numbering changes only the numbers.

without_numbers-numbered_forest : (old : GroupForest) (here : Path) (seen : List GroupKey) (k : ℕ) (t : GroupForest)
    → without_numbers (numbered_forest old here seen k t).0 ≡ without_numbers t
without_numbers-numbered_forest old here seen k End = refl
without_numbers-numbered_forest old here seen k (Read x rest) =
    ap (λ u. Read x u) (without_numbers-numbered_forest old here seen k rest)
without_numbers-numbered_forest old here seen k (Group site n what inside rest) =
    ap (λ u. Group site 0 what u
    (without_numbers (numbered_forest old here (sibling site what ∷ seen)
    (numbered_forest old (here ++ step site what seen ∷ []) []
    (given_number what (at_path (here ++ step site what seen ∷ []) old) k).1 inside).1 rest).0))
    (without_numbers-numbered_forest old (here ++ step site what seen ∷ []) []
    (given_number what (at_path (here ++ step site what seen ∷ []) old) k).1 inside)
    ∙ ap (λ u. Group site 0 what (without_numbers inside) u)
    (without_numbers-numbered_forest old here (sibling site what ∷ seen)
    (numbered_forest old (here ++ step site what seen ∷ []) []
    (given_number what (at_path (here ++ step site what seen ∷ []) old) k).1 inside).1 rest)

pub kept_trail_is_the_forest : KeptTrailIsTheForest
kept_trail_is_the_forest old k functions root m =
    without_numbers-numbered_forest old [] [] k (forest functions root m) ∙ forest_plain functions root m

-- Work and numbers depend on the forest without its numbers.

pub work-without_numbers : (owed : List ℕ) (old : GroupForest) (seen : List GroupKey) (running : Bool) (t : GroupForest)
    → work owed old seen running (without_numbers t) ≡ work owed old seen running t
work-without_numbers owed old seen running End = refl
work-without_numbers owed old seen running (Read x rest) =
    ap (λ w. with_read running x w) (work-without_numbers owed old seen running rest)
work-without_numbers owed old seen running (Group site n what inside rest) =
    ap (λ w. work_sum (work_at_group (runs_in owed running
    (matching_sibling (sibling site what) (occurrence (sibling site what) seen) old) what)
    (matching_sibling (sibling site what) (occurrence (sibling site what) seen) old) what w)
    (work owed old (sibling site what ∷ seen) running (without_numbers rest)))
    (work-without_numbers owed (inside_of (matching_sibling (sibling site what) (occurrence (sibling site what) seen)
    old)) [] (runs_in owed running (matching_sibling (sibling site what) (occurrence (sibling site what) seen) old)
    what) inside)
    ∙ ap (λ w. work_sum (work_at_group (runs_in owed running
    (matching_sibling (sibling site what) (occurrence (sibling site what) seen) old) what)
    (matching_sibling (sibling site what) (occurrence (sibling site what) seen) old) what
    (work owed (inside_of (matching_sibling (sibling site what) (occurrence (sibling site what) seen) old)) []
    (runs_in owed running (matching_sibling (sibling site what) (occurrence (sibling site what) seen) old) what)
    inside)) w)
    (work-without_numbers owed old (sibling site what ∷ seen) running rest)

-- A group with its contents, and then the groups after it, each with the next unused number.
abbrev pub put : ℕ → ℕ → GroupKind → GroupForest × ℕ → (ℕ → GroupForest × ℕ) → GroupForest × ℕ
put site n what within go = (Group site n what within.0 (go within.1).0, (go within.1).1)

pub same_put : (site n : ℕ) (what : GroupKind) (within within' : GroupForest × ℕ) (go go' : ℕ → GroupForest × ℕ)
    → within ≡ within' → ((k : ℕ) → go k ≡ go' k) → put site n what within go ≡ put site n what within' go'
same_put site n what within within' go go' e h =
    ap (λ (p : GroupForest × ℕ). (Group site n what within.0 p.0, p.1)) (h within.1)
    ∙ ap (λ (w : GroupForest × ℕ). put site n what w go') e

pub beside-without_numbers : (old : GroupForest) (seen : List GroupKey) (k : ℕ) (t : GroupForest)
    → numbered_by_siblings old seen k (without_numbers t) ≡ numbered_by_siblings old seen k t
beside-without_numbers old seen k End = refl
beside-without_numbers old seen k (Read x rest) =
    ap (λ (p : GroupForest × ℕ). (Read x p.0, p.1)) (beside-without_numbers old seen k rest)
beside-without_numbers old seen k (Group site n what inside rest) =
    let found = matching_sibling (sibling site what) (occurrence (sibling site what) seen) old in
    same_put site (given_number what found k).0 what
    (numbered_by_siblings (inside_of found) [] (given_number what found k).1 (without_numbers inside))
    (numbered_by_siblings (inside_of found) [] (given_number what found k).1 inside)
    (λ j. numbered_by_siblings old (sibling site what ∷ seen) j (without_numbers rest))
    (λ j. numbered_by_siblings old (sibling site what ∷ seen) j rest)
    (beside-without_numbers (inside_of (matching_sibling (sibling site what) (occurrence (sibling site what) seen)
    old)) [] (given_number what (matching_sibling (sibling site what) (occurrence (sibling site what) seen) old)
    k).1 inside)
    (λ j. beside-without_numbers old (sibling site what ∷ seen) j rest)

-- A walk does not depend on the numbers of the old forest.

pub asks-own-without_numbers : (t : GroupForest) → asks (own_part (without_numbers t)) ≡ asks (own_part t)
asks-own-without_numbers End = refl
asks-own-without_numbers (Read x rest) = ap (λ l. x ∷ l) (asks-own-without_numbers rest)
asks-own-without_numbers (Group site n (trail.Call f vs) inside rest) = asks-own-without_numbers rest
asks-own-without_numbers (Group site n (trail.Node kind attributes) inside rest) =
    ap (λ l. l ++ asks (own_part (without_numbers rest))) (asks-own-without_numbers inside)
    ∙ ap (λ l. asks (own_part inside) ++ l) (asks-own-without_numbers rest)
asks-own-without_numbers (Group site n (trail.Key v) inside rest) =
    ap (λ l. l ++ asks (own_part (without_numbers rest))) (asks-own-without_numbers inside)
    ∙ ap (λ l. asks (own_part inside) ++ l) (asks-own-without_numbers rest)
asks-own-without_numbers (Group site n (trail.Cell ks v) inside rest) =
    ap (λ l. l ++ asks (own_part (without_numbers rest))) (asks-own-without_numbers inside)
    ∙ ap (λ l. asks (own_part inside) ++ l) (asks-own-without_numbers rest)

choice_unnumbered : (b : Bool) (x y z : GroupForest) → without_numbers x ≡ x → without_numbers y ≡ z
    → without_numbers (if b then x else y) ≡ (if b then x else z)
choice_unnumbered true x y z f g = f
choice_unnumbered false x y z f g = g

inside-without_numbers : (m : Map) (owed : List ℕ) (functions : List Func) (what : GroupKind) (inside : GroupForest) →
    ((fs : List Func) → without_numbers (refreshed_groups m owed inside fs)
    ≡ refreshed_groups m owed (without_numbers inside) fs) →
    without_numbers (refreshed_inside m functions what (is_owed owed inside) (refreshed_groups m owed inside))
    ≡ refreshed_inside m functions what (is_owed owed (without_numbers inside))
    (refreshed_groups m owed (without_numbers inside))
inside-without_numbers m owed functions (trail.Call f vs) inside h =
    choice_unnumbered (is_owed owed inside) (meaning_at (meanings m functions) f vs)
    (refreshed_groups m owed inside (take f functions))
    (refreshed_groups m owed (without_numbers inside) (take f functions)) (meaning_plain m functions f vs)
    (h (take f functions))
    ∙ ap (λ l. if meets l owed then meaning_at (meanings m functions) f vs
    else refreshed_groups m owed (without_numbers inside) (take f functions))
    (sym (asks-own-without_numbers inside))
inside-without_numbers m owed functions (trail.Node kind attributes) inside h = h functions
inside-without_numbers m owed functions _ inside h = h functions

pub refreshed_groups-without_numbers : (m : Map) (owed : List ℕ) (t : GroupForest) (functions : List Func)
    → without_numbers (refreshed_groups m owed t functions) ≡ refreshed_groups m owed (without_numbers t) functions
refreshed_groups-without_numbers m owed End functions = refl
refreshed_groups-without_numbers m owed (Read x rest) functions =
    ap (λ u. Read x u) (refreshed_groups-without_numbers m owed rest functions)
refreshed_groups-without_numbers m owed (Group site n what inside rest) functions =
    ap (λ u. Group site 0 what u (without_numbers (refreshed_groups m owed rest functions)))
    (inside-without_numbers m owed functions what inside (λ fs. refreshed_groups-without_numbers m owed inside fs))
    ∙ ap (λ u. Group site 0 what
    (refreshed_inside m functions what (is_owed owed (without_numbers inside))
    (refreshed_groups m owed (without_numbers inside))) u)
    (refreshed_groups-without_numbers m owed rest functions)
