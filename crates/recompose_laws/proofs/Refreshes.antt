-- One walk over the old groups gives the new groups.
use Rattle.std.proofs.Common.{ℕ, zero, suc, ◌<◌, ◌≤◌, List, [], ◌∷◌, ◌++◌, ◌≡◌, ◌⊎◌, inl, inr, refl, ap, ◌∙◌, sym, subst, Bool, true, false, ◌||◌, if◌then◌else◌, take, length, get_or, arith, length-take-le}
use Rattle.rt_values.specs.declared.value.Value.{Value}
use Rattle.rt_values.specs.Maps.{Map, contains}
use Rattle.rt_groups.specs.GroupForest.{GroupForest, End, Read, Group, GroupKind, asks, own_part}
use Rattle.rt_groups.specs.GroupForest as trail
use Rattle.rt_groups.specs.Frames.{meets}
use Rattle.lang_ast.specs.Terms.{Head, For, Let, Stmt, Call, If, Block, Func}
use Rattle.lang_ast.specs.Programs.{statements_in}
use Rattle.lang_ast.specs.Evaluation.{Bindings}
use Rattle.compose_model.specs.Composing.{Meaning, bind, run_all, meaning, meaning_at, meanings, forest}
use Rattle.recompose_laws.specs.Skipping.{Agree, recomposed_forest}
use Rattle.recompose_laws.proofs.Skips.{skipping_is_right}
use Rattle.recompose_laws.proofs.Meanings.{meaning_found, meaning_none}
use Rattle.recompose_laws.specs.Refreshing.{is_owed, refreshed_groups, SameBut, SameReads, RefreshingIsScratch}
use Rattle.recompose_laws.proofs.ForestProperties.{head_group, Allows, StatementFacts, AnyReads, AnyStmt, each_any, IsForestProperty, body_holds}

abbrev pub MadeInside : Map → List Func → GroupKind → GroupForest → (List Func → Type 0) → Type 0
MadeInside m functions (trail.Call f vs) inside made =
    (inside ≡ meaning_at (meanings m functions) f vs) × made (take f functions)
MadeInside m functions _ inside made = made functions

-- Each call in the forest was made by the meanings of the functions.
abbrev pub Made : Map → GroupForest → List Func → Type 0
Made m End functions = Unit {0}
Made m (Read x rest) functions = Made m rest functions
Made m (Group site n what inside rest) functions =
    MadeInside m functions what inside (Made m inside) × Made m rest functions

body_at : (fs : List Func) (j : ℕ) → j < length fs
    → (f : Func) × ((m : Map) (args : List Value)
    → meaning_at (meanings m fs) j args ≡ meaning m (meanings m (take j fs)) f args)
body_at [] j h = absurd (omega arith)
body_at (f ∷ fs) j h = (get_or (f ∷ fs) j f, λ m args. meaning_found m (f ∷ fs) j args f h)

recomposed_forest-own : (fs : List Meaning) (t : GroupForest)
    → recomposed_forest fs (own_part t) ≡ recomposed_forest fs t
recomposed_forest-own fs End = refl
recomposed_forest-own fs (Read x rest) = ap (λ t. Read x t) (recomposed_forest-own fs rest)
recomposed_forest-own fs (Group site n (trail.Call f vs) inside rest) =
    ap (λ t. Group site n (trail.Call f vs) (meaning_at fs f vs) t) (recomposed_forest-own fs rest)
recomposed_forest-own fs (Group site n (trail.Node kind attributes) inside rest) =
    ap (λ t. Group site n (trail.Node kind attributes) t (recomposed_forest fs (own_part rest)))
    (recomposed_forest-own fs inside)
    ∙ ap (λ t. Group site n (trail.Node kind attributes) (recomposed_forest fs inside) t)
    (recomposed_forest-own fs rest)
recomposed_forest-own fs (Group site n (trail.Key v) inside rest) =
    ap (λ t. Group site n (trail.Key v) t (recomposed_forest fs (own_part rest))) (recomposed_forest-own fs inside)
    ∙ ap (λ t. Group site n (trail.Key v) (recomposed_forest fs inside) t) (recomposed_forest-own fs rest)
recomposed_forest-own fs (Group site n (trail.Cell ks v) inside rest) =
    ap (λ t. Group site n (trail.Cell ks v) t (recomposed_forest fs (own_part rest))) (recomposed_forest-own fs inside)
    ∙ ap (λ t. Group site n (trail.Cell ks v) (recomposed_forest fs inside) t) (recomposed_forest-own fs rest)

pub or_false : (a b : Bool) → (a || b) ≡ false → (a ≡ false) × (b ≡ false)
or_false true b e = (e, cc)
or_false false b e = (refl, e)

agree_from : (m m' : Map) (owed : List ℕ) (xs : List ℕ) → SameReads owed xs m m' → meets xs owed ≡ false → Agree m m' xs
agree_from m m' owed [] same e = tt
agree_from m m' owed (x ∷ xs) same e =
    let p = or_false (contains x owed) (meets xs owed) e in (same.0 p.0, agree_from m m' owed xs same.1 p.1)

-- The reads of a forest, in parts.

pub same_reads : (m m' : Map) (owed : List ℕ) → SameBut owed m m' → (xs : List ℕ) → SameReads owed xs m m'
same_reads m m' owed same [] = tt
same_reads m m' owed same (x ∷ xs) = (same x, same_reads m m' owed same xs)

pub same-front : (m m' : Map) (owed xs ys : List ℕ) → SameReads owed (xs ++ ys) m m' → SameReads owed xs m m'
same-front m m' owed [] ys h = tt
same-front m m' owed (x ∷ xs) ys h = (h.0, same-front m m' owed xs ys h.1)

pub same-back : (m m' : Map) (owed xs ys : List ℕ) → SameReads owed (xs ++ ys) m m' → SameReads owed ys m m'
same-back m m' owed [] ys h = h
same-back m m' owed (x ∷ xs) ys h = same-back m m' owed xs ys h.1

-- The inside of a group, and what follows the group.

pub same_inside : (m m' : Map) (owed : List ℕ) (site n : ℕ) (what : GroupKind) (inside rest : GroupForest)
    → SameReads owed (asks (Group site n what inside rest)) m m' → SameReads owed (asks inside) m m'
same_inside m m' owed site n what inside rest h = same-front m m' owed (asks inside) (asks rest) h

pub same_rest : (m m' : Map) (owed : List ℕ) (site n : ℕ) (what : GroupKind) (inside rest : GroupForest)
    → SameReads owed (asks (Group site n what inside rest)) m m' → SameReads owed (asks rest) m m'
same_rest m m' owed site n what inside rest h = same-back m m' owed (asks inside) (asks rest) h

same-both : (m m' : Map) (owed xs ys : List ℕ) → SameReads owed xs m m' → SameReads owed ys m m'
    → SameReads owed (xs ++ ys) m m'
same-both m m' owed [] ys h g = g
same-both m m' owed (x ∷ xs) ys h g = (h.0, same-both m m' owed xs ys h.1 g)

same-own : (m m' : Map) (owed : List ℕ) (t : GroupForest) → SameReads owed (asks t) m m'
    → SameReads owed (asks (own_part t)) m m'
same-own m m' owed End h = tt
same-own m m' owed (Read x rest) h = (h.0, same-own m m' owed rest h.1)
same-own m m' owed (Group site n (trail.Call f vs) inside rest) h =
    same-own m m' owed rest (same-back m m' owed (asks inside) (asks rest) h)
same-own m m' owed (Group site n (trail.Node kind attributes) inside rest) h =
    same-both m m' owed (asks (own_part inside)) (asks (own_part rest))
    (same-own m m' owed inside (same-front m m' owed (asks inside) (asks rest) h))
    (same-own m m' owed rest (same-back m m' owed (asks inside) (asks rest) h))
same-own m m' owed (Group site n (trail.Key v) inside rest) h =
    same-both m m' owed (asks (own_part inside)) (asks (own_part rest))
    (same-own m m' owed inside (same-front m m' owed (asks inside) (asks rest) h))
    (same-own m m' owed rest (same-back m m' owed (asks inside) (asks rest) h))
same-own m m' owed (Group site n (trail.Cell ks v) inside rest) h =
    same-both m m' owed (asks (own_part inside)) (asks (own_part rest))
    (same-own m m' owed inside (same-front m m' owed (asks inside) (asks rest) h))
    (same-own m m' owed rest (same-back m m' owed (asks inside) (asks rest) h))

pub split_at : (a b : ℕ) → (a < b) ⊎ (b ≤ a)
split_at a zero = inr (omega arith)
split_at zero (suc b) = inl (omega arith)
split_at (suc a) (suc b) = elim (split_at a b) [ inl h ↦ inl (omega arith) | inr h ↦ inr (omega arith) ]

-- The old contents of a call that is not owed, with the owed calls inside composed again, are the new contents.
pub kept_call : (m m' : Map) (owed : List ℕ) (functions : List Func) (f : ℕ) (vs : List Value) (inside : GroupForest)
    → SameReads owed (asks inside) m m' → inside ≡ meaning_at (meanings m functions) f vs →
    is_owed owed inside ≡ false → recomposed_forest (meanings m' (take f functions)) inside
    ≡ meaning_at (meanings m' functions) f vs
kept_call m m' owed functions f vs inside same made e = elim (split_at f (length functions)) [
  | inl h ↦
      let b = body_at functions f h in
      let was : inside ≡ run_all m (meanings m (take f functions)) b.0.body (bind b.0.parameters vs) = made
      ∙ b.1 m vs in
      let agree = subst (λ (t : GroupForest). Agree m m' (asks (own_part t))) was
      (agree_from m m' owed (asks (own_part inside)) (same-own m m' owed inside same) e) in
      let now = skipping_is_right m m' (meanings m (take f functions)) (meanings m' (take f functions)) b.0.body
      (bind b.0.parameters vs) agree in
      ap (λ t. recomposed_forest (meanings m' (take f functions)) t) was
      ∙ sym (recomposed_forest-own (meanings m' (take f functions))
      (run_all m (meanings m (take f functions)) b.0.body (bind b.0.parameters vs))) ∙ sym now ∙ sym (b.1 m' vs)
  | inr h ↦ ap (λ t. recomposed_forest (meanings m' (take f functions)) t) (made ∙ meaning_none m functions f vs h)
      ∙ sym (meaning_none m' functions f vs h)
]

choose : (m m' : Map) (owed : List ℕ) (functions : List Func) (f : ℕ) (vs : List Value) (inside : GroupForest)
    (anew : Bool) → SameReads owed (asks inside) m m' → inside ≡ meaning_at (meanings m functions) f vs →
    is_owed owed inside ≡ anew → refreshed_groups m' owed inside (take f functions)
    ≡ recomposed_forest (meanings m' (take f functions)) inside →
    (if anew then meaning_at (meanings m' functions) f vs else refreshed_groups m' owed inside (take f functions))
    ≡ meaning_at (meanings m' functions) f vs
choose m m' owed functions f vs inside true same made e h = refl
choose m m' owed functions f vs inside false same made e h = h ∙ kept_call m m' owed functions f vs inside same made e

pub refreshed_is : (m m' : Map) (owed : List ℕ) (t : GroupForest) (functions : List Func) → SameReads owed (asks t) m m'
    → Made m t functions → refreshed_groups m' owed t functions ≡ recomposed_forest (meanings m' functions) t
refreshed_is m m' owed End functions same made = refl
refreshed_is m m' owed (Read x rest) functions same made =
    ap (λ t. Read x t) (refreshed_is m m' owed rest functions same.1 made)
refreshed_is m m' owed (Group site n (trail.Call f vs) inside rest) functions same made =
    let h = choose m m' owed functions f vs inside (is_owed owed inside)
    (same-front m m' owed (asks inside) (asks rest) same) made.0.0 refl
    (refreshed_is m m' owed inside (take f functions) (same-front m m' owed (asks inside) (asks rest) same)
    made.0.1) in
    ap (λ t. Group site n (trail.Call f vs) t (refreshed_groups m' owed rest functions)) h
    ∙ ap (λ t. Group site n (trail.Call f vs) (meaning_at (meanings m' functions) f vs) t)
    (refreshed_is m m' owed rest functions (same-back m m' owed (asks inside) (asks rest) same) made.1)
refreshed_is m m' owed (Group site n (trail.Node kind attributes) inside rest) functions same made =
    ap (λ t. Group site n (trail.Node kind attributes) t (refreshed_groups m' owed rest functions))
    (refreshed_is m m' owed inside functions (same-front m m' owed (asks inside) (asks rest) same) made.0)
    ∙ ap (λ t. Group site n (trail.Node kind attributes) (recomposed_forest (meanings m' functions) inside) t)
    (refreshed_is m m' owed rest functions (same-back m m' owed (asks inside) (asks rest) same) made.1)
refreshed_is m m' owed (Group site n (trail.Key v) inside rest) functions same made =
    ap (λ t. Group site n (trail.Key v) t (refreshed_groups m' owed rest functions))
    (refreshed_is m m' owed inside functions (same-front m m' owed (asks inside) (asks rest) same) made.0)
    ∙ ap (λ t. Group site n (trail.Key v) (recomposed_forest (meanings m' functions) inside) t)
    (refreshed_is m m' owed rest functions (same-back m m' owed (asks inside) (asks rest) same) made.1)
refreshed_is m m' owed (Group site n (trail.Cell ks v) inside rest) functions same made =
    ap (λ t. Group site n (trail.Cell ks v) t (refreshed_groups m' owed rest functions))
    (refreshed_is m m' owed inside functions (same-front m m' owed (asks inside) (asks rest) same) made.0)
    ∙ ap (λ t. Group site n (trail.Cell ks v) (recomposed_forest (meanings m' functions) inside) t)
    (refreshed_is m m' owed rest functions (same-back m m' owed (asks inside) (asks rest) same) made.1)

-- The calls that statements make are made by the meanings.

abbrev pub CallsMade : Map → List Func → Type 0
CallsMade m functions = (f : ℕ) (vs : List Value) → Made m (meaning_at (meanings m functions) f vs) (take f functions)

-- The property that the functions make the calls, for all statements.
made_forests : (m : Map) (functions : List Func) → CallsMade m functions
    → IsForestProperty m (meanings m functions) AnyReads (λ t. Made m t functions) AnyStmt
made_forests m functions calls = record {
  none = tt;
  read = λ x xs r. (tt, λ t h. h);
  facts = facts;
}
  where
    made : (site : ℕ) (head : Head) (env : Bindings)
        → Allows (λ t. Made m t functions) site (head_group m head env)
    made site (For name list) env = tt
    made site (Let name e) env = tt
    made site _ env = λ t u f g. (f, g)

    facts : (s : Stmt) (env : Bindings) → AnyStmt s
        → StatementFacts m (meanings m functions) AnyReads (λ t. Made m t functions) s env
    facts (Call at site name function arguments) env h = (tt, λ u g. ((refl, calls function _), g))
    facts (If at site condition then_branch else_branch) env h = tt
    facts (Block at site head body) env h = (tt, made site head env)

pub calls_made : (n : ℕ) (m : Map) (functions : List Func) → length functions ≤ n → CallsMade m functions
calls_made zero m functions h f vs =
    subst (λ (t : GroupForest). Made m t (take f functions)) (sym (meaning_none m functions f vs (omega arith))) tt
calls_made (suc n) m functions h f vs = elim (split_at f (length functions)) [
  | inl below ↦
      let b = body_at functions f below in
      subst (λ (t : GroupForest). Made m t (take f functions)) (sym (b.1 m vs))
      (body_holds (made_forests m (take f functions) (calls_made n m (take f functions)
      (omega (arith, length-take-le f functions, h, below)))) b.0.body (bind b.0.parameters vs)
      (each_any (statements_in b.0.body)))
  | inr past ↦ subst (λ (t : GroupForest). Made m t (take f functions)) (sym (meaning_none m functions f vs past)) tt
]

forest_made : (m : Map) (functions : List Func) (root : ℕ) → Made m (forest functions root m) functions
forest_made m functions root = ((refl, calls_made (length functions) m functions (omega arith) root []), tt)

pub refreshing_is_scratch : RefreshingIsScratch
refreshing_is_scratch m m' owed functions root same =
    refreshed_is m m' owed (forest functions root m) functions same (forest_made m functions root)
