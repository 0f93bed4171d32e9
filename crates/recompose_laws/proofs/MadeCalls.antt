-- The calls of a kept forest are made by the functions.
use Rattle.std.proofs.Common.{ℕ, zero, suc, ◌+◌, ◌<◌, ◌≤◌, List, [], ◌∷◌, ◌≡◌, inl, inr, refl, ap, ◌∙◌, sym, subst, Bool, true, false, if◌then◌else◌, take, length, get_or, arith, Option, Some, None}
use Rattle.rt_values.specs.declared.value.Value.{Value}
use Rattle.rt_values.specs.Maps.{Map}
use Rattle.rt_groups.specs.GroupForest.{GroupForest, End, Read, Group, GroupKind}
use Rattle.rt_groups.specs.GroupForest as trail
use Rattle.rt_groups.specs.Paths.{GroupKey, sibling, same_sibling, Found, nth, matching_sibling, inside_of}
use Rattle.lang_ast.specs.Terms.{Head, For, Let, Stmt, Call, If, Block, Stmts, Func}
use Rattle.lang_ast.specs.Programs.{statements_in, Each}
use Rattle.lang_ast.specs.Evaluation.{Bindings, eval_all}
use Rattle.compose_model.specs.Composing.{Meaning, bind, meaning, meaning_at, meanings}
use Rattle.recompose_laws.proofs.Meanings.{meaning_found, meaning_none}
use Rattle.recompose_laws.specs.Numbering.{without_numbers}
use Rattle.recompose_laws.specs.MadeCalls.{IsMadeInside, IsMade, IsFoundMade, CallsBelow, AreOrdered, KeptCallsAreMade}
use Rattle.recompose_laws.proofs.Plain.{meaning_plain}
use Rattle.recompose_laws.proofs.Refreshes.{split_at}
use Rattle.recompose_laws.proofs.ForestProperties.{head_group, Allows, StatementFacts, AnyReads, IsForestProperty, body_holds}

-- Lookup in a forest with made calls.

pub found_made : (m : Map) (all : List Func) (s : GroupKey) (n : ℕ) (t : GroupForest) → IsMade m all t
    → IsFoundMade m all (matching_sibling s n t)
found_made m all s n End h = tt
found_made m all s n (Read x rest) h = found_made m all s n rest h
found_made m all s n (Group site number what inside rest) h =
    by (same_sibling (sibling site what) s) n (λ j. found_made m all s j rest h.2)
  where
    found : Found
    found = record { number = number; what = what; inside = inside }

    by : (b : Bool) (j : ℕ) → ((k : ℕ) → IsFoundMade m all (matching_sibling s k rest))
        → IsFoundMade m all (if b then nth j found (λ k. matching_sibling s k rest) else matching_sibling s j rest)
    by true zero later = (h.0, h.1)
    by true (suc j) later = later j
    by false j later = later j

pub inside_made : (m : Map) (all : List Func) (g : Option Found) → IsFoundMade m all g → IsMade m all (inside_of g)
inside_made m all None h = tt
inside_made m all (Some g) h = h.1

-- A function has the same meaning among all functions and among the first `k`.

take-take : {X : Type 0} (xs : List X) (f k : ℕ) → f < k → take f (take k xs) ≡ take f xs
take-take xs f zero h = absurd (omega (arith, h))
take-take xs zero (suc k) h = refl
take-take [] (suc f) (suc k) h = refl
take-take (x ∷ xs) (suc f) (suc k) h = ap (λ l. x ∷ l) (take-take xs f k (omega (arith, h)))

get-take : {X : Type 0} (xs : List X) (f k : ℕ) (d : X) → f < k → get_or (take k xs) f d ≡ get_or xs f d
get-take xs f zero d h = absurd (omega (arith, h))
get-take [] f (suc k) d h = refl
get-take (x ∷ xs) zero (suc k) d h = refl
get-take (x ∷ xs) (suc f) (suc k) d h = get-take xs f k d (omega (arith, h))

take-long : {X : Type 0} (xs : List X) (f k : ℕ) → f < k → f < length xs → f < length (take k xs)
take-long xs f zero h g = absurd (omega (arith, h))
take-long [] f (suc k) h g = absurd (omega (arith, g))
take-long (x ∷ xs) zero (suc k) h g = omega arith
take-long (x ∷ xs) (suc f) (suc k) h g =
    let e = take-long xs f k (omega (arith, h)) (omega (arith, g)) in omega (arith, e)

take-short : {X : Type 0} (xs : List X) (k : ℕ) → length (take k xs) ≤ length xs
take-short xs zero = omega arith
take-short [] (suc k) = omega arith
take-short (x ∷ xs) (suc k) = let e = take-short xs k in omega (arith, e)

pub front_means : (m : Map) (all : List Func) (k f : ℕ) (vs : List Value) → f < k
    → meaning_at (meanings m (take k all)) f vs ≡ meaning_at (meanings m all) f vs
front_means m all k f vs h = elim (split_at f (length all)) [
  | inl below ↦ by all h below refl
  | inr past ↦ meaning_none m (take k all) f vs (let e = take-short all k in omega (arith, e, past))
      ∙ sym (meaning_none m all f vs past)
]
  where
    by : (fs : List Func) → f < k → f < length fs → fs ≡ all
        → meaning_at (meanings m (take k all)) f vs ≡ meaning_at (meanings m all) f vs
    by [] h below e = absurd (omega (arith, below))
    by (g ∷ fs) h below e =
        let long : f < length all = let z = ap (λ (l : List Func). length l) e in omega (arith, z, below) in
        meaning_found m (take k all) f vs g (take-long all f k h long)
        ∙ ap (λ (l : List Func). meaning m (meanings m l) (get_or (take k all) f g) vs) (take-take all f k h)
        ∙ ap (λ (d : Func). meaning m (meanings m (take f all)) d vs) (get-take all f k g h)
        ∙ sym (meaning_found m all f vs g long)

-- The forests of the program's functions have made calls.

-- The meanings `fs` of the first `k` functions are those among all functions, except for node numbers, and their calls
-- are made.
abbrev FrontMade : Map → List Func → ℕ → List Meaning → Type 0
FrontMade m all k fs = (f : ℕ) (vs : List Value) → f < k
    → (without_numbers (meaning_at fs f vs) ≡ meaning_at (meanings m all) f vs) × IsMade m all (meaning_at fs f vs)

-- The statements of a body call only functions with numbers below `k`.
abbrev AllBelow : ℕ → Stmts → Type 0
AllBelow k ss = Each (CallsBelow k) (statements_in ss)

-- The property that calls are made, for statements that call only the first `k` functions.
front_calls : (m : Map) (all : List Func) (k : ℕ) (fs : List Meaning) → FrontMade m all k fs
    → IsForestProperty m fs AnyReads (IsMade m all) (CallsBelow k)
front_calls m all k fs front = record {
  none = tt;
  read = λ x xs r. (tt, λ t h. h);
  facts = facts;
}
  where
    made : (site : ℕ) (head : Head) (env : Bindings) → Allows (IsMade m all) site (head_group m head env)
    made site (For name list) env = tt
    made site (Let name e) env = tt
    made site _ env = λ t u f g. (tt, f, g)

    facts : (s : Stmt) (env : Bindings) → CallsBelow k s → StatementFacts m fs AnyReads (IsMade m all) s env
    facts (Call at site name function arguments) env h =
        let f = front function (eval_all m arguments env).value h in (tt, λ u g. (f.0, f.1, g))
    facts (If at site condition then_branch else_branch) env h = tt
    facts (Block at site head body) env h = (tt, made site head env)

ordered_at : (fs : List Func) (k f : ℕ) (d : Func) → f < length fs → AreOrdered k fs
    → AllBelow (k + f) (get_or fs f d).body
ordered_at [] k f d h o = absurd (omega (arith, h))
ordered_at (g ∷ fs) k zero d h o = let e : k ≡ k + 0 = omega arith in subst (λ n. AllBelow n g.body) e o.0
ordered_at (g ∷ fs) k (suc f) d h o =
    let e : (k + 1) + f ≡ k + suc f = omega arith in
    subst (λ n. AllBelow n (get_or fs f d).body) e (ordered_at fs (k + 1) f d (omega (arith, h)) o.1)

-- The forest of function `f` has made calls, if the forests of the earlier functions have.
made_at : (m : Map) (all : List Func) (f : ℕ) (vs : List Value) → AreOrdered 0 all
    → ((j : ℕ) (ws : List Value) → j < f → IsMade m all (meaning_at (meanings m all) j ws))
    → IsMade m all (meaning_at (meanings m all) f vs)
made_at m all f vs ordered earlier = elim (split_at f (length all)) [
  | inl below ↦ by all below refl
  | inr past ↦ subst (λ (t : GroupForest). IsMade m all t) (sym (meaning_none m all f vs past)) tt
]
  where
    front : (j : ℕ) (ws : List Value) → j < f
        → (without_numbers (meaning_at (meanings m (take f all)) j ws) ≡ meaning_at (meanings m all) j ws)
        × IsMade m all (meaning_at (meanings m (take f all)) j ws)
    front j ws less =
        let same = front_means m all f j ws less in (
          meaning_plain m (take f all) j ws ∙ same,
          subst (λ (t : GroupForest). IsMade m all t) (sym same) (earlier j ws less),
        )

    by : (fs : List Func) → f < length fs → fs ≡ all → IsMade m all (meaning_at (meanings m all) f vs)
    by [] below e = absurd (omega (arith, below))
    by (g ∷ fs) below e =
        let long : f < length all = let z = ap (λ (l : List Func). length l) e in omega (arith, z, below) in
        let zero_is : 0 + f ≡ f = omega arith in
        let body = subst (λ j. AllBelow j (get_or all f g).body) zero_is (ordered_at all 0 f g long ordered) in
        subst (λ (t : GroupForest). IsMade m all t) (sym (meaning_found m all f vs g long))
        (body_holds (front_calls m all f (meanings m (take f all)) front) (get_or all f g).body
        (bind (get_or all f g).parameters vs) body)

-- The forest of function `f` has made calls, by induction on a number greater than `f`.
means_made : (n : ℕ) (m : Map) (all : List Func) (f : ℕ) (vs : List Value) → f < n → AreOrdered 0 all
    → IsMade m all (meaning_at (meanings m all) f vs)
means_made zero m all f vs h ordered = absurd (omega (arith, h))
means_made (suc n) m all f vs h ordered =
    made_at m all f vs ordered (λ j ws less. means_made n m all j ws (omega (arith, less, h)) ordered)

-- Node numbers do not matter.
without_numbers-without_numbers : (t : GroupForest) → without_numbers (without_numbers t) ≡ without_numbers t
without_numbers-without_numbers End = refl
without_numbers-without_numbers (Read x rest) = ap (λ t. Read x t) (without_numbers-without_numbers rest)
without_numbers-without_numbers (Group site n what inside rest) =
    ap (λ t. Group site 0 what t (without_numbers (without_numbers rest))) (without_numbers-without_numbers inside)
    ∙ ap (λ t. Group site 0 what (without_numbers inside) t) (without_numbers-without_numbers rest)

numbered_inside : (m : Map) (all : List Func) (what : GroupKind) (inside : GroupForest)
    → IsMadeInside m all what (without_numbers inside) → IsMadeInside m all what inside
numbered_inside m all (trail.Call f vs) inside h = sym (without_numbers-without_numbers inside) ∙ h
numbered_inside m all _ inside h = tt

numbered_made : (m : Map) (all : List Func) (t : GroupForest) → IsMade m all (without_numbers t) → IsMade m all t
numbered_made m all End h = tt
numbered_made m all (Read x rest) h = numbered_made m all rest h
numbered_made m all (Group site n what inside rest) h =
    (numbered_inside m all what inside h.0, numbered_made m all inside h.1, numbered_made m all rest h.2)

pub kept_calls_are_made : KeptCallsAreMade
kept_calls_are_made m functions root old ordered e =
    numbered_made m functions old (subst (λ (t : GroupForest). IsMade m functions t) (sym e)
    (meaning_plain m functions root [], means_made (suc root) m functions root [] (omega arith) ordered, tt))
