-- Properties of the forests that statements make, by induction over the statements.
use Rattle.std.proofs.Common.{ℕ, zero, suc, ℤ, List, [], ◌∷◌, ◌++◌, ◌≡◌, refl, ap, sym, subst, map, Bool, true, false, if◌then◌else◌, Option, Some, None, append-nil}
use Rattle.rt_values.specs.declared.value.Value.{Value}
use Rattle.rt_values.specs.declared.value.Value.TheVariants as value
use Rattle.rt_values.specs.Operators.{is_true, items_of}
use Rattle.rt_values.specs.Maps.{Map}
use Rattle.rt_groups.specs.GroupForest.{GroupForest, End, Read, Group, GroupKind, joined_forest, reads_then}
use Rattle.rt_groups.specs.GroupForest as trail
use Rattle.lang_ast.specs.Terms.{Head, Node, Key, For, Let, Remember, Stmt, Call, If, Block, Stmts, done, next, Func}
use Rattle.lang_ast.specs.Programs.{statement_with_inner, statements_in, functions_statements, Each}
use Rattle.lang_ast.proofs.Statements.{each_apart}
use Rattle.lang_ast.specs.ResultsWithReads.{Reading}
use Rattle.lang_ast.specs.Evaluation.{Bindings, new_binding, eval, eval_all, eval_named}
use Rattle.compose_model.specs.Composing.{Meaning, forest_after, turns, attribute, composed_block, bind, run, run_all, meaning, meaning_at, meanings_from, meanings}
use Rattle.recompose_laws.proofs.Selves.{joined_forest-joined_forest}

-- A group is allowed if its contents and the forest after it have the property `P`.
abbrev pub Encloses : (GroupForest → Type 0) → ℕ → GroupKind → Type 0
Encloses P site what = (inside rest : GroupForest) → P inside → P rest → P (Group site 0 what inside rest)

-- A group with the contents `inside` is allowed before each forest of the property `P`.
abbrev pub Precedes : (GroupForest → Type 0) → ℕ → GroupKind → GroupForest → Type 0
Precedes P site what inside = (rest : GroupForest) → P rest → P (Group site 0 what inside rest)

-- The objects that a head reads, in order.
abbrev pub head_reads : Map → Head → Bindings → List ℕ
head_reads m (Node kind attributes) env = (eval_named m attributes env).reads
head_reads m (Key key) env = (eval m key env).reads
head_reads m (For name list) env = (eval m list env).reads
head_reads m (Let name e) env = (eval m e env).reads
head_reads m (Remember name keys e) env =
    let ks = eval_named m keys env in
    ks.reads ++ (eval m e ks.value).reads

-- The group that a head makes, if it makes one.
abbrev pub head_group : Map → Head → Bindings → Option GroupKind
head_group m (Node kind attributes) env = Some (trail.Node kind.text (map attribute (eval_named m attributes env).value))
head_group m (Key key) env = Some (trail.Key (eval m key env).value)
head_group m (For name list) env = None
head_group m (Let name e) env = None
head_group m (Remember name keys e) env =
    let ks = (eval_named m keys env).value in
    Some (trail.Cell (map (λ k. k.value) ks) (eval m e ks).value)

-- A group is allowed, if there is one.
abbrev pub Allows : (GroupForest → Type 0) → ℕ → Option GroupKind → Type 0
Allows P site None = Unit {0}
Allows P site (Some what) = Encloses P site what

pub allows_all : (P : GroupForest → Type 0) (site : ℕ) (made : Option GroupKind)
    → ((what : GroupKind) → Encloses P site what) → Allows P site made
allows_all P site None all = tt
allows_all P site (Some what) all = all what

-- What the property `P` needs from one statement: the reads of its expressions satisfy `R`, and its group preserves `P`.
abbrev pub StatementFacts : Map → List Meaning → (List ℕ → Type 0) → (GroupForest → Type 0) → Stmt → Bindings → Type 0
StatementFacts m fs R P (Call at site name function arguments) env =
    let r = eval_all m arguments env in
    R r.reads × Precedes P site (trail.Call function r.value) (meaning_at fs function r.value)
StatementFacts m fs R P (If at site condition then_branch else_branch) env = R (eval m condition env).reads
StatementFacts m fs R P (Block at site head body) env =
    R (head_reads m head env) × Allows P site (head_group m head env)

-- No condition on reads or statements.

abbrev pub AnyReads : List ℕ → Type 0
AnyReads xs = Unit {0}

abbrev pub AnyStmt : Stmt → Type 0
AnyStmt s = Unit {0}

pub each_any : (ss : List Stmt) → Each AnyStmt ss
each_any [] = tt
each_any (s ∷ ss) = (tt, each_any ss)

-- The facts by which the forests of statements that satisfy `S`, with all statements inside them, have the property
-- `P`. The reads of the expressions satisfy `R`, and `fs` contains the meanings of the functions that the statements
-- can call.
pub record IsForestProperty (m : Map) (fs : List Meaning) (R : List ℕ → Type 0) (P : GroupForest → Type 0)
    (S : Stmt → Type 0) : Type 0 where
  pub none : P End
  -- The first of several reads is allowed before each forest with `P`, and the other reads satisfy `R`.
  pub read : (x : ℕ) (xs : List ℕ) → R (x ∷ xs) → R xs × ((t : GroupForest) → P t → P (Read x t))
  pub facts : (s : Stmt) (env : Bindings) → S s → StatementFacts m fs R P s env

joined-end : (t : GroupForest) → joined_forest t End ≡ t
joined-end End = refl
joined-end (Read x rest) = ap (λ t. Read x t) (joined-end rest)
joined-end (Group site n what inside rest) = ap (λ t. Group site n what inside t) (joined-end rest)

module _ {m : Map} {fs : List Meaning} {R : List ℕ → Type 0} {P : GroupForest → Type 0} {S : Stmt → Type 0}
    (p : IsForestProperty m fs R P S) where
  -- The forests of the parts of a statement, each with the forest `u` after it.

  -- Some reads and a forest, where the reads `ys` are inside the forest.
  reads_before : (xs ys : List ℕ) (t u : GroupForest) → R (xs ++ ys) → (R ys → P (joined_forest t u))
      → P (joined_forest (reads_then xs t) u)
  reads_before [] ys t u r h = h r
  reads_before (x ∷ xs) ys t u r h =
      let both = p.read x (xs ++ ys) r in
      both.1 (joined_forest (reads_then xs t) u) (reads_before xs ys t u both.0 h)

  first_before : {A : Type 0} (r : Reading A) (ys : List ℕ) (go : A → GroupForest) (u : GroupForest)
      → R (r.reads ++ ys) → (R ys → P (joined_forest (go r.value) u)) → P (joined_forest (forest_after r go) u)
  unfolding forest_after
  first_before r ys go u h g = reads_before r.reads ys (go r.value) u h g

  after_before : {A : Type 0} (r : Reading A) (go : A → GroupForest) (u : GroupForest) → R r.reads
      → P (joined_forest (go r.value) u) → P (joined_forest (forest_after r go) u)
  after_before r go u h g =
      first_before r [] go u (subst (λ (xs : List ℕ). R xs) (sym (append-nil r.reads)) h) (λ none. g)

  both_before : (t u v : GroupForest) → P (joined_forest t (joined_forest u v))
      → P (joined_forest (joined_forest t u) v)
  both_before t u v h = subst (λ (w : GroupForest). P w) (sym (joined_forest-joined_forest t u v)) h

  turns_before : (go : ℤ → GroupForest) (is : List ℤ) (u : GroupForest)
      → ((i : ℤ) (v : GroupForest) → P v → P (joined_forest (go i) v)) → P u → P (joined_forest (turns go is) u)
  unfolding turns
  turns_before go [] u h g = g
  turns_before go (i ∷ is) u h g =
      both_before (go i) (turns go is) u (h i (joined_forest (turns go is) u) (turns_before go is u h g))

  choice_before : (c : Bool) (x y u : GroupForest) → P (joined_forest x u) → P (joined_forest y u)
      → P (joined_forest (if c then x else y) u)
  choice_before true x y u f g = f
  choice_before false x y u f g = g

  alone : (t : GroupForest) → P (joined_forest t End) → P t
  alone t h = subst (λ (w : GroupForest). P w) (joined-end t) h

  block_before : (site : ℕ) (head : Head) (env : Bindings) (go : Bindings → GroupForest) (u : GroupForest)
      → R (head_reads m head env) → Allows P site (head_group m head env)
      → ((inner : Bindings) (v : GroupForest) → P v → P (joined_forest (go inner) v)) → P u
      → P (joined_forest (composed_block m site head env go) u)
  block_before site (Node kind attributes) env go u r encloses body g =
      after_before (eval_named m attributes env) _ u r
      (encloses (go env) u (alone (go env) (body env End p.none)) g)
  block_before site (Key key) env go u r encloses body g =
      after_before (eval m key env) _ u r (encloses (go env) u (alone (go env) (body env End p.none)) g)
  block_before site (For name list) env go u r none body g =
      after_before (eval m list env) _ u r
      (turns_before (λ i. go (env ++ new_binding name.text (value.Int i) ∷ [])) (items_of (eval m list env).value) u
      (λ i. body (env ++ new_binding name.text (value.Int i) ∷ [])) g)
  block_before site (Let name e) env go u r none body g =
      after_before (eval m e env) _ u r (body (env ++ new_binding name.text (eval m e env).value ∷ []) u g)
  block_before site (Remember name keys e) env go u r encloses body g =
      let ks = (eval_named m keys env).value in
      let inner = env ++ new_binding name.text (eval m e ks).value ∷ [] in
      first_before (eval_named m keys env) (eval m e ks).reads _ u r
      (λ later. after_before (eval m e ks) _ u later
      (encloses End (joined_forest (go inner) u) p.none (body inner u g)))

  mutual
    run_before : (s : Stmt) (env : Bindings) (u : GroupForest) → Each S (statement_with_inner s) → P u
        → P (joined_forest (run m fs s env) u)
    run_before (Call at site name function arguments) env u h g =
        let f = p.facts (Call at site name function arguments) env h.0 in
        after_before (eval_all m arguments env) _ u f.0 (f.1 u g)
    run_before (If at site condition then_branch else_branch) env u h g =
        let both = each_apart S (statements_in then_branch) (statements_in else_branch) h.1 in
        after_before (eval m condition env) _ u (p.facts (If at site condition then_branch else_branch) env h.0)
        (choice_before (is_true (eval m condition env).value) (run_all m fs then_branch env)
        (run_all m fs else_branch env) u (body_before then_branch env u both.0 g)
        (body_before else_branch env u both.1 g))
    run_before (Block at site head body) env u h g =
        let f = p.facts (Block at site head body) env h.0 in
        block_before site head env (λ inner. run_all m fs body inner) u f.0 f.1
        (λ inner v k. body_before body inner v h.1 k) g

    body_before : (body : Stmts) (env : Bindings) (u : GroupForest) → Each S (statements_in body) → P u
        → P (joined_forest (run_all m fs body env) u)
    body_before done env u h g = g
    body_before (next s ss) env u h g =
        let both = each_apart S (statement_with_inner s) (statements_in ss) h in
        both_before (run m fs s env) (run_all m fs ss env) u
        (run_before s env (joined_forest (run_all m fs ss env) u) both.0 (body_before ss env u both.1 g))

  -- The forest of a body has the property, if each of its statements satisfies `S`.
  pub body_holds : (body : Stmts) (env : Bindings) → Each S (statements_in body) → P (run_all m fs body env)
  body_holds body env h = alone (run_all m fs body env) (body_before body env End h p.none)

-- All forests of functions have the property `P`.
abbrev pub AllHold : (GroupForest → Type 0) → List Meaning → Type 0
AllHold P fs = (n : ℕ) (vs : List Value) → P (meaning_at fs n vs)

with_last : (P : GroupForest → Type 0) (fs : List Meaning) (f : Meaning) → P End → AllHold P fs
    → ((vs : List Value) → P (f vs)) → AllHold P (fs ++ f ∷ [])
with_last P [] f none all h zero vs = h vs
with_last P [] f none all h (suc n) vs = none
with_last P (g ∷ fs) f none all h zero vs = all 0 vs
with_last P (g ∷ fs) f none all h (suc n) vs = with_last P fs f none (λ k ws. all (suc k) ws) h n vs

module _ {m : Map} {R : List ℕ → Type 0} {P : GroupForest → Type 0} {S : Stmt → Type 0}
    (p : (fs : List Meaning) → AllHold P fs → IsForestProperty m fs R P S) where
  from_hold : (fs : List Meaning) (functions : List Func) → AllHold P fs → Each S (functions_statements functions)
      → AllHold P (meanings_from m fs functions)
  from_hold fs [] all h = all
  from_hold fs (f ∷ more) all h =
      let both = each_apart S (statements_in f.body) (functions_statements more) h in
      from_hold (fs ++ meaning m fs f ∷ []) more
      (with_last P fs (meaning m fs f) (p fs all).none all
      (λ vs. body_holds (p fs all) f.body (bind f.parameters vs) both.0)) both.1

  -- The forests of functions have the property, if each statement of the functions satisfies `S`.
  pub meanings_hold : (functions : List Func) → P End → Each S (functions_statements functions)
      → AllHold P (meanings m functions)
  meanings_hold functions none h = from_hold [] functions (λ n vs. none) h
