-- A call whose own reads agree has the same own part.
use Rattle.std.proofs.Common.{ℕ, ℤ, List, [], ◌∷◌, ◌++◌, ◌≡◌, refl, ap, ◌∙◌, sym, subst, map, Bool, true, false, if◌then◌else◌}
use Rattle.rt_values.specs.declared.value.Value.TheVariants as value
use Rattle.rt_values.specs.Operators.{is_true, items_of}
use Rattle.rt_values.specs.Maps.{Map}
use Rattle.rt_groups.specs.GroupForest.{GroupForest, End, Read, Group, joined_forest, reads_then, asks, own_part, inside_own}
use Rattle.rt_groups.specs.GroupForest as trail
use Rattle.rt_groups.proofs.GroupForests.{asks-joined_forest, asks-reads_then}
use Rattle.lang_ast.specs.Terms.{Head, Node, Key, For, Let, Remember, Stmt, Call, If, Block, Stmts, done, next}
use Rattle.lang_ast.specs.ResultsWithReads.{Reading}
use Rattle.lang_ast.specs.Evaluation.{Bindings, new_binding, eval, eval_all, eval_named}
use Rattle.compose_model.specs.Composing.{Meaning, forest_after, turns, group, attribute, composed_block, run, run_all}
use Rattle.recompose_laws.specs.Skipping.{Agree, recomposed_forest, recomposed_inside, SkippingIsRight}
use Rattle.recompose_laws.proofs.Agreeing.{agree_front, agree_back, eval_agree, all_agree, named_agree}

own-reads_then : (xs : List ℕ) (t : GroupForest) → own_part (reads_then xs t) ≡ reads_then xs (own_part t)
own-reads_then [] t = refl
own-reads_then (x ∷ xs) t = ap (λ u. Read x u) (own-reads_then xs t)

own-joined_forest : (t u : GroupForest) → own_part (joined_forest t u) ≡ joined_forest (own_part t) (own_part u)
own-joined_forest End u = refl
own-joined_forest (Read x rest) u = ap (λ v. Read x v) (own-joined_forest rest u)
own-joined_forest (Group site n what inside rest) u =
    ap (λ v. Group site n what (inside_own what (own_part inside)) v) (own-joined_forest rest u)

recomposed_forest-reads_then : (fs : List Meaning) (xs : List ℕ) (t : GroupForest)
    → recomposed_forest fs (reads_then xs t) ≡ reads_then xs (recomposed_forest fs t)
recomposed_forest-reads_then fs [] t = refl
recomposed_forest-reads_then fs (x ∷ xs) t = ap (λ u. Read x u) (recomposed_forest-reads_then fs xs t)

recomposed_forest-joined_forest : (fs : List Meaning) (t u : GroupForest)
    → recomposed_forest fs (joined_forest t u) ≡ joined_forest (recomposed_forest fs t) (recomposed_forest fs u)
recomposed_forest-joined_forest fs End u = refl
recomposed_forest-joined_forest fs (Read x rest) u = ap (λ v. Read x v) (recomposed_forest-joined_forest fs rest u)
recomposed_forest-joined_forest fs (Group site n what inside rest) u = ap (λ v. Group site n what
    (recomposed_inside fs what (recomposed_forest fs inside)) v) (recomposed_forest-joined_forest fs rest u)

-- Continuations of equal results have the same own part.
after_agree : {A : Type 0} (m m' : Map) (r r' : Reading A) (go go' : A → GroupForest) → (Agree m m' r.reads → r ≡ r') →
    ((a : A) → Agree m m' (asks (own_part (go a))) → own_part (go a) ≡ own_part (go' a))
    → Agree m m' (asks (own_part (forest_after r go)))
    → own_part (forest_after r go) ≡ own_part (forest_after r' go')
unfolding forest_after
after_agree {A = A} m m' r r' go go' same_first same_then a =
    let e : asks (own_part (reads_then r.reads (go r.value))) ≡ r.reads ++ asks (own_part (go r.value)) =
    ap asks (own-reads_then r.reads (go r.value)) ∙ asks-reads_then r.reads (own_part (go r.value)) in
    let b : Agree m m' (r.reads ++ asks (own_part (go r.value))) = subst (λ (l : List ℕ). Agree m m' l) e a in
    let same = same_first (agree_front m m' r.reads (asks (own_part (go r.value))) b) in
    let inner = same_then r.value (agree_back m m' r.reads (asks (own_part (go r.value))) b) in
    own-reads_then r.reads (go r.value) ∙ ap (λ t. reads_then r.reads t) inner
    ∙ sym (own-reads_then r.reads (go' r.value))
    ∙ ap (λ (s : Reading A). own_part (reads_then s.reads (go' s.value))) same

joined_agree : (m m' : Map) (t t' u u' : GroupForest) → (Agree m m' (asks (own_part t)) → own_part t ≡ own_part t')
    → (Agree m m' (asks (own_part u)) → own_part u ≡ own_part u') →
    Agree m m' (asks (own_part (joined_forest t u))) → own_part (joined_forest t u) ≡ own_part (joined_forest t' u')
joined_agree m m' t t' u u' f g a =
    let b : Agree m m' (asks (own_part t) ++ asks (own_part u)) =
    subst (λ (l : List ℕ). Agree m m' l)
    (ap asks (own-joined_forest t u) ∙ asks-joined_forest (own_part t) (own_part u)) a in
    own-joined_forest t u ∙ ap (λ v. joined_forest v (own_part u))
    (f (agree_front m m' (asks (own_part t)) (asks (own_part u)) b))
    ∙ ap (λ v. joined_forest (own_part t') v) (g (agree_back m m' (asks (own_part t)) (asks (own_part u)) b))
    ∙ sym (own-joined_forest t' u')

turns_agree : (m m' : Map) (go go' : ℤ → GroupForest) (is : List ℤ)
    → ((i : ℤ) → Agree m m' (asks (own_part (go i))) → own_part (go i) ≡ own_part (go' i)) →
    Agree m m' (asks (own_part (turns go is))) → own_part (turns go is) ≡ own_part (turns go' is)
unfolding turns
turns_agree m m' go go' [] each a = refl
turns_agree m m' go go' (i ∷ is) each a =
    joined_agree m m' (go i) (go' i) (turns go is) (turns go' is) (each i) (turns_agree m m' go go' is each) a

choice_agree : (m m' : Map) (c : Bool) (x y x' y' : GroupForest)
    → (Agree m m' (asks (own_part x)) → own_part x ≡ own_part x')
    → (Agree m m' (asks (own_part y)) → own_part y ≡ own_part y') →
    Agree m m' (asks (own_part (if c then x else y))) → own_part (if c then x else y) ≡ own_part (if c then x' else y')
choice_agree m m' true x y x' y' f g a = f a
choice_agree m m' false x y x' y' f g a = g a

-- The bodies of a block, composed in two maps, have the same own part if their own reads agree.
abbrev BodiesAgree : Map → Map → (Bindings → GroupForest) → (Bindings → GroupForest) → Type 0
BodiesAgree m m' go go' = (inner : Bindings) → Agree m m' (asks (own_part (go inner)))
    → own_part (go inner) ≡ own_part (go' inner)

block_agree : (m m' : Map) (site : ℕ) (head : Head) (env : Bindings) (go go' : Bindings → GroupForest)
    → BodiesAgree m m' go go' → Agree m m' (asks (own_part (composed_block m site head env go)))
    → own_part (composed_block m site head env go) ≡ own_part (composed_block m' site head env go')
block_agree m m' site (Node kind attributes) env go go' body a =
    after_agree m m' (eval_named m attributes env) (eval_named m' attributes env) _ _
    (named_agree m m' attributes env)
    (λ all b. ap (λ t. group site (trail.Node kind.text (map attribute all)) t) (body env (agree_front m m' _ [] b))) a
block_agree m m' site (Key key) env go go' body a =
    after_agree m m' (eval m key env) (eval m' key env) _ _ (eval_agree m m' key env)
    (λ v b. ap (λ t. group site (trail.Key v) t) (body env (agree_front m m' _ [] b))) a
block_agree m m' site (For name list) env go go' body a =
    after_agree m m' (eval m list env) (eval m' list env) _ _ (eval_agree m m' list env)
    (λ v b. turns_agree m m' (λ i. go (env ++ new_binding name.text (value.Int i) ∷ []))
    (λ i. go' (env ++ new_binding name.text (value.Int i) ∷ [])) (items_of v)
    (λ i c. body (env ++ new_binding name.text (value.Int i) ∷ []) c) b) a
block_agree m m' site (Let name e) env go go' body a =
    after_agree m m' (eval m e env) (eval m' e env) _ _ (eval_agree m m' e env)
    (λ v b. body (env ++ new_binding name.text v ∷ []) b) a
block_agree m m' site (Remember name keys e) env go go' body a =
    after_agree m m' (eval_named m keys env) (eval_named m' keys env) _ _ (named_agree m m' keys env)
    (λ ks b. after_agree m m' (eval m e ks) (eval m' e ks) _ _ (eval_agree m m' e ks)
    (λ v c. ap (λ t. Group site 0 (trail.Cell (map (λ k. k.value) ks) v) End t)
    (body (env ++ new_binding name.text v ∷ []) c)) b) a

mutual
  run_agree : (m m' : Map) (fs fs' : List Meaning) (s : Stmt) (env : Bindings)
      → Agree m m' (asks (own_part (run m fs s env))) → own_part (run m fs s env) ≡ own_part (run m' fs' s env)
  run_agree m m' fs fs' (Call at site name function arguments) env a =
      after_agree m m' (eval_all m arguments env) (eval_all m' arguments env) _ _ (all_agree m m' arguments env)
      (λ vs b. refl) a
  run_agree m m' fs fs' (If at site condition then_branch else_branch) env a =
      after_agree m m' (eval m condition env) (eval m' condition env) _ _ (eval_agree m m' condition env)
      (λ v b. choice_agree m m' (is_true v) (run_all m fs then_branch env) (run_all m fs else_branch env)
      (run_all m' fs' then_branch env) (run_all m' fs' else_branch env)
      (body_agree m m' fs fs' then_branch env) (body_agree m m' fs fs' else_branch env) b) a
  run_agree m m' fs fs' (Block at site head body) env a =
      block_agree m m' site head env (λ inner. run_all m fs body inner) (λ inner. run_all m' fs' body inner)
      (λ inner b. body_agree m m' fs fs' body inner b) a

  pub body_agree : (m m' : Map) (fs fs' : List Meaning) (body : Stmts) (env : Bindings)
      → Agree m m' (asks (own_part (run_all m fs body env)))
      → own_part (run_all m fs body env) ≡ own_part (run_all m' fs' body env)
  body_agree m m' fs fs' done env a = refl
  body_agree m m' fs fs' (next s ss) env a =
      joined_agree m m' (run m fs s env) (run m' fs' s env) (run_all m fs ss env) (run_all m' fs' ss env)
      (run_agree m m' fs fs' s env) (body_agree m m' fs fs' ss env) a

-- The forest of a body is its own part, in which the inner calls are composed by the meanings.

after_filled : {A : Type 0} (fs : List Meaning) (r : Reading A) (go : A → GroupForest)
    → ((a : A) → go a ≡ recomposed_forest fs (own_part (go a)))
    → forest_after r go ≡ recomposed_forest fs (own_part (forest_after r go))
unfolding forest_after
after_filled fs r go h =
    ap (λ t. reads_then r.reads t) (h r.value) ∙ sym (recomposed_forest-reads_then fs r.reads (own_part (go r.value)))
    ∙ ap (λ t. recomposed_forest fs t) (sym (own-reads_then r.reads (go r.value)))

joined_filled : (fs : List Meaning) (t u : GroupForest) → t ≡ recomposed_forest fs (own_part t)
    → u ≡ recomposed_forest fs (own_part u) → joined_forest t u ≡ recomposed_forest fs (own_part (joined_forest t u))
joined_filled fs t u f g =
    ap (λ v. joined_forest v u) f ∙ ap (λ v. joined_forest (recomposed_forest fs (own_part t)) v) g
    ∙ sym (recomposed_forest-joined_forest fs (own_part t) (own_part u))
    ∙ ap (λ v. recomposed_forest fs v) (sym (own-joined_forest t u))

turns_filled : (fs : List Meaning) (go : ℤ → GroupForest) (is : List ℤ)
    → ((i : ℤ) → go i ≡ recomposed_forest fs (own_part (go i)))
    → turns go is ≡ recomposed_forest fs (own_part (turns go is))
unfolding turns
turns_filled fs go [] h = refl
turns_filled fs go (i ∷ is) h = joined_filled fs (go i) (turns go is) (h i) (turns_filled fs go is h)

choice_filled : (fs : List Meaning) (c : Bool) (x y : GroupForest) → x ≡ recomposed_forest fs (own_part x)
    → y ≡ recomposed_forest fs (own_part y)
    → (if c then x else y) ≡ recomposed_forest fs (own_part (if c then x else y))
choice_filled fs true x y f g = f
choice_filled fs false x y f g = g

block_filled : (m : Map) (fs : List Meaning) (site : ℕ) (head : Head) (env : Bindings) (go : Bindings → GroupForest)
    → ((inner : Bindings) → go inner ≡ recomposed_forest fs (own_part (go inner)))
    → composed_block m site head env go ≡ recomposed_forest fs (own_part (composed_block m site head env go))
block_filled m fs site (Node kind attributes) env go body =
    after_filled fs (eval_named m attributes env) _
    (λ all. ap (λ t. group site (trail.Node kind.text (map attribute all)) t) (body env))
block_filled m fs site (Key key) env go body =
    after_filled fs (eval m key env) _ (λ v. ap (λ t. group site (trail.Key v) t) (body env))
block_filled m fs site (For name list) env go body =
    after_filled fs (eval m list env) _
    (λ v. turns_filled fs (λ i. go (env ++ new_binding name.text (value.Int i) ∷ [])) (items_of v)
    (λ i. body (env ++ new_binding name.text (value.Int i) ∷ [])))
block_filled m fs site (Let name e) env go body =
    after_filled fs (eval m e env) _ (λ v. body (env ++ new_binding name.text v ∷ []))
block_filled m fs site (Remember name keys e) env go body =
    after_filled fs (eval_named m keys env) _ (λ ks. after_filled fs (eval m e ks) _
    (λ v. ap (λ t. Group site 0 (trail.Cell (map (λ k. k.value) ks) v) End t)
    (body (env ++ new_binding name.text v ∷ []))))

mutual
  run_filled : (m : Map) (fs : List Meaning) (s : Stmt) (env : Bindings)
      → run m fs s env ≡ recomposed_forest fs (own_part (run m fs s env))
  run_filled m fs (Call at site name function arguments) env = after_filled fs (eval_all m arguments env) _ (λ vs. refl)
  run_filled m fs (If at site condition then_branch else_branch) env =
      after_filled fs (eval m condition env) _
      (λ v. choice_filled fs (is_true v) (run_all m fs then_branch env) (run_all m fs else_branch env)
      (body_filled m fs then_branch env) (body_filled m fs else_branch env))
  run_filled m fs (Block at site head body) env =
      block_filled m fs site head env (λ inner. run_all m fs body inner) (λ inner. body_filled m fs body inner)

  body_filled : (m : Map) (fs : List Meaning) (body : Stmts) (env : Bindings)
      → run_all m fs body env ≡ recomposed_forest fs (own_part (run_all m fs body env))
  body_filled m fs done env = refl
  body_filled m fs (next s ss) env =
      joined_filled fs (run m fs s env) (run_all m fs ss env) (run_filled m fs s env) (body_filled m fs ss env)

pub skipping_is_right : SkippingIsRight
skipping_is_right m m' fs fs' body env a =
    body_filled m' fs' body env ∙ ap (recomposed_forest fs') (sym (body_agree m m' fs fs' body env a))
