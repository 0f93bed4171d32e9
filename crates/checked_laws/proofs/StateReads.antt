-- Composing a checked program reads only its states.
use Rattle.std.proofs.Common.{◌≡◌, ◌<◌, ℕ, zero, suc, List, [], ◌∷◌, ◌++◌, All, length, Bool, true, false, Option, Some, None, refl, inl, inr, is_some, slice_get, if◌then◌else◌}
use Rattle.std.proofs.lemmas.Option.{slice_get_cases}
use Rattle.std.proofs.lemmas.List.Elements.{All-nil, All-cons, All-append}
use Rattle.rt_values.specs.Maps.{Map}
use Rattle.rt_groups.specs.GroupForest.{GroupForest, End, Read, Group, asks}
use Rattle.lang_ast.specs.declared.syntax.Source.TheVariants as source
use Rattle.lang_ast.specs.Terms.{Expr, Literal, Variable, Get, Apply, Exprs, none, more, Named, Head, Node, Key, For, Let, Remember, Stmt, Call, If, Block, Func}
use Rattle.lang_ast.specs.declared.program.State.{State}
use Rattle.lang_ast.specs.ResultsWithReads.{Reading, mapped_reading, with}
use Rattle.lang_ast.specs.Evaluation.{Bindings, new_binding, apply, is_pick, operand_taken, eval, eval_all, eval_nth, eval_named}
use Rattle.lang_checks.specs.declared.environment.TypedName.{TypedName}
use Rattle.lang_checks.specs.Scopes.{type_if_named, state_type}
use Rattle.lang_checks.specs.Expressions.{ExpressionScope, expr_faults, exprs_faults, values_faults}
use Rattle.lang_checks.specs.Statements.{StatementContext, plain_scope, inside, head_faults}
use Rattle.lang_ast.proofs.Limits.{none_in}
use Rattle.lang_checks.proofs.Fine.{held}
use Rattle.compose_model.specs.Composing.{Meaning, forest}
use Rattle.recompose_laws.proofs.ForestProperties.{head_reads, head_group, allows_all, StatementFacts, IsForestProperty, AllHold, meanings_hold}
use Rattle.checked_laws.specs.CheckedPrograms.{ReadsAreOfStates}
use Rattle.checked_laws.proofs.Parts.{PartsAreFine, parts, context, IsFineIn, functions_are_fine, bodies}

-- All numbers of a list are below n.
abbrev Below : ℕ → List ℕ → Type 0
Below n [] = Unit {0}
Below n (x ∷ xs) = (x < n) × Below n xs

below_on : (n : ℕ) (xs ys : List ℕ) → Below n xs → Below n ys → Below n (xs ++ ys)
below_on n [] ys h g = g
below_on n (x ∷ xs) ys h g = (h.0, below_on n xs ys h.1 g)

named_state : (states : List State) (name : List ℕ) (number : ℕ) → is_some (state_type states name number) ≡ true
    → number < length states
named_state states name number h = by (slice_get states number) refl h
  where
    by : (o : Option State) → slice_get states number ≡ o → is_some (type_if_named name o) ≡ true
        → number < length states
    by None e g = absurd cc
    by (Some s) e g =
        elim (slice_get_cases states number).1 [ inl found ↦ found.1 | inr past ↦ absurd (cc (past.1, e)) ]

with_below : {A B : Type 0} (n : ℕ) (r : Reading A) (go : A → Reading B) → Below n r.reads
    → ((a : A) → Below n (go a).reads) → Below n (with r go).reads
with_below n r go h g = below_on n r.reads (go r.value).reads h (g r.value)

choice_below : {A : Type 0} (n : ℕ) (c : Bool) (x y : Reading A) → Below n x.reads → Below n y.reads
    → Below n (if c then x else y).reads
choice_below n true x y h g = h
choice_below n false x y h g = g

mutual
  expr_below : (l : ExpressionScope) (m : Map) (e : Expr) (env : Bindings) → expr_faults l e ≡ []
      → Below (length l.states) (eval m e env).reads
  expr_below l m (Literal at v) env h = tt
  expr_below l m (Variable name) env h = tt
  expr_below l m (Get at name (source.State number)) env h =
      (named_state l.states name.text number (held _ _ _ (none_in _ _ h).0), tt)
  expr_below l m (Apply at op es) env h =
      let fine = (none_in _ _ h).0 in
      choice_below (length l.states) (is_pick op)
      (with (eval_nth m es 0 env) (λ c. eval_nth m es (operand_taken c) env))
      (mapped_reading (apply op) (eval_all m es env))
      (with_below (length l.states) (eval_nth m es 0 env) (λ c. eval_nth m es (operand_taken c) env)
      (nth_below l m es 0 env fine) (λ c. nth_below l m es (operand_taken c) env fine))
      (exprs_below l m es env fine)

  exprs_below : (l : ExpressionScope) (m : Map) (es : Exprs) (env : Bindings) → exprs_faults l es ≡ []
      → Below (length l.states) (eval_all m es env).reads
  exprs_below l m none env h = tt
  exprs_below l m (more e es) env h =
      let both = none_in _ _ h in
      with_below (length l.states) (eval m e env) (λ v. mapped_reading (λ vs. v ∷ vs) (eval_all m es env))
      (expr_below l m e env both.0) (λ v. exprs_below l m es env both.1)

  nth_below : (l : ExpressionScope) (m : Map) (es : Exprs) (n : ℕ) (env : Bindings) → exprs_faults l es ≡ []
      → Below (length l.states) (eval_nth m es n env).reads
  nth_below l m none n env h = tt
  nth_below l m (more e es) zero env h = expr_below l m e env (none_in _ _ h).0
  nth_below l m (more e es) (suc n) env h = nth_below l m es n env (none_in _ _ h).1

named_below : (l : ExpressionScope) (m : Map) (ns : List Named) (env : Bindings) → values_faults l ns ≡ []
    → Below (length l.states) (eval_named m ns env).reads
named_below l m [] env h = tt
named_below l m (n ∷ ns) env h =
    let both = none_in _ _ h in
    with_below (length l.states) (eval m n.value env)
    (λ v. mapped_reading (λ bs. new_binding n.name.text v ∷ bs) (eval_named m ns env))
    (expr_below l m n.value env both.0) (λ v. named_below l m ns env both.1)

head_below : (p : StatementContext) (scope : List TypedName) (m : Map) (at : ℕ) (head : Head) (env : Bindings)
    → head_faults p scope at head ≡ [] → Below (length p.states) (head_reads m head env)
head_below p scope m at (Node kind attributes) env h =
    named_below (plain_scope p.states scope) m attributes env (none_in _ _ h).1
head_below p scope m at (Key key) env h = expr_below (plain_scope p.states scope) m key env h
head_below p scope m at (For name list) env h = expr_below (plain_scope p.states scope) m list env (none_in _ _ h).0
head_below p scope m at (Let name e) env h = expr_below (plain_scope p.states scope) m e env (none_in _ _ h).0
head_below p scope m at (Remember name keys e) env h =
    let both = none_in _ _ (none_in _ _ h).1 in
    let ks = eval_named m keys env in
    below_on (length p.states) ks.reads (eval m e ks.value).reads
    (named_below (plain_scope p.states scope) m keys env both.0)
    (expr_below (inside p.states scope keys) m e ks.value (none_in _ _ both.1).0)

-- A forest reads only numbers below n.
abbrev ReadsBelow : ℕ → GroupForest → Type 0
ReadsBelow n End = Unit {0}
ReadsBelow n (Read x rest) = (x < n) × ReadsBelow n rest
ReadsBelow n (Group site number what inside rest) = ReadsBelow n inside × ReadsBelow n rest

-- The property that forests read only states, for statements without faults.
reads_below : (states : List State) (functions : List Func) (m : Map) (fs : List Meaning)
    → AllHold (ReadsBelow (length states)) fs
    → IsForestProperty m fs (Below (length states)) (ReadsBelow (length states)) (IsFineIn states functions)
reads_below states functions m fs calls = record {
  none = tt;
  read = λ x xs r. (r.1, λ t h. (r.0, h));
  facts = λ s env h. facts s env h.0 h.1.scope (parts (context states functions h.0) h.1.scope s h.1.none);
}
  where
    facts : (s : Stmt) (env : Bindings) (me : ℕ) (scope : List TypedName)
        → PartsAreFine (context states functions me) scope s
        → StatementFacts m fs (Below (length states)) (ReadsBelow (length states)) s env
    facts (Call at site name function arguments) env me scope h =
        (exprs_below (plain_scope states scope) m arguments env h.0, λ u g. (calls function _, g))
    facts (If at site condition then_branch else_branch) env me scope h =
        expr_below (plain_scope states scope) m condition env h.0
    facts (Block at site head body) env me scope h = (
      head_below (context states functions me) scope m at head env h.0,
      allows_all (ReadsBelow (length states)) site (head_group m head env) (λ what t u f g. (f, g)),
    )

all_asked : (n : ℕ) (t : GroupForest) → ReadsBelow n t → All (λ x. x < n) (asks t)
all_asked n End h = All-nil (λ x. x < n)
all_asked n (Read x rest) h = All-cons (λ x. x < n) x (asks rest) h.0 (all_asked n rest h.1)
all_asked n (Group site number what inside rest) h =
    All-append (λ x. x < n) (asks inside) (asks rest) (all_asked n inside h.0) (all_asked n rest h.1)

pub reads_are_of_states : ReadsAreOfStates
reads_are_of_states p root m e =
    let below = meanings_hold (reads_below p.states p.functions m) p.functions tt
    (functions_are_fine p.states p.functions 0 p.functions (bodies p e)) in
    all_asked (length p.states) (forest p.functions root m) (below root [], tt)
