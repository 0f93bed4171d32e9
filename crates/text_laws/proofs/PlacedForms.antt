-- The forms of a text at other offsets.
use Rattle.std.proofs.Common.{◌≡◌, ℕ, suc, ◌+◌, List, [], ◌∷◌, ◌++◌, map, refl, sym, ap, ◌∙◌, subst, ℤ, Option, Some, None, codes, true}
use Rattle.std.specs.Fmt.{signed_decimal}
use Rattle.std.specs.Option.{option_map}
use Rattle.sexp_text.specs.Forest.{Forest, atom, text, list}
use Rattle.rt_values.specs.Keywords.{kind_word, type_word}
use Rattle.rt_values.specs.declared.value.Value.{Value}
use Rattle.rt_values.specs.declared.value.Value.TheVariants as value
use Rattle.lang_ast.specs.Terms.{Expr, Literal, Variable, Get, Apply, Exprs, none, more, Named, Head, Node, Key, For, Let, Remember, Stmt, Call, If, Block, Stmts, done, next, Func, operand_count}
use Rattle.lang_ast.specs.declared.syntax.Parameter.{Parameter}
use Rattle.lang_ast.specs.declared.program.State.{State}
use Rattle.lang_ast.specs.declared.script.SnapshotRef.{SnapshotRef}
use Rattle.lang_ast.specs.declared.script.SnapshotRef.TheVariants.{Global, Named as NamedSnapshot}
use Rattle.lang_ast.specs.declared.script.CallForm.{CallForm}
use Rattle.lang_ast.specs.declared.script.CallForm.TheVariants as call
use Rattle.lang_ast.specs.declared.script.StepForm.{StepForm}
use Rattle.lang_ast.specs.declared.script.StepForm.TheVariants as step
use Rattle.lang_ast.specs.declared.script.ScriptForm.{ScriptForm}
use Rattle.lang_ast.specs.declared.script.ScriptForm.TheVariants.{Once, Repeat}
use Rattle.lang_ast.specs.declared.script.DoForm.{DoForm}
use Rattle.lang_forms.specs.Sources.{Source}
use Rattle.lang_forms.specs.Words.{version_word, policy_word, operator_word, takes}
use Rattle.lang_forms.specs.Sketch.{Sketch, nothing, leaf, numeral, string, group, sequence, IsAtOffset, Fits, unplaced_sketch}
use Rattle.lang_forms.specs.Forms.{word, name, numbers, literal, expr_forms, exprs_forms, pairs_forms, head_forms, stmt_forms, stmts_forms, parameters_forms, state_forms, function_forms, snapshot_forms, call_forms, calls_forms, step_forms, steps_forms, actor_step_forms, actor_forms, states_forms, functions_forms, scripts_forms, text_forms, KnownNames, Spelled, AllSpelled, SpelledPairs, site_after, site_after_all, SpelledHead, SpelledStmt, SpelledStmts, SpelledParameters, SpelledStates, state_name, function_name, SpelledFunctions, is_snapshot, SpelledCall, SpelledCalls, SpelledStep, SpelledSteps, SpelledActorStep, SpelledActor, SpelledScripts, SpelledSource, HasForms}
use Rattle.text_laws.specs.OtherOffsets.{placed_forest, placed_name, placed_expr, placed_exprs, placed_pair, placed_head, placed_stmt, placed_stmts, placed_parameter, placed_function, placed_state, placed_snapshot, placed_call, placed_step, placed_script_form, placed_do, placed_source}

module _ (g : ℕ → ℕ) where
  -- The trees of a sketch at other offsets.
  abbrev pub placed_sketch : Sketch → Sketch
  placed_sketch nothing = nothing
  placed_sketch (leaf p a f) = leaf (option_map g p) a (placed_sketch f)
  placed_sketch (numeral p z f) = numeral (option_map g p) z (placed_sketch f)
  placed_sketch (string p s f) = string (option_map g p) s (placed_sketch f)
  placed_sketch (group p i f) = group (option_map g p) (placed_sketch i) (placed_sketch f)
  placed_sketch (sequence p i f) = sequence (option_map g p) (placed_sketch i) (placed_sketch f)

  pub unplaced-placed : (s : Sketch) → unplaced_sketch (placed_sketch s) ≡ unplaced_sketch s
  unplaced-placed nothing = refl
  unplaced-placed (leaf p a f) = ap (atom 0 a) (unplaced-placed f)
  unplaced-placed (numeral p z f) = ap (atom 0 (signed_decimal z)) (unplaced-placed f)
  unplaced-placed (string p s f) = ap (text 0 s) (unplaced-placed f)
  unplaced-placed (group p i f) = ap (λ j. list 0 j (unplaced_sketch (placed_sketch f))) (unplaced-placed i)
      ∙ ap (list 0 (unplaced_sketch i)) (unplaced-placed f)
  unplaced-placed (sequence p i f) = ap (λ j. list 0 j (unplaced_sketch (placed_sketch f))) (unplaced-placed i)
      ∙ ap (list 0 (unplaced_sketch i)) (unplaced-placed f)

  offset-placed : (p : Option ℕ) (at : ℕ) → IsAtOffset p at → IsAtOffset (option_map g p) (g at)
  offset-placed None at h = tt
  offset-placed (Some x) at h = ap g h

  fits-placed : (f : Forest) (s : Sketch) → Fits f s → Fits (placed_forest g f) (placed_sketch s)
  fits-placed f nothing h = ap (placed_forest g) h
  fits-placed f (leaf p a s) h =
      (g h.0, placed_forest g h.1, ap (placed_forest g) h.2, offset-placed p h.0 h.3, fits-placed h.1 s h.4)
  fits-placed f (numeral p z s) h =
      (g h.0, placed_forest g h.1, ap (placed_forest g) h.2, offset-placed p h.0 h.3, fits-placed h.1 s h.4)
  fits-placed f (string p cs s) h =
      (g h.0, placed_forest g h.1, ap (placed_forest g) h.2, offset-placed p h.0 h.3, fits-placed h.1 s h.4)
  fits-placed f (group p i s) h = (
    g h.0,
    placed_forest g h.1,
    placed_forest g h.2,
    ap (placed_forest g) h.3,
    offset-placed p h.0 h.4,
    fits-placed h.1 i h.5,
    fits-placed h.2 s h.6,
  )
  fits-placed f (sequence p i s) h = (
    g h.0,
    placed_forest g h.1,
    placed_forest g h.2,
    ap (placed_forest g) h.3,
    offset-placed p h.0 h.4,
    fits-placed h.1 i h.5,
    fits-placed h.2 s h.6,
  )

  -- The forms of each part.

  numbers-placed : (zs : List ℤ) → placed_sketch (numbers zs) ≡ numbers zs
  numbers-placed [] = refl
  numbers-placed (z ∷ zs) = ap (numeral None z) (numbers-placed zs)

  literal-placed : (p : Option ℕ) (v : Value) (f : Sketch)
      → literal (option_map g p) v (placed_sketch f) ≡ placed_sketch (literal p v f)
  literal-placed p (value.Int z) f = refl
  literal-placed p (value.Bool b) f = refl
  literal-placed p (value.Text cs) f = refl
  literal-placed p (value.Ints zs) f =
      ap (λ s. sequence (option_map g p) (word (codes "ints") s) (placed_sketch f)) (sym (numbers-placed zs))

  mutual
    expr-placed : (e : Expr) (f : Sketch) → expr_forms (placed_expr g e) (placed_sketch f) ≡ placed_sketch (expr_forms e f)
    expr-placed (Literal at v) f = literal-placed (Some at) v f
    expr-placed (Variable n) f = refl
    expr-placed (Get at n source) f = refl
    expr-placed (Apply at op es) f =
        ap (λ s. sequence (Some (g at)) (word (operator_word op) s) (placed_sketch f)) (exprs-placed es)

    exprs-placed : (es : Exprs) → exprs_forms (placed_exprs g es) ≡ placed_sketch (exprs_forms es)
    exprs-placed none = refl
    exprs-placed (more e es) =
        ap (λ s. expr_forms (placed_expr g e) s) (exprs-placed es) ∙ expr-placed e (exprs_forms es)

  pairs-placed : (ns : List Named) → pairs_forms (map (placed_pair g) ns) ≡ placed_sketch (pairs_forms ns)
  pairs-placed [] = refl
  pairs-placed (k ∷ ks) =
      ap (λ s. group None (name (placed_name g k.name) s) (pairs_forms (map (placed_pair g) ks)))
      (expr-placed k.value nothing)
      ∙ ap (λ s. group None (name (placed_name g k.name) (placed_sketch (expr_forms k.value nothing))) s) (pairs-placed ks)

  head-placed : (h : Head) (f : Sketch) → head_forms (placed_head g h) (placed_sketch f) ≡ placed_sketch (head_forms h f)
  head-placed (Node n ns) f =
      ap (λ s. word (codes "node") (name (placed_name g n) (group None s (placed_sketch f)))) (pairs-placed ns)
  head-placed (Key e) f = ap (word (codes "key")) (expr-placed e f)
  head-placed (For n e) f = ap (λ s. word (codes "for") (name (placed_name g n) s)) (expr-placed e f)
  head-placed (Let n e) f = ap (λ s. word (codes "let") (name (placed_name g n) s)) (expr-placed e f)
  head-placed (Remember n ks e) f =
      ap (λ s. word (codes "remember") (name (placed_name g n) (group None s (expr_forms (placed_expr g e) (placed_sketch f)))))
      (pairs-placed ks)
      ∙ ap (λ s. word (codes "remember") (name (placed_name g n) (group None (placed_sketch (pairs_forms ks)) s)))
      (expr-placed e f)

  mutual
    stmt-placed : (s : Stmt) (f : Sketch) → stmt_forms (placed_stmt g s) (placed_sketch f) ≡ placed_sketch (stmt_forms s f)
    stmt-placed (Call at site n function es) f =
        ap (λ s. group (Some (g at)) (word (codes "call") (name (placed_name g n) s)) (placed_sketch f)) (exprs-placed es)
    stmt-placed (If at site e a b) f =
        ap (λ s. group (Some (g at)) (word (codes "if") s) (placed_sketch f))
        (ap (λ s. expr_forms (placed_expr g e) (group None s (group None (stmts_forms (placed_stmts g b)) nothing)))
        (stmts-placed a)
        ∙ ap (λ s. expr_forms (placed_expr g e) (group None (placed_sketch (stmts_forms a)) (group None s nothing)))
        (stmts-placed b)
        ∙ expr-placed e (group None (stmts_forms a) (group None (stmts_forms b) nothing)))
    stmt-placed (Block at site h body) f =
        ap (λ s. group (Some (g at)) s (placed_sketch f))
        (ap (head_forms (placed_head g h)) (stmts-placed body) ∙ head-placed h (stmts_forms body))

    stmts-placed : (ss : Stmts) → stmts_forms (placed_stmts g ss) ≡ placed_sketch (stmts_forms ss)
    stmts-placed done = refl
    stmts-placed (next s ss) = ap (stmt_forms (placed_stmt g s)) (stmts-placed ss) ∙ stmt-placed s (stmts_forms ss)

  parameters-placed : (ps : List Parameter)
      → parameters_forms (map (placed_parameter g) ps) ≡ placed_sketch (parameters_forms ps)
  parameters-placed [] = refl
  parameters-placed (p ∷ ps) =
      ap (group None (name (placed_name g p.name) (word (type_word p.ty) nothing))) (parameters-placed ps)

  state-placed : (s : State) (f : Sketch) → state_forms (placed_state g s) (placed_sketch f) ≡ placed_sketch (state_forms s f)
  state-placed s f =
      ap (λ i. group (Some (g s.at)) (word (codes "state") (name (placed_name g s.name)
      (word (type_word s.ty) (word (policy_word s.policy) i)))) (placed_sketch f)) (literal-placed None s.initial nothing)

  function-placed : (c : Func) (f : Sketch)
      → function_forms (placed_function g c) (placed_sketch f) ≡ placed_sketch (function_forms c f)
  function-placed c f =
      ap (λ s. group (Some (g c.at)) (word (codes "fun") (name (placed_name g c.name)
      (group None s (stmts_forms (placed_stmts g c.body))))) (placed_sketch f)) (parameters-placed c.parameters)
      ∙ ap (λ s. group (Some (g c.at)) (word (codes "fun") (name (placed_name g c.name)
      (group None (placed_sketch (parameters_forms c.parameters)) s))) (placed_sketch f)) (stmts-placed c.body)

  snapshot-placed : (s : SnapshotRef) (f : Sketch)
      → snapshot_forms (placed_snapshot g s) (placed_sketch f) ≡ placed_sketch (snapshot_forms s f)
  snapshot-placed Global f = refl
  snapshot-placed (NamedSnapshot n) f = refl

  call-placed : (c : CallForm) (f : Sketch) → call_forms (placed_call g c) (placed_sketch f) ≡ placed_sketch (call_forms c f)
  call-placed (call.Take at n kind parent) f =
      ap (λ s. group (Some (g at)) (word (codes "take") (name (placed_name g n) (word (kind_word kind) s)))
      (placed_sketch f)) (snapshot-placed parent nothing)
  call-placed (call.Read at s n x) f =
      ap (λ i. group (Some (g at)) (word (codes "read") i) (placed_sketch f)) (snapshot-placed s (name n nothing))
  call-placed (call.Write at s n x v) f =
      ap (λ i. group (Some (g at)) (word (codes "write") i) (placed_sketch f))
      (ap (λ i. snapshot_forms (placed_snapshot g s) (name (placed_name g n) i)) (literal-placed None v nothing)
      ∙ snapshot-placed s (name n (literal None v nothing)))
  call-placed (call.Add at s n x d) f =
      ap (λ i. group (Some (g at)) (word (codes "add") i) (placed_sketch f))
      (snapshot-placed s (name n (numeral None d nothing)))
  call-placed (call.Apply at s) f =
      ap (λ i. group (Some (g at)) (word (codes "apply") i) (placed_sketch f)) (snapshot-placed s nothing)
  call-placed (call.Dispose at s) f =
      ap (λ i. group (Some (g at)) (word (codes "dispose") i) (placed_sketch f)) (snapshot-placed s nothing)

  calls-placed : (cs : List CallForm) → calls_forms (map (placed_call g) cs) ≡ placed_sketch (calls_forms cs)
  calls-placed [] = refl
  calls-placed (c ∷ cs) = ap (call_forms (placed_call g c)) (calls-placed cs) ∙ call-placed c (calls_forms cs)

  step-placed : (s : StepForm) (f : Sketch) → step_forms (placed_step g s) (placed_sketch f) ≡ placed_sketch (step_forms s f)
  step-placed (step.Call c) f = call-placed c f
  step-placed (step.Frame at) f = refl
  step-placed (step.FrameDuring at during) f =
      ap (λ s. group (Some (g at)) (word (codes "frame") (group None (word (codes "during") s) nothing)) (placed_sketch f))
      (calls-placed during)

  steps-placed : (ss : List StepForm) → steps_forms (map (placed_step g) ss) ≡ placed_sketch (steps_forms ss)
  steps-placed [] = refl
  steps-placed (s ∷ ss) = ap (step_forms (placed_step g s)) (steps-placed ss) ∙ step-placed s (steps_forms ss)

  actor_step-placed : (s : ScriptForm) (f : Sketch)
      → actor_step_forms (placed_script_form g s) (placed_sketch f) ≡ placed_sketch (actor_step_forms s f)
  actor_step-placed (Once s) f = step-placed s f
  actor_step-placed (Repeat at times steps) f =
      ap (λ s. group (Some (g at)) (word (codes "repeat") (numeral None times s)) (placed_sketch f)) (steps-placed steps)

  actor-placed : (ss : List ScriptForm) → actor_forms (map (placed_script_form g) ss) ≡ placed_sketch (actor_forms ss)
  actor-placed [] = refl
  actor-placed (s ∷ ss) =
      ap (actor_step_forms (placed_script_form g s)) (actor-placed ss) ∙ actor_step-placed s (actor_forms ss)

  states-placed : (ss : List State) (f : Sketch)
      → states_forms (map (placed_state g) ss) (placed_sketch f) ≡ placed_sketch (states_forms ss f)
  states-placed [] f = refl
  states-placed (s ∷ ss) f = ap (state_forms (placed_state g s)) (states-placed ss f) ∙ state-placed s (states_forms ss f)

  functions-placed : (cs : List Func) (f : Sketch)
      → functions_forms (map (placed_function g) cs) (placed_sketch f) ≡ placed_sketch (functions_forms cs f)
  functions-placed [] f = refl
  functions-placed (c ∷ cs) f =
      ap (function_forms (placed_function g c)) (functions-placed cs f) ∙ function-placed c (functions_forms cs f)

  scripts-placed : (ds : List DoForm) → scripts_forms (map (placed_do g) ds) ≡ placed_sketch (scripts_forms ds)
  scripts-placed [] = refl
  scripts-placed (d ∷ ds) =
      ap (λ s. group (Some (g d.at)) (word (codes "do") (name (placed_name g d.actor) s))
      (scripts_forms (map (placed_do g) ds))) (actor-placed d.steps)
      ∙ ap (λ s. group (Some (g d.at)) (word (codes "do") (name (placed_name g d.actor) (placed_sketch
      (actor_forms d.steps)))) s) (scripts-placed ds)

  pub text-placed : (t : Source) → text_forms (placed_source g t) ≡ placed_sketch (text_forms t)
  text-placed t =
      ap (group (Some (g t.program.header)) (word (codes "compose") (word (version_word t.program.version) nothing)))
      (ap (λ s. states_forms (map (placed_state g) t.program.states)
      (functions_forms (map (placed_function g) t.program.functions) s)) (scripts-placed t.script)
      ∙ ap (states_forms (map (placed_state g) t.program.states))
      (functions-placed t.program.functions (scripts_forms t.script))
      ∙ states-placed t.program.states (functions_forms t.program.functions (scripts_forms t.script)))

  -- What the parts may be.

  operand_count-placed : (es : Exprs) → operand_count (placed_exprs g es) ≡ operand_count es
  operand_count-placed none = refl
  operand_count-placed (more e es) = ap (λ n. suc n) (operand_count-placed es)

  mutual
    spelled-placed : (m : List (List ℕ)) (e : Expr) → Spelled m e → Spelled m (placed_expr g e)
    spelled-placed m (Literal at v) h = h
    spelled-placed m (Variable n) h = h
    spelled-placed m (Get at n source) h = h
    spelled-placed m (Apply at op es) h =
        (ap (takes op) (operand_count-placed es) ∙ h.0, all_spelled-placed m es h.1)

    all_spelled-placed : (m : List (List ℕ)) (es : Exprs) → AllSpelled m es → AllSpelled m (placed_exprs g es)
    all_spelled-placed m none h = tt
    all_spelled-placed m (more e es) h = (spelled-placed m e h.0, all_spelled-placed m es h.1)

  spelled_pairs-placed : (m : List (List ℕ)) (ks : List Named) → SpelledPairs m ks → SpelledPairs m (map (placed_pair g) ks)
  spelled_pairs-placed m [] h = tt
  spelled_pairs-placed m (k ∷ ks) h = (h.0, spelled-placed m k.value h.1, spelled_pairs-placed m ks h.2)

  mutual
    site_after-placed : (k : ℕ) (s : Stmt) → site_after k (placed_stmt g s) ≡ site_after k s
    site_after-placed k (Call at site n function es) = refl
    site_after-placed k (If at site e a b) =
        ap (λ j. site_after_all j (placed_stmts g b)) (site_after_all-placed (k + 1) a)
        ∙ site_after_all-placed (site_after_all (k + 1) a) b
    site_after-placed k (Block at site h body) = site_after_all-placed (k + 1) body

    site_after_all-placed : (k : ℕ) (ss : Stmts) → site_after_all k (placed_stmts g ss) ≡ site_after_all k ss
    site_after_all-placed k done = refl
    site_after_all-placed k (next s ss) =
        ap (λ j. site_after_all j (placed_stmts g ss)) (site_after-placed k s) ∙ site_after_all-placed (site_after k s) ss

  spelled_head-placed : (m : List (List ℕ)) (h : Head) → SpelledHead m h → SpelledHead m (placed_head g h)
  spelled_head-placed m (Node n ns) h = (h.0, spelled_pairs-placed m ns h.1)
  spelled_head-placed m (Key e) h = spelled-placed m e h
  spelled_head-placed m (For n e) h = (h.0, spelled-placed m e h.1)
  spelled_head-placed m (Let n e) h = (h.0, spelled-placed m e h.1)
  spelled_head-placed m (Remember n ks e) h = (h.0, spelled_pairs-placed m ks h.1, spelled-placed m e h.2)

  mutual
    spelled_stmt-placed : (m : KnownNames) (k : ℕ) (s : Stmt) → SpelledStmt m k s → SpelledStmt m k (placed_stmt g s)
    spelled_stmt-placed m k (Call at site n function es) h = (h.0, h.1, h.2, all_spelled-placed m.states es h.3)
    spelled_stmt-placed m k (If at site e a b) h = (
      h.0,
      spelled-placed m.states e h.1,
      spelled_stmts-placed m (k + 1) a h.2,
      subst (λ j. SpelledStmts m j (placed_stmts g b)) (sym (site_after_all-placed (k + 1) a))
          (spelled_stmts-placed m (site_after_all (k + 1) a) b h.3),
    )
    spelled_stmt-placed m k (Block at site head body) h =
        (h.0, spelled_head-placed m.states head h.1, spelled_stmts-placed m (k + 1) body h.2)

    spelled_stmts-placed : (m : KnownNames) (k : ℕ) (ss : Stmts) → SpelledStmts m k ss → SpelledStmts m k (placed_stmts g ss)
    spelled_stmts-placed m k done h = tt
    spelled_stmts-placed m k (next s ss) h = (
      spelled_stmt-placed m k s h.0,
      subst (λ j. SpelledStmts m j (placed_stmts g ss)) (sym (site_after-placed k s))
          (spelled_stmts-placed m (site_after k s) ss h.1),
    )

  spelled_parameters-placed : (ps : List Parameter) → SpelledParameters ps
      → SpelledParameters (map (placed_parameter g) ps)
  spelled_parameters-placed [] h = tt
  spelled_parameters-placed (p ∷ ps) h = (h.0, spelled_parameters-placed ps h.1)

  spelled_states-placed : (ss : List State) → SpelledStates ss → SpelledStates (map (placed_state g) ss)
  spelled_states-placed [] h = tt
  spelled_states-placed (s ∷ ss) h = (h.0, h.1, spelled_states-placed ss h.2)

  state_names-placed : (ss : List State) → map state_name (map (placed_state g) ss) ≡ map state_name ss
  state_names-placed [] = refl
  state_names-placed (s ∷ ss) = ap (λ l. s.name.text ∷ l) (state_names-placed ss)

  spelled_functions-placed : (m : KnownNames) (k : ℕ) (cs : List Func) → SpelledFunctions m k cs
      → SpelledFunctions m k (map (placed_function g) cs)
  spelled_functions-placed m k [] h = tt
  spelled_functions-placed m k (c ∷ cs) h =
      let later : KnownNames = record { states = m.states; functions = m.functions ++ function_name c ∷ [] } in (
        h.0,
        spelled_parameters-placed c.parameters h.1,
        spelled_stmts-placed m k c.body h.2,
        subst (λ j. SpelledFunctions later j (map (placed_function g) cs)) (sym (site_after_all-placed k c.body))
            (spelled_functions-placed later (site_after_all k c.body) cs h.3),
      )

  is_snapshot-placed : (s : SnapshotRef) → is_snapshot s ≡ true → is_snapshot (placed_snapshot g s) ≡ true
  is_snapshot-placed Global h = h
  is_snapshot-placed (NamedSnapshot n) h = h

  spelled_call-placed : (m : List (List ℕ)) (c : CallForm) → SpelledCall m c → SpelledCall m (placed_call g c)
  spelled_call-placed m (call.Take at n kind parent) h = (h.0, is_snapshot-placed parent h.1)
  spelled_call-placed m (call.Read at s n x) h = (is_snapshot-placed s h.0, h.1, h.2)
  spelled_call-placed m (call.Write at s n x v) h = (is_snapshot-placed s h.0, h.1, h.2, h.3)
  spelled_call-placed m (call.Add at s n x d) h = (is_snapshot-placed s h.0, h.1, h.2, h.3)
  spelled_call-placed m (call.Apply at s) h = is_snapshot-placed s h
  spelled_call-placed m (call.Dispose at s) h = is_snapshot-placed s h

  spelled_calls-placed : (m : List (List ℕ)) (cs : List CallForm) → SpelledCalls m cs → SpelledCalls m (map (placed_call g) cs)
  spelled_calls-placed m [] h = tt
  spelled_calls-placed m (c ∷ cs) h = (spelled_call-placed m c h.0, spelled_calls-placed m cs h.1)

  spelled_step-placed : (m : List (List ℕ)) (s : StepForm) → SpelledStep m s → SpelledStep m (placed_step g s)
  spelled_step-placed m (step.Call c) h = spelled_call-placed m c h
  spelled_step-placed m (step.Frame at) h = tt
  spelled_step-placed m (step.FrameDuring at during) h = spelled_calls-placed m during h

  spelled_steps-placed : (m : List (List ℕ)) (ss : List StepForm) → SpelledSteps m ss → SpelledSteps m (map (placed_step g) ss)
  spelled_steps-placed m [] h = tt
  spelled_steps-placed m (s ∷ ss) h = (spelled_step-placed m s h.0, spelled_steps-placed m ss h.1)

  spelled_actor_step-placed : (m : List (List ℕ)) (s : ScriptForm) → SpelledActorStep m s
      → SpelledActorStep m (placed_script_form g s)
  spelled_actor_step-placed m (Once s) h = spelled_step-placed m s h
  spelled_actor_step-placed m (Repeat at times steps) h = (h.0, spelled_steps-placed m steps h.1)

  spelled_actor-placed : (m : List (List ℕ)) (ss : List ScriptForm) → SpelledActor m ss
      → SpelledActor m (map (placed_script_form g) ss)
  spelled_actor-placed m [] h = tt
  spelled_actor-placed m (s ∷ ss) h = (spelled_actor_step-placed m s h.0, spelled_actor-placed m ss h.1)

  spelled_scripts-placed : (m : List (List ℕ)) (ds : List DoForm) → SpelledScripts m ds
      → SpelledScripts m (map (placed_do g) ds)
  spelled_scripts-placed m [] h = tt
  spelled_scripts-placed m (d ∷ ds) h = (h.0, spelled_actor-placed m d.steps h.1, spelled_scripts-placed m ds h.2)

  spelled_source-placed : (t : Source) → SpelledSource t → SpelledSource (placed_source g t)
  spelled_source-placed t h = record {
    states = spelled_states-placed t.program.states h.states;
    functions = subst (λ names. SpelledFunctions (record { states = names; functions = [] }) 1
        (map (placed_function g) t.program.functions)) (sym (state_names-placed t.program.states))
        (spelled_functions-placed _ 1 t.program.functions h.functions);
    script = subst (λ names. SpelledScripts names (map (placed_do g) t.script))
        (sym (state_names-placed t.program.states)) (spelled_scripts-placed _ t.script h.script);
  }

  -- A forest at other offsets has the forms of the source at these offsets.
  pub forms-placed : (f : Forest) (t : Source) → HasForms f t → HasForms (placed_forest g f) (placed_source g t)
  forms-placed f t h = record {
    fits = subst (Fits (placed_forest g f)) (sym (text-placed t)) (fits-placed f (text_forms t) h.fits);
    spelled = spelled_source-placed t h.spelled;
  }
