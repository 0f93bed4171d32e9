-- A program and a script do the same at other offsets.
use Rattle.std.proofs.Common.{◌≡◌, ℕ, zero, suc, nat_le, List, [], ◌∷◌, ◌++◌, map, true, false, refl, sym, ap, ◌∙◌, Option, Some, None, slice_get, if◌then◌else◌, codes, not, ◌==◌}
use Rattle.std.proofs.lemmas.List.{map-append}
use Rattle.std.proofs.lemmas.Option.{slice_get-map}
use Rattle.std.specs.List.{flat_map, filter}
use Rattle.std.specs.Option.{option_map, option_map_or}
use Rattle.rt_values.specs.declared.value.Value.{Value}
use Rattle.rt_values.specs.declared.value.Value.TheVariants as value
use Rattle.rt_values.specs.Operators.{is_true, items_of}
use Rattle.rt_values.specs.Values.{type_of, value_text}
use Rattle.rt_values.specs.Maps.{Map}
use Rattle.rt_groups.specs.GroupForest.{GroupForest, Group, End, how_many}
use Rattle.rt_groups.specs.GroupForest as trail
use Rattle.rt_groups.specs.Frames.{LastFrame, no_last_frame, most_groups}
use Rattle.lang_ast.specs.declared.syntax.Parameter.{Parameter}
use Rattle.lang_ast.specs.declared.program.State.{State}
use Rattle.lang_ast.specs.Terms.{Expr, Literal, Variable, Get, Apply, Exprs, none, more, Named, Head, Node, Key, For, Let, Remember, Stmt, Call, If, Block, Stmts, done, next, Func}
use Rattle.lang_ast.specs.Programs.{root_number}
use Rattle.lang_ast.specs.ResultsWithReads.{with, mapped_reading}
use Rattle.lang_ast.specs.Evaluation.{Bindings, new_binding, apply, is_pick, operand_taken, eval, eval_all, eval_nth, eval_named}
use Rattle.lang_ast.specs.declared.script.SnapshotRef.{SnapshotRef}
use Rattle.lang_ast.specs.declared.script.SnapshotRef.TheVariants.{Global, Named as NamedSnapshot}
use Rattle.lang_ast.specs.declared.script.CallForm.{CallForm}
use Rattle.lang_ast.specs.declared.script.CallForm.TheVariants as form
use Rattle.lang_ast.specs.declared.script.StepForm.{StepForm}
use Rattle.lang_ast.specs.declared.script.StepForm.TheVariants as step
use Rattle.lang_ast.specs.declared.script.ScriptForm.{ScriptForm}
use Rattle.lang_ast.specs.declared.script.ScriptForm.TheVariants.{Once, Repeat}
use Rattle.lang_ast.specs.declared.script.DoForm.{DoForm}
use Rattle.compose_model.specs.Composing.{forest_after, turns, group, Meaning, meaning_at, attribute, composed_block, run, run_all, bind, meaning, meanings_from, scratch}
use Rattle.compose_model.specs.Frame.{good_frame, frame, kept_after}
use Rattle.snap_policy.specs.declared.policy.BuiltIn.{BuiltIn}
use Rattle.snap_policy.specs.Table.{table}
use Rattle.snap_api.specs.World.{World, History, call, world_after_make, world_after_watch, start, snapshot_of}
use Rattle.snap_api.specs.declared.data.Entry.{Entry}
use Rattle.snap_api.specs.declared.data.Refusal.{Refusal}
use Rattle.snap_api.specs.declared.data.Refusal.TheVariants as refusal
use Rattle.snap_api.specs.declared.data.Reply.{Reply}
use Rattle.snap_api.specs.declared.data.Reply.TheVariants as reply
use Rattle.snap_api.specs.declared.data.Request.{Request}
use Rattle.snap_api.specs.declared.data.Request.TheVariants as request
use Rattle.script_lang.specs.declared.flags.Flags.{Flags}
use Rattle.lang_script.specs.SnapshotNames.{snapshot_number}
use Rattle.lang_script.specs.Scripts.{actors_of, index_of, written_out, times_of, repeated_steps}
use Rattle.lang_script.specs.StepCalls.{Part, Take, Read, Write, WriteSum, Apply as ApplyPart, Dispose, BeginFrame, EndFrame, ActorPart, of_actor, call_parts, calls_parts, step_parts, steps_parts, script_parts, Notes, no_notes, request_of, sum_request, notes_after, entry, sequential, with_states, opening_world}
use Rattle.script_lang.specs.Lines.{snapshot, frame_taken, Titles, LineStyle, state_name, state_names, request_text, refusal_text, reply_text, entry_line, line, actor_name, frame_lines, Standing, ends_frame, name_in, frame_at, lines_at, next as next_standing, lines, initial_standing, run_text}
use Rattle.lang_forms.specs.Sources.{Source}
use Rattle.play_core.specs.Texts.{run_output}
use Rattle.text_laws.specs.OtherOffsets.{placed_expr, placed_exprs, placed_pair, placed_head, placed_stmt, placed_stmts, placed_parameter, placed_function, placed_state, placed_snapshot, placed_call, placed_step, placed_script_form, placed_do, placed_source}
use Rattle.text_laws.proofs.PlacedFaults.{root-placed}
use Rattle.text_laws.proofs.PlacedScripts.{actors_from-placed}

module _ (g : ℕ → ℕ) where
  -- Expressions have the same values and reads.

  mutual
    eval-placed : (m : Map) (e : Expr) (env : Bindings) → eval m (placed_expr g e) env ≡ eval m e env
    eval-placed m (Literal at v) env = refl
    eval-placed m (Variable n) env = refl
    eval-placed m (Get at n source) env = refl
    eval-placed m (Apply at op es) env = λ i.
        if is_pick op
        then with (eval_nth-placed m es 0 env i) (λ condition. eval_nth-placed m es (operand_taken condition) env i)
        else mapped_reading (apply op) (eval_all-placed m es env i)

    eval_all-placed : (m : Map) (es : Exprs) (env : Bindings) → eval_all m (placed_exprs g es) env ≡ eval_all m es env
    eval_all-placed m none env = refl
    eval_all-placed m (more e es) env = λ i.
        with (eval-placed m e env i) (λ v. mapped_reading (λ vs. v ∷ vs) (eval_all-placed m es env i))

    eval_nth-placed : (m : Map) (es : Exprs) (n : ℕ) (env : Bindings)
        → eval_nth m (placed_exprs g es) n env ≡ eval_nth m es n env
    eval_nth-placed m none n env = refl
    eval_nth-placed m (more e es) zero env = eval-placed m e env
    eval_nth-placed m (more e es) (suc n) env = eval_nth-placed m es n env

  eval_named-placed : (m : Map) (ns : List Named) (env : Bindings)
      → eval_named m (map (placed_pair g) ns) env ≡ eval_named m ns env
  eval_named-placed m [] env = refl
  eval_named-placed m (n ∷ ns) env = λ i.
      with (eval-placed m n.value env i)
      (λ v. mapped_reading (λ bs. new_binding n.name.text v ∷ bs) (eval_named-placed m ns env i))

  -- Statements make the same forests.

  block-placed : (m : Map) (site : ℕ) (h : Head) (env : Bindings) (go ho : Bindings → GroupForest) → go ≡ ho
      → composed_block m site (placed_head g h) env go ≡ composed_block m site h env ho
  block-placed m site (Node n ns) env go ho same = λ i.
      forest_after (eval_named-placed m ns env i)
      (λ all. group site (trail.Node n.text (map attribute all)) (same i env))
  block-placed m site (Key e) env go ho same = λ i.
      forest_after (eval-placed m e env i) (λ v. group site (trail.Key v) (same i env))
  block-placed m site (For n e) env go ho same = λ i.
      forest_after (eval-placed m e env i)
      (λ v. turns (λ k. same i (env ++ new_binding n.text (value.Int k) ∷ [])) (items_of v))
  block-placed m site (Let n e) env go ho same = λ i.
      forest_after (eval-placed m e env i) (λ v. same i (env ++ new_binding n.text v ∷ []))
  block-placed m site (Remember n ks e) env go ho same = λ i.
      forest_after (eval_named-placed m ks env i) (λ bs. forest_after (eval-placed m e bs i) (λ v.
      Group site 0 (trail.Cell (map (λ k. k.value) bs) v) End (same i (env ++ new_binding n.text v ∷ []))))

  mutual
    run-placed : (m : Map) (fs : List Meaning) (s : Stmt) (env : Bindings) → run m fs (placed_stmt g s) env ≡ run m fs s env
    run-placed m fs (Call at site n function es) env = λ i.
        forest_after (eval_all-placed m es env i)
        (λ vs. group site (trail.Call function vs) (meaning_at fs function vs))
    run-placed m fs (If at site e a b) env = λ i.
        forest_after (eval-placed m e env i)
        (λ v. if is_true v then run_all-placed m fs a env i else run_all-placed m fs b env i)
    run-placed m fs (Block at site h body) env =
        block-placed m site h env (λ inner. run_all m fs (placed_stmts g body) inner) (λ inner. run_all m fs body inner)
        (λ i inner. run_all-placed m fs body inner i)

    run_all-placed : (m : Map) (fs : List Meaning) (ss : Stmts) (env : Bindings)
        → run_all m fs (placed_stmts g ss) env ≡ run_all m fs ss env
    run_all-placed m fs done env = refl
    run_all-placed m fs (next s ss) env = λ i.
        trail.joined_forest (run-placed m fs s env i) (run_all-placed m fs ss env i)

  bind-placed : (ps : List Parameter) (vs : List Value) → bind (map (placed_parameter g) ps) vs ≡ bind ps vs
  bind-placed [] vs = refl
  bind-placed (p ∷ ps) [] = refl
  bind-placed (p ∷ ps) (v ∷ vs) = ap (λ bs. new_binding p.name.text v ∷ bs) (bind-placed ps vs)

  meaning-placed : (m : Map) (fs : List Meaning) (f : Func) → meaning m fs (placed_function g f) ≡ meaning m fs f
  meaning-placed m fs f = λ i vs. one vs i
    where
      one : (vs : List Value) → run_all m fs (placed_stmts g f.body) (bind (map (placed_parameter g) f.parameters) vs)
          ≡ run_all m fs f.body (bind f.parameters vs)
      one vs = ap (run_all m fs (placed_stmts g f.body)) (bind-placed f.parameters vs)
          ∙ run_all-placed m fs f.body (bind f.parameters vs)

  meanings-placed : (m : Map) (fs : List Meaning) (functions : List Func)
      → meanings_from m fs (map (placed_function g) functions) ≡ meanings_from m fs functions
  meanings-placed m fs [] = refl
  meanings-placed m fs (f ∷ rest) =
      ap (λ x. meanings_from m (fs ++ x ∷ []) (map (placed_function g) rest)) (meaning-placed m fs f)
      ∙ meanings-placed m (fs ++ meaning m fs f ∷ []) rest

  frame-placed : (functions : List Func) (k : LastFrame) (m : Map)
      → frame (map (placed_function g) functions) k m ≡ frame functions k m
  frame-placed functions k m =
      ap (λ root. option_map (good_frame k m) (scratch (map (placed_function g) functions) root m))
      (root-placed g functions)
      ∙ ap (λ (t : GroupForest). option_map (good_frame k m) (if nat_le (how_many t) most_groups then Some t else None))
      (ap (λ fs. group 0 (trail.Call (root_number functions) []) (meaning_at fs (root_number functions) []))
      (meanings-placed m [] functions))

  -- Lines have the same names.

  module _ (states : List State) (actors : List (List ℕ)) where
    abbrev states_at : List State
    states_at = map (placed_state g) states

    abbrev old : Titles
    old = record { states = states; actors = actors }

    abbrev new : Titles
    new = record { states = states_at; actors = actors }

    state_name-placed : (x : ℕ) → state_name states_at x ≡ state_name states x
    state_name-placed x =
        ap (λ o. option_map_or (λ (s : State). s.name.text) o []) (slice_get-map (placed_state g) states x)
        ∙ by (slice_get states x)
      where
        by : (o : Option State) → option_map_or (λ (s : State). s.name.text) (option_map (placed_state g) o) []
            ≡ option_map_or (λ s. s.name.text) o []
        by None = refl
        by (Some s) = refl

    state_names-placed : (xs : List ℕ) → state_names states_at xs ≡ state_names states xs
    state_names-placed [] = refl
    state_names-placed (x ∷ xs) = λ i. 32 ∷ state_name-placed x i ++ state_names-placed xs i

    request_text-placed : (q : Request) → request_text states_at q ≡ request_text states q
    request_text-placed (request.Take parent kind) = refl
    request_text-placed (request.TakeFor watcher) = refl
    request_text-placed (request.Read n x) = λ i. codes "read " ++ snapshot n ++ 32 ∷ state_name-placed x i
    request_text-placed (request.Write n x v) = λ i.
        codes "write " ++ snapshot n ++ 32 ∷ state_name-placed x i ++ 32 ∷ value_text v
    request_text-placed (request.Apply n) = refl
    request_text-placed (request.Dispose n) = refl

    refusal_text-placed : (r : Refusal) → refusal_text new r ≡ refusal_text old r
    refusal_text-placed refusal.Spent = refl
    refusal_text-placed (refusal.Closed n) = refl
    refusal_text-placed refusal.Global = refl
    refusal_text-placed (refusal.NotYours owner) = refl
    refusal_text-placed refusal.UnknownObject = refl
    refusal_text-placed refusal.UnknownWatcher = refl
    refusal_text-placed refusal.ReadOnly = refl
    refusal_text-placed (refusal.WrongType kept) = refl
    refusal_text-placed refusal.BadPolicy = refl
    refusal_text-placed refusal.ParentClosed = refl
    refusal_text-placed (refusal.Conflict x) = λ i. codes "conflict " ++ state_name-placed x i
    refusal_text-placed refusal.NoMemory = refl

    reply_text-placed : (r : Reply) → reply_text new r ≡ reply_text old r
    reply_text-placed (reply.Taken n) = refl
    reply_text-placed (reply.TakenFor n changed) = λ i. snapshot n ++ codes " changed" ++ state_names-placed changed i
    reply_text-placed (reply.Got v) = refl
    reply_text-placed (reply.Wrote true) = refl
    reply_text-placed (reply.Wrote false) = refl
    reply_text-placed reply.Applied = refl
    reply_text-placed reply.Disposed = refl
    reply_text-placed (reply.Refused r) = refusal_text-placed r

    entry_line-placed : (e : Entry) → entry_line new e ≡ entry_line old e
    entry_line-placed e = λ i.
        line ((actor_name actors e.caller ++ codes ": " ++ request_text-placed e.request i ++ codes " = ")
        ++ reply_text-placed e.reply i)

    module _ (functions : List Func) (flags : Flags) where
      abbrev functions_at : List Func
      functions_at = map (placed_function g) functions

      abbrev old_style : LineStyle
      old_style = record { titles = old; flags = flags }

      abbrev new_style : LineStyle
      new_style = record { titles = new; flags = flags }

      -- The frame that a call ends, by its map.
      frame_at-placed : (s : Standing) (e : Entry) → frame_at functions_at s e ≡ frame_at functions s e
      frame_at-placed s e = frame-placed functions s.kept (snapshot_of s.world (name_in e.request)).view

      lines_at-placed : (s : Standing) (e : Entry) → lines_at new_style functions_at s e ≡ lines_at old_style functions s e
      lines_at-placed s e = λ i.
          entry_line-placed e i
          ∷ (if ends_frame s.frames e.request then frame_lines flags s.kept (frame_at-placed s e i) else [])

      next-placed : (s : Standing) (e : Entry) → next_standing functions_at s e ≡ next_standing functions s e
      next-placed s e = λ i.
          if ends_frame s.frames e.request
          then record {
            world = (call table s.world e.caller e.request).0;
            kept = kept_after s.kept (frame_at-placed s e i);
            frames = filter (λ n. not (n == name_in e.request)) s.frames;
          }
          else record {
            world = (call table s.world e.caller e.request).0;
            kept = s.kept;
            frames = s.frames ++ frame_taken e.request e.reply;
          }

      pub lines-placed : (s : Standing) (h : History) → lines new_style functions_at s h ≡ lines old_style functions s h
      lines-placed s [] = refl
      lines-placed s (e ∷ es) =
          ap (λ t. t ++ lines new_style functions_at (next_standing functions_at s e) es) (lines_at-placed s e)
          ∙ ap (λ k. lines_at old_style functions s e ++ lines new_style functions_at k es) (next-placed s e)
          ∙ ap (λ l. lines_at old_style functions s e ++ l) (lines-placed (next_standing functions s e) es)

  -- Scripts make the same calls.

  pub with_states-placed : (w : World BuiltIn) (ss : List State) → with_states w (map (placed_state g) ss) ≡ with_states w ss
  with_states-placed w [] = refl
  with_states-placed w (s ∷ rest) = with_states-placed (world_after_make w (type_of s.initial) s.policy s.initial) rest

  abbrev pub placed_part : Part → Part
  placed_part (Take name kind parent) = Take name kind (placed_snapshot g parent)
  placed_part (Read s x) = Read (placed_snapshot g s) x
  placed_part (Write s x v) = Write (placed_snapshot g s) x v
  placed_part (WriteSum s x d) = WriteSum (placed_snapshot g s) x d
  placed_part (ApplyPart s) = ApplyPart (placed_snapshot g s)
  placed_part (Dispose s) = Dispose (placed_snapshot g s)
  placed_part BeginFrame = BeginFrame
  placed_part EndFrame = EndFrame

  abbrev pub placed_actor_part : ActorPart → ActorPart
  placed_actor_part p = record { actor = p.actor; part = placed_part p.part }

  number-placed : (n : Notes) (s : SnapshotRef) → snapshot_number n.names (placed_snapshot g s) ≡ snapshot_number n.names s
  number-placed n Global = refl
  number-placed n (NamedSnapshot name) = refl

  pub request-placed : (n : Notes) (p : Part) → request_of n (placed_part p) ≡ request_of n p
  request-placed n (Take name kind parent) = ap (λ k. Some (request.Take k kind)) (number-placed n parent)
  request-placed n (Read s x) = ap (λ k. Some (request.Read k x)) (number-placed n s)
  request-placed n (Write s x v) = ap (λ k. Some (request.Write k x v)) (number-placed n s)
  request-placed n (WriteSum s x d) = ap (λ k. sum_request k x d n.value) (number-placed n s)
  request-placed n (ApplyPart s) = ap (λ k. Some (request.Apply k)) (number-placed n s)
  request-placed n (Dispose s) = ap (λ k. Some (request.Dispose k)) (number-placed n s)
  request-placed n BeginFrame = refl
  request-placed n EndFrame = refl

  pub notes-placed : (n : Notes) (p : Part) (r : Reply) → notes_after n (placed_part p) r ≡ notes_after n p r
  notes-placed n (Take name kind parent) r = refl
  notes-placed n (Read s x) r = refl
  notes-placed n (Write s x v) r = refl
  notes-placed n (WriteSum s x d) r = refl
  notes-placed n (ApplyPart s) r = refl
  notes-placed n (Dispose s) r = refl
  notes-placed n BeginFrame r = refl
  notes-placed n EndFrame r = refl

  sequential-placed : (w : World BuiltIn) (n : Notes) (ps : List ActorPart)
      → sequential w n (map placed_actor_part ps) ≡ sequential w n ps
  sequential-placed w n [] = refl
  sequential-placed w n (p ∷ ps) =
      ap after (request-placed n p.part) ∙ by (request_of n p.part) (λ v k. sequential-placed v k ps)
    where
      -- The calls after the request of this part, at the other offsets and at its own.
      after : Option Request → History
      after o = elim o [
        | None ↦ sequential w n (map placed_actor_part ps)
        | Some q ↦ entry w p.actor q ∷ sequential (call table w p.actor q).0
            (notes_after n (placed_part p.part) (call table w p.actor q).1) (map placed_actor_part ps)
      ]

      own_after : Option Request → History
      own_after o = elim o [
        | None ↦ sequential w n ps
        | Some q ↦ entry w p.actor q ∷ sequential (call table w p.actor q).0
            (notes_after n p.part (call table w p.actor q).1) ps
      ]

      by : (o : Option Request)
          → ((v : World BuiltIn) (k : Notes) → sequential v k (map placed_actor_part ps) ≡ sequential v k ps)
          → after o ≡ own_after o
      by None go = go w n
      by (Some q) go =
          ap (λ k. entry w p.actor q ∷ sequential (call table w p.actor q).0 k (map placed_actor_part ps))
          (notes-placed n p.part (call table w p.actor q).1)
          ∙ ap (λ l. entry w p.actor q ∷ l)
          (go (call table w p.actor q).0 (notes_after n p.part (call table w p.actor q).1))

  call_parts-placed : (c : CallForm) → call_parts (placed_call g c) ≡ map placed_part (call_parts c)
  call_parts-placed (form.Take at name kind parent) = refl
  call_parts-placed (form.Read at s state x) = refl
  call_parts-placed (form.Write at s state x v) = refl
  call_parts-placed (form.Add at s state x d) = refl
  call_parts-placed (form.Apply at s) = refl
  call_parts-placed (form.Dispose at s) = refl

  both-placed : (xs ys xs' ys' : List Part) → xs' ≡ map placed_part xs → ys' ≡ map placed_part ys
      → xs' ++ ys' ≡ map placed_part (xs ++ ys)
  both-placed xs ys xs' ys' e f =
      ap (λ l. l ++ ys') e ∙ ap (λ l. map placed_part xs ++ l) f ∙ sym (map-append placed_part xs ys)

  calls_parts-placed : (cs : List CallForm) → calls_parts (map (placed_call g) cs) ≡ map placed_part (calls_parts cs)
  calls_parts-placed [] = refl
  calls_parts-placed (c ∷ cs) =
      both-placed (call_parts c) (calls_parts cs) _ _ (call_parts-placed c) (calls_parts-placed cs)

  step_parts-placed : (s : StepForm) → step_parts (placed_step g s) ≡ map placed_part (step_parts s)
  step_parts-placed (step.Call c) = call_parts-placed c
  step_parts-placed (step.Frame at) = refl
  step_parts-placed (step.FrameDuring at during) =
      ap (λ l. BeginFrame ∷ l) (both-placed (calls_parts during) (EndFrame ∷ []) _ _ (calls_parts-placed during) refl)

  steps_parts-placed : (ss : List StepForm) → steps_parts (map (placed_step g) ss) ≡ map placed_part (steps_parts ss)
  steps_parts-placed [] = refl
  steps_parts-placed (s ∷ ss) =
      both-placed (step_parts s) (steps_parts ss) _ _ (step_parts-placed s) (steps_parts-placed ss)

  repeated-placed : (n : ℕ) (ss : List StepForm)
      → repeated_steps n (map (placed_step g) ss) ≡ map (placed_step g) (repeated_steps n ss)
  repeated-placed zero ss = refl
  repeated-placed (suc n) ss =
      ap (λ l. map (placed_step g) ss ++ l) (repeated-placed n ss)
      ∙ sym (map-append (placed_step g) ss (repeated_steps n ss))

  written_out-placed : (fs : List ScriptForm)
      → written_out (map (placed_script_form g) fs) ≡ map (placed_step g) (written_out fs)
  written_out-placed [] = refl
  written_out-placed (Once s ∷ fs) = ap (λ l. placed_step g s ∷ l) (written_out-placed fs)
  written_out-placed (Repeat at times steps ∷ fs) =
      ap (λ l. l ++ written_out (map (placed_script_form g) fs)) (repeated-placed (times_of times) steps)
      ∙ ap (λ l. map (placed_step g) (repeated_steps (times_of times) steps) ++ l) (written_out-placed fs)
      ∙ sym (map-append (placed_step g) (repeated_steps (times_of times) steps) (written_out fs))

  of_actor-placed : (a : ℕ) (ps : List Part) → map (of_actor a) (map placed_part ps) ≡ map placed_actor_part (map (of_actor a) ps)
  of_actor-placed a [] = refl
  of_actor-placed a (p ∷ ps) = ap (λ l. of_actor a (placed_part p) ∷ l) (of_actor-placed a ps)

  pub script_parts-placed : (actors : List (List ℕ)) (ds : List DoForm)
      → script_parts actors (map (placed_do g) ds) ≡ map placed_actor_part (script_parts actors ds)
  script_parts-placed actors [] = refl
  script_parts-placed actors (d ∷ ds) =
      let a = index_of d.actor.text actors in
      ap (λ ss. map (of_actor a) (steps_parts ss) ++ script_parts actors (map (placed_do g) ds)) (written_out-placed d.steps)
      ∙ ap (λ ps. map (of_actor a) ps ++ script_parts actors (map (placed_do g) ds))
      (steps_parts-placed (written_out d.steps))
      ∙ ap (λ l. l ++ script_parts actors (map (placed_do g) ds)) (of_actor-placed a (steps_parts (written_out d.steps)))
      ∙ ap (λ l. map placed_actor_part (map (of_actor a) (steps_parts (written_out d.steps))) ++ l)
      (script_parts-placed actors ds)
      ∙ sym (map-append placed_actor_part (map (of_actor a) (steps_parts (written_out d.steps))) (script_parts actors ds))

  -- All that a run writes.

  abbrev written : List State → List (List ℕ) → List Func → Flags → World BuiltIn → List ActorPart → List ℕ
  written states actors functions flags w ps = flat_map (λ l. l)
      (lines (record { titles = record { states = states; actors = actors }; flags = flags }) functions
      (record { world = w; kept = no_last_frame; frames = [] }) (sequential w no_notes ps))

  pub run-output-placed : (flags : Flags) (t : Source) → run_output flags (placed_source g t) ≡ run_output flags t
  unfolding run_output run_text
  run-output-placed flags t =
      let states = t.program.states in
      let states' = map (placed_state g) t.program.states in
      let functions = t.program.functions in
      let functions' = map (placed_function g) t.program.functions in
      let forms' = map (placed_do g) t.script in
      let actors = actors_of t.script in
      ap (λ a. written states' a functions' flags (opening_world states') (script_parts a forms'))
      (actors_from-placed g [] t.script)
      ∙ ap (λ w. written states' actors functions' flags w (script_parts actors forms'))
      (ap world_after_watch (with_states-placed (start 0) states))
      ∙ ap (written states' actors functions' flags (opening_world states)) (script_parts-placed actors t.script)
      ∙ ap (λ h. flat_map (λ l. l) (lines (record {
        titles = record { states = states'; actors = actors };
        flags = flags;
      }) functions' (initial_standing states) h))
      (sequential-placed (opening_world states) no_notes (script_parts actors t.script))
      ∙ ap (flat_map (λ l. l)) (lines-placed states actors functions flags (initial_standing states)
      (sequential (opening_world states) no_notes (script_parts actors t.script)))
