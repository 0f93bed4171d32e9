-- A script without faults has none at other offsets.
use Rattle.std.proofs.Common.{◌≡◌, ℕ, ◌+◌, ◌-◌, ◌*◌, nat_lt, not, Bool, true, false, List, [], ◌∷◌, ◌++◌, map, length, slice_get, refl, sym, ap, ◌∙◌, if◌then◌else◌, Option, Some, None}
use Rattle.std.proofs.lemmas.List.{length-map, map-append}
use Rattle.std.proofs.lemmas.Option.{slice_get-map}
use Rattle.std.specs.Option.{option_map}
use Rattle.lang_ast.specs.declared.program.State.{State}
use Rattle.lang_ast.specs.declared.script.SnapshotRef.{SnapshotRef}
use Rattle.lang_ast.specs.declared.script.SnapshotRef.TheVariants.{Global, Named}
use Rattle.lang_ast.specs.declared.script.CallForm.{CallForm}
use Rattle.lang_ast.specs.declared.script.CallForm.TheVariants as form
use Rattle.lang_ast.specs.declared.script.StepForm.{StepForm}
use Rattle.lang_ast.specs.declared.script.StepForm.TheVariants as step
use Rattle.lang_ast.specs.declared.script.ScriptForm.{ScriptForm}
use Rattle.lang_ast.specs.declared.script.ScriptForm.TheVariants.{Once, Repeat}
use Rattle.lang_ast.specs.declared.script.DoForm.{DoForm}
use Rattle.lang_ast.proofs.Limits.{none_in}
use Rattle.lang_script.specs.SnapshotNames.{latest}
use Rattle.lang_script.specs.Scripts.{index_of, is_among, with_actor, actors_from, actors_of, times_of, step_count, steps_count, forms_count}
use Rattle.lang_script.specs.ScriptFaults.{fault_if, most_steps, long_forms, further_actors, may_repeat, wrong_repeats, forms_wrong_repeats, TextStep, CallStep, FrameStep, text_calls, text_step, text_steps, text_form, text_forms, text_script, FirstUses, no_uses, uses_after, unknown_name, foreign_name, snapshot_faults, state_faults, is_int, add_faults, call_faults, step_faults, steps_faults, script_faults}
use Rattle.lang_script.specs.declared.faults.ScriptStop.{ScriptStop}
use Rattle.lang_script.specs.declared.faults.ScriptStop.TheVariants as stop
use Rattle.text_laws.specs.OtherOffsets.{placed_state, placed_snapshot, placed_call, placed_step, placed_script_form, placed_do}
use Rattle.text_laws.proofs.PlacedForests.{join_none}

none_if : (b c : Bool) (s t : ScriptStop) → c ≡ b → fault_if b s ≡ [] → fault_if c t ≡ []
none_if true c s t e h = absurd cc
none_if false c s t e h = ap (λ x. fault_if x t) e

either_none : {A : Type 0} (b : Bool) (xs ys : List A) → (xs ≡ [] → ys ≡ []) → (if b then xs else []) ≡ []
    → (if b then ys else []) ≡ []
either_none true xs ys go h = go h
either_none false xs ys go h = refl

unknown-fine : (at bt : ℕ) (o : Option ℕ) → unknown_name at o ≡ [] → unknown_name bt o ≡ []
unknown-fine at bt None h = absurd cc
unknown-fine at bt (Some k) h = refl

foreign-fine : (at bt actor : ℕ) (o : Option ℕ) → foreign_name at actor o ≡ [] → foreign_name bt actor o ≡ []
foreign-fine at bt actor None h = refl
foreign-fine at bt actor (Some k) h = none_if _ _ (stop.Actor at) (stop.Actor bt) refl h

module _ (g : ℕ → ℕ) where
  abbrev scripts_at : List DoForm → List DoForm
  scripts_at ds = map (placed_do g) ds

  -- Counts and actors.

  step_count-placed : (s : StepForm) → step_count (placed_step g s) ≡ step_count s
  step_count-placed (step.Call c) = refl
  step_count-placed (step.Frame at) = refl
  step_count-placed (step.FrameDuring at during) = ap (λ n. 1 + n) (length-map during (placed_call g))

  steps_count-placed : (ss : List StepForm) → steps_count (map (placed_step g) ss) ≡ steps_count ss
  steps_count-placed [] = refl
  steps_count-placed (s ∷ ss) =
      ap (λ n. n + steps_count (map (placed_step g) ss)) (step_count-placed s)
      ∙ ap (λ n. step_count s + n) (steps_count-placed ss)

  forms_count-placed : (fs : List ScriptForm) → forms_count (map (placed_script_form g) fs) ≡ forms_count fs
  forms_count-placed [] = refl
  forms_count-placed (Once s ∷ fs) =
      ap (λ n. n + forms_count (map (placed_script_form g) fs)) (step_count-placed s)
      ∙ ap (λ n. step_count s + n) (forms_count-placed fs)
  forms_count-placed (Repeat at times steps ∷ fs) =
      ap (λ n. times_of times * n + forms_count (map (placed_script_form g) fs)) (steps_count-placed steps)
      ∙ ap (λ n. times_of times * steps_count steps + n) (forms_count-placed fs)

  long-fine : (left : ℕ) (ds : List DoForm) → long_forms left ds ≡ [] → long_forms left (scripts_at ds) ≡ []
  long-fine left [] h = refl
  long-fine left (d ∷ ds) h =
      let same = forms_count-placed d.steps in
      let both = none_in (fault_if (nat_lt left (forms_count d.steps)) (stop.Limit d.at))
      (long_forms (left - forms_count d.steps) ds) h in
      join_none _ _ (none_if (nat_lt left (forms_count d.steps))
      (nat_lt left (forms_count (map (placed_script_form g) d.steps))) (stop.Limit d.at) (stop.Limit (g d.at))
      (ap (nat_lt left) same) both.0)
      (ap (λ n. long_forms (left - n) (scripts_at ds)) same ∙ long-fine (left - forms_count d.steps) ds both.1)

  pub actors_from-placed : (actors : List (List ℕ)) (ds : List DoForm)
      → actors_from actors (scripts_at ds) ≡ actors_from actors ds
  actors_from-placed actors [] = refl
  actors_from-placed actors (d ∷ ds) = actors_from-placed (with_actor actors d.actor.text) ds

  further-fine : (actors : List (List ℕ)) (ds : List DoForm) → further_actors actors ds ≡ []
      → further_actors actors (scripts_at ds) ≡ []
  further-fine actors [] h = refl
  further-fine actors (d ∷ ds) h =
      let both = none_in (fault_if (not (is_among d.actor.text actors)) (stop.Limit d.at)) (further_actors actors ds) h in
      join_none _ _ (none_if (not (is_among d.actor.text actors)) (not (is_among d.actor.text actors))
      (stop.Limit d.at) (stop.Limit (g d.at)) refl both.0) (further-fine actors ds both.1)

  repeats-fine : (fs : List ScriptForm) → wrong_repeats fs ≡ [] → wrong_repeats (map (placed_script_form g) fs) ≡ []
  repeats-fine [] h = refl
  repeats-fine (Once s ∷ fs) h = repeats-fine fs h
  repeats-fine (Repeat at times steps ∷ fs) h =
      let both = none_in (fault_if (not (may_repeat times)) (stop.Limit at)) (wrong_repeats fs) h in
      join_none _ _ (none_if (not (may_repeat times)) (not (may_repeat times)) (stop.Limit at) (stop.Limit (g at)) refl
      both.0) (repeats-fine fs both.1)

  all_repeats-fine : (ds : List DoForm) → forms_wrong_repeats ds ≡ [] → forms_wrong_repeats (scripts_at ds) ≡ []
  all_repeats-fine [] h = refl
  all_repeats-fine (d ∷ ds) h =
      let both = none_in (wrong_repeats d.steps) (forms_wrong_repeats ds) h in
      join_none _ _ (repeats-fine d.steps both.0) (all_repeats-fine ds both.1)

  -- The steps of the text.

  abbrev text_at : TextStep → TextStep
  text_at (CallStep actor c) = CallStep actor (placed_call g c)
  text_at (FrameStep actor at) = FrameStep actor (g at)

  text_calls-placed : (a : ℕ) (cs : List CallForm) → text_calls a (map (placed_call g) cs) ≡ map text_at (text_calls a cs)
  text_calls-placed a [] = refl
  text_calls-placed a (c ∷ cs) = ap (λ l. CallStep a (placed_call g c) ∷ l) (text_calls-placed a cs)

  text_step-placed : (a : ℕ) (s : StepForm) → text_step a (placed_step g s) ≡ map text_at (text_step a s)
  text_step-placed a (step.Call c) = refl
  text_step-placed a (step.Frame at) = refl
  text_step-placed a (step.FrameDuring at during) = ap (λ l. FrameStep a (g at) ∷ l) (text_calls-placed a during)

  both-placed : (xs ys xs' ys' : List TextStep) → xs' ≡ map text_at xs → ys' ≡ map text_at ys
      → xs' ++ ys' ≡ map text_at (xs ++ ys)
  both-placed xs ys xs' ys' e f = ap (λ l. l ++ ys') e ∙ ap (λ l. map text_at xs ++ l) f ∙ sym (map-append text_at xs ys)

  text_steps-placed : (a : ℕ) (ss : List StepForm) → text_steps a (map (placed_step g) ss) ≡ map text_at (text_steps a ss)
  text_steps-placed a [] = refl
  text_steps-placed a (s ∷ ss) = both-placed (text_step a s) (text_steps a ss) _ _ (text_step-placed a s)
      (text_steps-placed a ss)

  text_form-placed : (a : ℕ) (f : ScriptForm) → text_form a (placed_script_form g f) ≡ map text_at (text_form a f)
  text_form-placed a (Once s) = text_step-placed a s
  text_form-placed a (Repeat at times steps) = text_steps-placed a steps

  text_forms-placed : (a : ℕ) (fs : List ScriptForm)
      → text_forms a (map (placed_script_form g) fs) ≡ map text_at (text_forms a fs)
  text_forms-placed a [] = refl
  text_forms-placed a (f ∷ fs) = both-placed (text_form a f) (text_forms a fs) _ _ (text_form-placed a f)
      (text_forms-placed a fs)

  text_script-placed : (actors : List (List ℕ)) (ds : List DoForm)
      → text_script actors (scripts_at ds) ≡ map text_at (text_script actors ds)
  text_script-placed actors [] = refl
  text_script-placed actors (d ∷ ds) =
      both-placed (text_forms (index_of d.actor.text actors) d.steps) (text_script actors ds) _ _
      (text_forms-placed (index_of d.actor.text actors) d.steps) (text_script-placed actors ds)

  -- The faults of steps.

  uses-placed : (u : FirstUses) (s : TextStep) → uses_after u (text_at s) ≡ uses_after u s
  uses-placed u (CallStep a (form.Take at name kind parent)) = refl
  uses-placed u (CallStep a (form.Read at s state x)) = refl
  uses-placed u (CallStep a (form.Write at s state x v)) = refl
  uses-placed u (CallStep a (form.Add at s state x d)) = refl
  uses-placed u (CallStep a (form.Apply at s)) = refl
  uses-placed u (CallStep a (form.Dispose at s)) = refl
  uses-placed u (FrameStep a at) = refl

  module _ (threads : Bool) (states : List State) where
    abbrev states_at : List State
    states_at = map (placed_state g) states

    snapshot-fine : (u : FirstUses) (a at bt : ℕ) (s : SnapshotRef) → snapshot_faults threads u a at s ≡ []
        → snapshot_faults threads u a bt (placed_snapshot g s) ≡ []
    snapshot-fine u a at bt Global h = refl
    snapshot-fine u a at bt (Named name) h =
        let both = none_in (unknown_name at (latest u.takers name.text)) _ h in
        join_none _ _ (unknown-fine at bt (latest u.takers name.text) both.0)
        (either_none threads (foreign_name at a (latest u.takers name.text))
        (foreign_name bt a (latest u.takers name.text)) (foreign-fine at bt a (latest u.takers name.text)) both.1)

    state-fine : (at bt x : ℕ) → state_faults states at x ≡ [] → state_faults states_at bt x ≡ []
    state-fine at bt x h =
        none_if (not (nat_lt x (length states))) (not (nat_lt x (length states_at))) (stop.Unknown at) (stop.Unknown bt)
        (ap (λ n. not (nat_lt x n)) (length-map states (placed_state g))) h

    add-fine : (at bt : ℕ) (o : Option State) → add_faults at o ≡ [] → add_faults bt (option_map (placed_state g) o) ≡ []
    add-fine at bt None h = refl
    add-fine at bt (Some s) h =
        none_if (not (is_int s.ty)) (not (is_int s.ty)) (stop.Type at) (stop.Type bt) refl h

    call-fine : (u : FirstUses) (a : ℕ) (c : CallForm) → call_faults threads states u a c ≡ []
        → call_faults threads states_at u a (placed_call g c) ≡ []
    call-fine u a (form.Take at name kind parent) h =
        let both = none_in (snapshot_faults threads u a at parent) _ h in
        join_none _ _ (snapshot-fine u a at (g at) parent both.0)
        (either_none threads (foreign_name at a (latest u.takers name.text))
        (foreign_name (g at) a (latest u.takers name.text)) (foreign-fine at (g at) a (latest u.takers name.text)) both.1)
    call-fine u a (form.Read at s state x) h =
        let both = none_in (snapshot_faults threads u a at s) _ h in
        join_none _ _ (snapshot-fine u a at (g at) s both.0) (state-fine at (g at) x both.1)
    call-fine u a (form.Write at s state x v) h =
        let both = none_in (snapshot_faults threads u a at s) _ h in
        join_none _ _ (snapshot-fine u a at (g at) s both.0) (state-fine at (g at) x both.1)
    call-fine u a (form.Add at s state x d) h =
        let one = none_in (snapshot_faults threads u a at s) _ h in
        let two = none_in (state_faults states at x) _ one.1 in
        join_none _ _ (snapshot-fine u a at (g at) s one.0)
        (join_none _ _ (state-fine at (g at) x two.0)
        (ap (add_faults (g at)) (slice_get-map (placed_state g) states x)
        ∙ add-fine at (g at) (slice_get states x) two.1))
    call-fine u a (form.Apply at s) h = snapshot-fine u a at (g at) s h
    call-fine u a (form.Dispose at s) h = snapshot-fine u a at (g at) s h

    step-fine : (u : FirstUses) (s : TextStep) → step_faults threads states u s ≡ []
        → step_faults threads states_at u (text_at s) ≡ []
    step-fine u (CallStep a c) h = call-fine u a c h
    step-fine u (FrameStep a at) h =
        either_none threads (foreign_name at a u.framer) (foreign_name (g at) a u.framer)
        (foreign-fine at (g at) a u.framer) h

    steps-fine : (u : FirstUses) (ts : List TextStep) → steps_faults threads states u ts ≡ []
        → steps_faults threads states_at u (map text_at ts) ≡ []
    steps-fine u [] h = refl
    steps-fine u (s ∷ ts) h =
        let both = none_in (step_faults threads states u s) (steps_faults threads states (uses_after u s) ts) h in
        join_none _ _ (step-fine u s both.0)
        (ap (λ v. steps_faults threads states_at v (map text_at ts)) (uses-placed u s)
        ∙ steps-fine (uses_after u s) ts both.1)

    pub script-fine : (ds : List DoForm) → script_faults threads states None ds ≡ []
        → script_faults threads states_at None (scripts_at ds) ≡ []
    script-fine ds h =
        let one = none_in (long_forms most_steps ds) _ h in
        let two = none_in (further_actors (actors_of ds) ds) _ one.1 in
        let three = none_in (forms_wrong_repeats ds) _ two.1 in
        let actors = actors_from-placed [] ds in
        join_none _ _ (long-fine most_steps ds one.0)
        (join_none _ _ (ap (λ l. further_actors l (scripts_at ds)) actors ∙ further-fine (actors_of ds) ds two.0)
        (join_none _ _ (all_repeats-fine ds three.0)
        (ap (λ l. steps_faults threads states_at no_uses (text_script l (scripts_at ds))) actors
        ∙ ap (steps_faults threads states_at no_uses) (text_script-placed (actors_of ds) ds)
        ∙ steps-fine no_uses (text_script (actors_of ds) ds) three.1)))
