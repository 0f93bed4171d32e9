-- In a script without faults one actor at most has frames, and its parts begin and end them in turn.
use Rattle.std.proofs.Common.{◌≡◌, ◌≢◌, ℕ, zero, suc, ◌==◌, Bool, true, false, not, List, [], ◌∷◌, ◌++◌, length, map, arith, refl, sym, ap, ◌∙◌, subst, cond, Option, Some, None}
use Rattle.std.proofs.lemmas.Bool.{eqb-true}
use Rattle.std.proofs.lemmas.List.{length-map}
use Rattle.rt_values.specs.Values.{type_of}
use Rattle.snap_policy.specs.declared.policy.BuiltIn.{BuiltIn}
use Rattle.snap_api.specs.World.{World, start, world_after_make, with_object}
use Rattle.lang_ast.specs.declared.program.State.{State}
use Rattle.lang_ast.specs.declared.script.CallForm.{CallForm}
use Rattle.lang_ast.specs.declared.script.CallForm.TheVariants as form
use Rattle.lang_ast.specs.declared.script.StepForm.{StepForm}
use Rattle.lang_ast.specs.declared.script.StepForm.TheVariants as step
use Rattle.lang_ast.specs.declared.script.ScriptForm.{ScriptForm}
use Rattle.lang_ast.specs.declared.script.ScriptForm.TheVariants.{Once, Repeat}
use Rattle.lang_ast.specs.declared.script.DoForm.{DoForm}
use Rattle.lang_script.specs.Scripts.{actors_of, index_of, written_out, times_of, repeated_steps}
use Rattle.lang_script.specs.ScriptFaults.{TextStep, CallStep, FrameStep, text_step, text_steps, text_forms, text_script, FirstUses, no_uses, with_framer, uses_after_call, uses_after, fault_if, foreign_name, step_faults, steps_faults, oversized_faults, long_forms, most_steps, further_actors, forms_wrong_repeats, script_faults}
use Rattle.lang_script.specs.declared.faults.ScriptStop.{ScriptStop}
use Rattle.lang_script.specs.declared.faults.ScriptStop.TheVariants as stop
use Rattle.lang_script.specs.StepCalls.{Part, EndFrame, ActorPart, of_actor, call_parts, calls_parts, step_parts, steps_parts, with_states, opening_world, script_parts}
use Rattle.play_laws.specs.Woven.{actor_parts, initial_actor}
use Rattle.play_laws.specs.Laws.{FramesAreInTurn}
use Rattle.play_laws.proofs.Callers.{parts_are_of_script}
use Rattle.play_laws.specs.PartTurns.{Alternates}
use Rattle.play_laws.proofs.Turns.{HaveNoFrame, turns}
use Rattle.lang_ast.proofs.Limits.{none_in}

-- Parts of steps begin and end frames in turn.
module _ (a : ℕ) (rest : List ActorPart) where
  -- The parts of an actor, and then others.
  abbrev then : List Part → List ActorPart
  then ps = map (of_actor a) ps ++ rest

  call_turns : (c : CallForm) (ps : List Part) (b : Bool) → Alternates (then ps) b
      → Alternates (then (call_parts c ++ ps)) b
  call_turns (form.Take at name kind parent) ps b h = h
  call_turns (form.Read at s state x) ps b h = h
  call_turns (form.Write at s state x v) ps b h = h
  call_turns (form.Add at s state x d) ps b h = h
  call_turns (form.Apply at s) ps b h = h
  call_turns (form.Dispose at s) ps b h = h

  -- The steps during a frame, and its end.
  during_turns : (cs : List CallForm) (ps : List Part) → Alternates (then ps) false
      → Alternates (then ((calls_parts cs ++ EndFrame ∷ []) ++ ps)) true
  during_turns [] ps h = h
  during_turns (form.Take at name kind parent ∷ more) ps h = during_turns more ps h
  during_turns (form.Read at s state x ∷ more) ps h = during_turns more ps h
  during_turns (form.Write at s state x v ∷ more) ps h = during_turns more ps h
  during_turns (form.Add at s state x d ∷ more) ps h = during_turns more ps h
  during_turns (form.Apply at s ∷ more) ps h = during_turns more ps h
  during_turns (form.Dispose at s ∷ more) ps h = during_turns more ps h

  step_turns : (s : StepForm) (ps : List Part) → Alternates (then ps) false
      → Alternates (then (step_parts s ++ ps)) false
  step_turns (step.Call c) ps h = call_turns c ps false h
  step_turns (step.Frame at) ps h = (refl, h)
  step_turns (step.FrameDuring at during) ps h = (refl, during_turns during ps h)

  steps_turns : (ss : List StepForm) → Alternates rest false → Alternates (then (steps_parts ss)) false
  steps_turns [] h = h
  steps_turns (s ∷ more) h = step_turns s (steps_parts more) (steps_turns more h)

pub parts_turns : (a : ℕ) (actors : List (List ℕ)) (forms : List DoForm) → Alternates (actor_parts a actors forms) false
parts_turns a actors [] = tt
parts_turns a actors (d ∷ more) = by (index_of d.actor.text actors == a) (parts_turns a actors more) where
  by : (b : Bool) → Alternates (actor_parts a actors more) false
      → Alternates (cond b (map (of_actor a) (steps_parts (written_out d.steps)) ++ actor_parts a actors more)
      (actor_parts a actors more)) false
  by true rest = steps_turns a (actor_parts a actors more) (written_out d.steps) rest
  by false rest = rest

-- Steps without a frame.
abbrev NoFrame : StepForm → Type 0
NoFrame (step.Call c) = Unit {0}
NoFrame _ = ⊥

abbrev NoFrames : List StepForm → Type 0
NoFrames [] = Unit {0}
NoFrames (s ∷ more) = NoFrame s × NoFrames more

module _ (a : ℕ) (rest : List ActorPart) (none : HaveNoFrame rest) where
  call_none : (c : CallForm) (ps : List Part) → HaveNoFrame (then a rest ps)
      → HaveNoFrame (then a rest (call_parts c ++ ps))
  call_none (form.Take at name kind parent) ps h = (tt, h)
  call_none (form.Read at s state x) ps h = (tt, h)
  call_none (form.Write at s state x v) ps h = (tt, h)
  call_none (form.Add at s state x d) ps h = (tt, (tt, h))
  call_none (form.Apply at s) ps h = (tt, h)
  call_none (form.Dispose at s) ps h = (tt, h)

  steps_none : (ss : List StepForm) → NoFrames ss → HaveNoFrame (then a rest (steps_parts ss))
  steps_none [] h = none
  steps_none (step.Call c ∷ more) h = call_none c (steps_parts more) (steps_none more h.1)
  steps_none (step.Frame at ∷ more) h = absurd h.0
  steps_none (step.FrameDuring at during ∷ more) h = absurd h.0

none_append : (xs ys : List StepForm) → NoFrames xs → NoFrames ys → NoFrames (xs ++ ys)
none_append [] ys h k = k
none_append (x ∷ xs) ys h k = (h.0, none_append xs ys h.1 k)

none_repeated : (times : ℕ) (steps : List StepForm) → NoFrames steps → NoFrames (repeated_steps times steps)
none_repeated zero steps h = tt
none_repeated (suc times) steps h = none_append steps (repeated_steps times steps) h (none_repeated times steps h)

-- Each frame of the text is of this actor.
abbrev OnlyFrames : ℕ → List TextStep → Type 0
OnlyFrames f [] = Unit {0}
OnlyFrames f (CallStep actor c ∷ more) = OnlyFrames f more
OnlyFrames f (FrameStep actor at ∷ more) = (actor ≡ f) × OnlyFrames f more

only_append : (f : ℕ) (xs ys : List TextStep) → OnlyFrames f (xs ++ ys) → OnlyFrames f xs × OnlyFrames f ys
only_append f [] ys h = (tt, h)
only_append f (CallStep actor c ∷ xs) ys h = only_append f xs ys h
only_append f (FrameStep actor at ∷ xs) ys h = let more = only_append f xs ys h.1 in ((h.0, more.0), more.1)

module _ (f a : ℕ) (other : a ≢ f) where
  step_none_of : (s : StepForm) → OnlyFrames f (text_step a s) → NoFrame s
  step_none_of (step.Call c) h = tt
  step_none_of (step.Frame at) h = other h.0
  step_none_of (step.FrameDuring at during) h = other h.0

  steps_none_of : (ss : List StepForm) → OnlyFrames f (text_steps a ss) → NoFrames ss
  steps_none_of [] h = tt
  steps_none_of (s ∷ more) h = let parts = only_append f (text_step a s) (text_steps a more) h in
      (step_none_of s parts.0, steps_none_of more parts.1)

  written_none : (fs : List ScriptForm) → OnlyFrames f (text_forms a fs) → NoFrames (written_out fs)
  written_none [] h = tt
  written_none (Once s ∷ more) h = let parts = only_append f (text_step a s) (text_forms a more) h in
      (step_none_of s parts.0, written_none more parts.1)
  written_none (Repeat at times steps ∷ more) h =
      let parts = only_append f (text_steps a steps) (text_forms a more) h in
      none_append (repeated_steps (times_of times) steps) (written_out more)
      (none_repeated (times_of times) steps (steps_none_of steps parts.0)) (written_none more parts.1)

  pub parts_none : (actors : List (List ℕ)) (forms : List DoForm) → OnlyFrames f (text_script actors forms)
      → HaveNoFrame (actor_parts a actors forms)
  parts_none actors [] h = tt
  parts_none actors (d ∷ more) h = by (index_of d.actor.text actors == a) refl
      (parts_none actors more (only_append f (text_forms (index_of d.actor.text actors) d.steps)
      (text_script actors more) h).1) where
        by : (b : Bool) → (index_of d.actor.text actors == a) ≡ b → HaveNoFrame (actor_parts a actors more) →
            HaveNoFrame (cond b (map (of_actor a) (steps_parts (written_out d.steps)) ++ actor_parts a actors more)
            (actor_parts a actors more))
        by true e rest =
            let mine = subst (λ (i : ℕ). OnlyFrames f (text_forms i d.steps)) (eqb-true (index_of d.actor.text actors) a e)
            (only_append f (text_forms (index_of d.actor.text actors) d.steps) (text_script actors more) h).0 in
            steps_none a (actor_parts a actors more) rest (written_out d.steps) (written_none d.steps mine)
        by false e rest = rest

module _ (states : List State) where
  framer_after : (u : FirstUses) (actor : ℕ) (c : CallForm) → (uses_after_call u actor c).framer ≡ u.framer
  framer_after u actor (form.Take at name kind parent) = refl
  framer_after u actor (form.Read at s state x) = refl
  framer_after u actor (form.Write at s state x v) = refl
  framer_after u actor (form.Add at s state x d) = refl
  framer_after u actor (form.Apply at s) = refl
  framer_after u actor (form.Dispose at s) = refl

  no_fault : (b : Bool) (s : ScriptStop) → fault_if b s ≡ [] → b ≡ false
  no_fault true s h = absurd cc
  no_fault false s h = refl

  not_false : (b : Bool) → not b ≡ false → b ≡ true
  not_false true h = refl
  not_false false h = absurd cc

  same_framer : (actor at f : ℕ) (o : Option ℕ) → o ≡ Some f → foreign_name at actor o ≡ [] → actor ≡ f
  same_framer actor at f None e h = absurd cc
  same_framer actor at f (Some first) e h =
      let same : first ≡ f = cc in
      sym (eqb-true first actor (not_false (first == actor) (no_fault (not (first == actor)) (stop.Actor at) h))) ∙ same

  known_framer : (f : ℕ) (ts : List TextStep) (u : FirstUses) → u.framer ≡ Some f → steps_faults true states u ts ≡ []
      → OnlyFrames f ts
  known_framer f [] u e h = tt
  known_framer f (CallStep actor c ∷ more) u e h =
      let parts = none_in (step_faults true states u (CallStep actor c))
      (steps_faults true states (uses_after u (CallStep actor c)) more) h in
      known_framer f more (uses_after u (CallStep actor c)) (framer_after u actor c ∙ e) parts.1
  known_framer f (FrameStep actor at ∷ more) u e h =
      let parts = none_in (step_faults true states u (FrameStep actor at))
      (steps_faults true states (uses_after u (FrameStep actor at)) more) h in (
        same_framer actor at f u.framer e parts.0,
        known_framer f more (uses_after u (FrameStep actor at)) (kept u.framer e) parts.1,
      ) where
        kept : (o : Option ℕ) → o ≡ Some f → with_framer o actor ≡ Some f
        kept None e = absurd cc
        kept (Some first) e = e

  first_framer : (ts : List TextStep) (u : FirstUses) → u.framer ≡ None → steps_faults true states u ts ≡ []
      → (f : ℕ) × OnlyFrames f ts
  first_framer [] u e h = (0, tt)
  first_framer (CallStep actor c ∷ more) u e h =
      let parts = none_in (step_faults true states u (CallStep actor c))
      (steps_faults true states (uses_after u (CallStep actor c)) more) h in
      first_framer more (uses_after u (CallStep actor c)) (framer_after u actor c ∙ e) parts.1
  first_framer (FrameStep actor at ∷ more) u e h =
      let parts = none_in (step_faults true states u (FrameStep actor at))
      (steps_faults true states (uses_after u (FrameStep actor at)) more) h in (
        actor,
        (
          refl,
          known_framer actor more (uses_after u (FrameStep actor at)) (ap (λ o. with_framer o actor) e)
              parts.1,
        ),
      )

  pub one_framer : (first : Option ℕ) (forms : List DoForm) → script_faults true states first forms ≡ []
      → (f : ℕ) × OnlyFrames f (text_script (actors_of forms) forms)
  one_framer first forms h =
      let one = (none_in (oversized_faults first) _ h).1 in
      let two = (none_in (long_forms most_steps forms) _ one).1 in
      let three = (none_in (further_actors (actors_of forms) forms) _ two).1 in
      let four = (none_in (forms_wrong_repeats forms) _ three).1 in
      first_framer (text_script (actors_of forms) forms) no_uses refl four

-- Making states takes no snapshot.
pub count-states : (w : World BuiltIn) (ss : List State) → length (with_states w ss).snapshots ≡ length w.snapshots
count-states w [] = refl
count-states w (s ∷ more) = count-states (world_after_make w (type_of s.initial) s.policy s.initial) more
    ∙ length-map w.snapshots (with_object (record { value = s.initial; stamp = 0 }))

pub frames_are_in_turn : FramesAreInTurn
frames_are_in_turn states first forms h valid fine legal woven =
    let actors = actors_of forms in
    let framer = one_framer states first forms fine in
    let counted = count-states (start 0) states in
    turns framer.0 (length actors) h (opening_world states) None (initial_actor (script_parts actors forms))
    (record {
      valid = valid;
      few = omega (arith, counted);
      fits = λ a below. record {
        known = λ x k e. absurd cc;
        apart = λ x k e o. absurd cc;
        frame = refl;
        inside = false;
        turn = subst (λ (ps : List ActorPart). Alternates ps false) (sym (parts_are_of_script a actors forms))
            (parts_turns a actors forms);
        within = λ k e. absurd cc;
        only = λ ne. subst HaveNoFrame (sym (parts_are_of_script a actors forms))
            (parts_none framer.0 a ne actors forms framer.1);
      };
      opened = λ g e. absurd cc;
    })
    legal woven
