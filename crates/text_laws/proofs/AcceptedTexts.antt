-- A script without a fault for `threads` has none for `run`.
use Rattle.std.proofs.Common.{◌≡◌, ℕ, true, false, List, [], ◌∷◌, refl, Option, None}
use Rattle.lang_ast.proofs.Limits.{none_in}
use Rattle.lang_ast.specs.declared.program.State.{State}
use Rattle.lang_ast.specs.declared.script.SnapshotRef.{SnapshotRef}
use Rattle.lang_ast.specs.declared.script.SnapshotRef.TheVariants.{Global, Named}
use Rattle.lang_ast.specs.declared.script.CallForm.{CallForm}
use Rattle.lang_ast.specs.declared.script.CallForm.TheVariants as form
use Rattle.lang_ast.specs.declared.script.DoForm.{DoForm}
use Rattle.lang_script.specs.SnapshotNames.{latest}
use Rattle.lang_script.specs.Scripts.{actors_of}
use Rattle.lang_script.specs.ScriptFaults.{TextStep, CallStep, FrameStep, text_script, FirstUses, no_uses, uses_after, unknown_name, snapshot_faults, call_faults, step_faults, steps_faults, oversized_faults, long_forms, most_steps, further_actors, forms_wrong_repeats, script_faults}
use Rattle.text_laws.specs.WovenRuns.{RunAcceptsTextsOfThreads}
use Rattle.text_laws.proofs.PlacedForests.{join_none}

module _ (states : List State) (u : FirstUses) (a : ℕ) where
  snapshot_alone : (at : ℕ) (s : SnapshotRef) → snapshot_faults true u a at s ≡ [] → snapshot_faults false u a at s ≡ []
  snapshot_alone at Global h = refl
  snapshot_alone at (Named name) h =
      join_none _ _ (none_in (unknown_name at (latest u.takers name.text)) _ h).0 refl

  call_alone : (c : CallForm) → call_faults true states u a c ≡ [] → call_faults false states u a c ≡ []
  call_alone (form.Take at name kind parent) h =
      join_none _ _ (snapshot_alone at parent (none_in (snapshot_faults true u a at parent) _ h).0) refl
  call_alone (form.Read at s state x) h =
      let both = none_in (snapshot_faults true u a at s) _ h in join_none _ _ (snapshot_alone at s both.0) both.1
  call_alone (form.Write at s state x v) h =
      let both = none_in (snapshot_faults true u a at s) _ h in join_none _ _ (snapshot_alone at s both.0) both.1
  call_alone (form.Add at s state x d) h =
      let both = none_in (snapshot_faults true u a at s) _ h in join_none _ _ (snapshot_alone at s both.0) both.1
  call_alone (form.Apply at s) h = snapshot_alone at s h
  call_alone (form.Dispose at s) h = snapshot_alone at s h

step_alone : (states : List State) (u : FirstUses) (s : TextStep) → step_faults true states u s ≡ []
    → step_faults false states u s ≡ []
step_alone states u (CallStep a c) h = call_alone states u a c h
step_alone states u (FrameStep a at) h = refl

steps_alone : (states : List State) (u : FirstUses) (ts : List TextStep) → steps_faults true states u ts ≡ []
    → steps_faults false states u ts ≡ []
steps_alone states u [] h = refl
steps_alone states u (s ∷ ts) h =
    let both = none_in (step_faults true states u s) (steps_faults true states (uses_after u s) ts) h in
    join_none _ _ (step_alone states u s both.0) (steps_alone states (uses_after u s) ts both.1)

script_alone : (states : List State) (first : Option ℕ) (ds : List DoForm) → script_faults true states first ds ≡ []
    → script_faults false states first ds ≡ []
script_alone states first ds h =
    let one = none_in (oversized_faults first) _ h in
    let two = none_in (long_forms most_steps ds) _ one.1 in
    let three = none_in (further_actors (actors_of ds) ds) _ two.1 in
    let four = none_in (forms_wrong_repeats ds) _ three.1 in
    join_none _ _ one.0 (join_none _ _ two.0 (join_none _ _ three.0
    (join_none _ _ four.0 (steps_alone states no_uses (text_script (actors_of ds) ds) four.1))))

pub run_accepts_texts_of_threads : RunAcceptsTextsOfThreads
run_accepts_texts_of_threads bytes t h = record {
  forest = h.forest;
  spelled = h.spelled;
  shallow = h.shallow;
  forms = h.forms;
  small = h.small;
  brief = h.brief;
  sound = h.sound;
  runs = script_alone t.program.states None t.script h.runs;
}
