-- The generated script has no fault.
use Rattle.std.proofs.Common.{◌≡◌, ◌≤◌, ◌+◌, ◌*◌, ◌++◌, ℕ, zero, suc, ℤ, List, [], ◌∷◌, false, Option, Some, None, refl, ap, ◌∙◌, arith, codes, append-nil}
use Rattle.std.specs.Prelude.{nat_lt}
use Rattle.lang_ast.specs.declared.script.ScriptForm.{ScriptForm}
use Rattle.lang_script.specs.Scripts.{forms_count}
use Rattle.lang_script.specs.SnapshotNames.{NamedNumber, latest}
use Rattle.lang_script.specs.ScriptFaults.{FirstUses, no_uses, text_forms, steps_faults, wrong_repeats, most_steps, script_faults, unknown_name, with_taker, with_framer}
use Rattle.lang_script.specs.declared.faults.ScriptStop.{ScriptStop}
use Rattle.play_gen.specs.declared.rounds.Change.{Change}
use Rattle.play_gen.specs.declared.rounds.Change.TheVariants as change
use Rattle.play_gen.specs.Draws.{initial_state, next_state}
use Rattle.play_gen.specs.GeneratedProgram.{first_items, generated_states}
use Rattle.play_gen.specs.GeneratedScript.{frame_step, change_steps, items_after, round_change, rounds, generated_script}

-- No round has a repeat.
change-repeats : (size : ℕ) (c : Change) (x : ℕ) (items : List ℤ) (more : List ScriptForm)
    → wrong_repeats (change_steps size c x items ++ more) ≡ wrong_repeats more
change-repeats size change.AddToTotal x items more = refl
change-repeats size change.RaiseBest x items more = refl
change-repeats size change.SetScale x items more = refl
change-repeats size change.RotateItems x items more = refl

rounds-repeats : (size left x : ℕ) (items : List ℤ) → wrong_repeats (rounds size left x items) ≡ []
rounds-repeats size zero x items = refl
rounds-repeats size (suc left) x items =
    change-repeats size (round_change x) (next_state x) items
    (frame_step ∷ rounds size left (next_state (next_state x))
    (items_after size (round_change x) (next_state x) items))
    ∙ rounds-repeats size left (next_state (next_state x)) (items_after size (round_change x) (next_state x) items)

-- A round has at most four steps.
change-count : (size : ℕ) (c : Change) (x : ℕ) (items : List ℤ) (more : List ScriptForm)
    → forms_count (change_steps size c x items ++ more) ≤ 3 + forms_count more
change-count size change.AddToTotal x items more = omega arith
change-count size change.RaiseBest x items more = omega arith
change-count size change.SetScale x items more = omega arith
change-count size change.RotateItems x items more = omega arith

rounds-count : (size left x : ℕ) (items : List ℤ) → forms_count (rounds size left x items) ≤ 4 * left
rounds-count size zero x items = omega arith
rounds-count size (suc left) x items =
    let rest = rounds size left (next_state (next_state x)) (items_after size (round_change x) (next_state x) items) in
    let few = rounds-count size left (next_state (next_state x))
    (items_after size (round_change x) (next_state x) items) in
    let more = change-count size (round_change x) (next_state x) items (frame_step ∷ rest) in
    omega (arith, few, more)

abbrev g_name : List ℕ
g_name = codes "g"

-- After a take of `g` the name is known.
known : (takers : List NamedNumber) (o : Option ℕ) → latest takers g_name ≡ o
    → unknown_name 0 (latest (with_taker takers g_name 0 o) g_name) ≡ []
known takers None is = refl
known takers (Some n) is = ap (unknown_name 0) is

module _ (size : ℕ) where
  abbrev faults : FirstUses → List ScriptForm → List ScriptStop
  faults u forms = steps_faults false (generated_states size) u (text_forms 0 forms)

  change-faults : (c : Change) (x : ℕ) (items : List ℤ) (more : List ScriptForm)
      → ((u : FirstUses) → faults u more ≡ []) → (u : FirstUses) → faults u (change_steps size c x items ++ more) ≡ []
  change-faults change.AddToTotal x items more none u = none u
  change-faults change.RaiseBest x items more none u =
      let is = known u.takers (latest u.takers g_name) refl in
      rw is (none (record { takers = with_taker u.takers g_name 0 (latest u.takers g_name); framer = u.framer }))
  change-faults change.SetScale x items more none u = none u
  change-faults change.RotateItems x items more none u = none u

  rounds-faults : (left x : ℕ) (items : List ℤ) (u : FirstUses) → faults u (rounds size left x items) ≡ []
  rounds-faults zero x items u = refl
  rounds-faults (suc left) x items u =
      change-faults (round_change x) (next_state x) items
      (frame_step ∷ rounds size left (next_state (next_state x))
      (items_after size (round_change x) (next_state x) items))
      (λ v. rounds-faults left (next_state (next_state x)) (items_after size (round_change x) (next_state x) items)
      (record { takers = v.takers; framer = with_framer v.framer 0 })) u

long : (size number : ℕ) → size ≤ 1000
    → nat_lt most_steps (forms_count (frame_step ∷ rounds size size (initial_state number) (first_items size))) ≡ false
long size number few =
    let most = rounds-count size size (initial_state number) (first_items size) in grind (arith, few, most)

pub no_script_fault : (number size : ℕ) → size ≤ 1000
    → script_faults false (generated_states size) None (generated_script number size) ≡ []
no_script_fault number size few =
    let forms = rounds size size (initial_state number) (first_items size) in
    let short = long size number few in
    let repeats = rounds-repeats size size (initial_state number) (first_items size) in
    let names = rounds-faults size size (initial_state number) (first_items size)
    (record { takers = []; framer = Some 0 }) in
    rw short (rw repeats (ap (λ l. steps_faults false (generated_states size) no_uses l)
    (append-nil (text_forms 0 (frame_step ∷ forms))) ∙ names))
