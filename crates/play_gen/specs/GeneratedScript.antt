-- Trusted: the script of a generated input.
use Rattle.std.specs.Prelude.{ℕ, zero, suc, ℤ, ◌==◌, List, [], ◌∷◌, ◌++◌, take, drop, pos, codes, if◌then◌else◌}
use Rattle.rt_values.specs.declared.value.Value.{Value}
use Rattle.rt_values.specs.declared.value.Value.TheVariants as value
use Rattle.rt_values.specs.declared.names.Kind.TheVariants as kind
use Rattle.lang_ast.specs.declared.script.SnapshotRef.{SnapshotRef}
use Rattle.lang_ast.specs.declared.script.SnapshotRef.TheVariants.{Global, Named}
use Rattle.lang_ast.specs.declared.script.CallForm.{CallForm}
use Rattle.lang_ast.specs.declared.script.CallForm.TheVariants as form
use Rattle.lang_ast.specs.declared.script.StepForm.TheVariants as step
use Rattle.lang_ast.specs.declared.script.ScriptForm.{ScriptForm}
use Rattle.lang_ast.specs.declared.script.ScriptForm.TheVariants.{Once}
use Rattle.lang_ast.specs.declared.script.DoForm.{DoForm}
use Rattle.play_gen.specs.declared.rounds.Change.{Change}
use Rattle.play_gen.specs.declared.rounds.Change.TheVariants as change
use Rattle.play_gen.specs.Draws.{initial_state, next_state, draw}
use Rattle.play_gen.specs.GeneratedProgram.{ident, first_items}

-- A step without inner steps.
abbrev pub single : CallForm → ScriptForm
single call = Once (step.Call call)

-- `(frame)`
abbrev pub frame_step : ScriptForm
frame_step = Once (step.Frame 0)

-- `(write SNAPSHOT NAME VALUE)`, of the state with this number.
abbrev pub write_step : SnapshotRef → List ℕ → ℕ → Value → ScriptForm
write_step snapshot name number v = single (form.Write 0 snapshot (ident name) number v)

-- The snapshot with the name `g`.
abbrev pub named_g : SnapshotRef
named_g = Named (ident (codes "g"))

-- `(take g mutable global)`
abbrev pub take_step : ScriptForm
take_step = single (form.Take 0 (ident (codes "g")) kind.Mutable Global)

-- `(apply g)`
abbrev pub apply_step : ScriptForm
apply_step = single (form.Apply 0 named_g)

-- `(add global total AMOUNT)`
abbrev pub add_step : ℕ → ScriptForm
add_step amount = single (form.Add 0 Global (ident (codes "total")) 1 (pos amount))

-- What a round changes, by its first draw.
abbrev pub change_drawn : ℕ → Change
change_drawn k =
    if k == 0 then change.AddToTotal
    else if k == 1 then change.RaiseBest
    else if k == 2 then change.SetScale
    else change.RotateItems

-- The items, rotated left by `turn`.
abbrev pub rotated_list : ℕ → List ℤ → List ℤ
rotated_list turn items = drop turn items ++ take turn items

-- The items after a change. The state of the draws is `x`.
abbrev pub items_after : ℕ → Change → ℕ → List ℤ → List ℤ
items_after size change.RotateItems x items = rotated_list (draw x size) items
items_after size _ x items = items

-- The steps of a change. The state of the draws is `x`.
abbrev pub change_steps : ℕ → Change → ℕ → List ℤ → List ScriptForm
change_steps size change.AddToTotal x items = add_step (draw x 10) ∷ []
change_steps size change.RaiseBest x items =
    take_step ∷ write_step named_g (codes "best") 2 (value.Int (pos (draw x 10))) ∷ apply_step ∷ []
change_steps size change.SetScale x items = write_step Global (codes "scale") 3 (value.Int (pos (draw x 10))) ∷ []
change_steps size change.RotateItems x items =
    write_step Global (codes "items") 0 (value.Ints (rotated_list (draw x size) items)) ∷ []

-- The change of the round that begins in the state `x` of the draws.
abbrev pub round_change : ℕ → Change
round_change x = change_drawn (draw x 4)

-- The steps of so many rounds: each makes a change and a frame. A change takes the second draw of its round.
abbrev pub rounds : ℕ → ℕ → ℕ → List ℤ → List ScriptForm
rounds size zero x items = []
rounds size (suc n) x items =
    change_steps size (round_change x) (next_state x) items
    ++ frame_step
    ∷ rounds size n (next_state (next_state x)) (items_after size (round_change x) (next_state x) items)

-- The script: a frame, then as many rounds as there are rows, of the actor `main`.
abbrev pub generated_script : ℕ → ℕ → List DoForm
generated_script number size =
    record {
      at = 0;
      actor = ident (codes "main");
      steps = frame_step ∷ rounds size size (initial_state number) (first_items size);
    }
    ∷ []
