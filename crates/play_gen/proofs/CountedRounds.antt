-- The parts of the rounds of the script, and the state of a counted run after them.
use Rattle.std.proofs.Common.{◌≡◌, ◌<◌, ◌-◌, ◌++◌, ℕ, ℤ, List, [], ◌∷◌, length, refl, sym, ap, ◌∙◌, arith, append_assoc, append-nil}
use Rattle.lang_ast.specs.declared.script.ScriptForm.{ScriptForm}
use Rattle.lang_script.specs.Scripts.{actors_of}
use Rattle.lang_script.specs.StepCalls.{BeginFrame, EndFrame, ActorPart, script_parts}
use Rattle.play_steps.specs.PartLists.{parts_of}
use Rattle.play_gen.specs.declared.rounds.Change.{Change}
use Rattle.play_gen.specs.declared.rounds.Change.TheVariants as change
use Rattle.play_gen.specs.Draws.{initial_state, next_state, draw}
use Rattle.play_gen.specs.GeneratedProgram.{first_items}
use Rattle.play_gen.specs.GeneratedScript.{frame_step, change_drawn, items_after, change_steps, round_change, rounds, generated_script}
use Rattle.play_gen.specs.Counting.{forms_parts}
use Rattle.play_gen.proofs.RoundLists.{rounds-more, items-length}

-- The parts of a frame.
abbrev pub frame_parts : List ActorPart
frame_parts = parts_of 0 (BeginFrame ∷ EndFrame ∷ [])

change_first : (size : ℕ) (c : Change) (x : ℕ) (items : List ℤ) (more : List ScriptForm)
    → forms_parts (change_steps size c x items ++ frame_step ∷ more)
    ≡ (forms_parts (change_steps size c x items) ++ frame_parts) ++ forms_parts more
change_first size change.AddToTotal x items more = refl
change_first size change.RaiseBest x items more = refl
change_first size change.SetScale x items more = refl
change_first size change.RotateItems x items more = refl

round_first : (size left x : ℕ) (items : List ℤ) → 0 < left →
    forms_parts (rounds size left x items)
    ≡ (forms_parts (change_steps size (round_change x) (next_state x) items) ++ frame_parts)
    ++ forms_parts (rounds size (left - 1) (next_state (next_state x))
    (items_after size (round_change x) (next_state x) items))
round_first size left x items some =
    ap forms_parts (rounds-more size left (left - 1) x items (omega (arith, some)))
    ∙ change_first size (round_change x) (next_state x) items
    (rounds size (left - 1) (next_state (next_state x)) (items_after size (round_change x) (next_state x) items))

-- The parts so far and those that are left, after one more round of the loop.
pub parts_step : (done all : List ActorPart) (size left x x1 x2 k : ℕ) (c : Change) (items items1 : List ℤ) → 0 < left
    → done ++ forms_parts (rounds size left x items) ≡ all → k ≡ draw x 4 → x1 ≡ next_state x → c ≡ change_drawn k
    → x2 ≡ next_state x1 → items1 ≡ items_after size c x1 items
    → (done ++ (forms_parts (change_steps size c x1 items) ++ frame_parts))
    ++ forms_parts (rounds size (left - 1) x2 items1) ≡ all
parts_step done all size left x x1 x2 k c items items1 some so_far drew once is twice after =
    let this : c ≡ round_change x = is ∙ ap change_drawn drew in
    let last : x2 ≡ next_state (next_state x) = twice ∙ ap next_state once in
    let left_items : items1 ≡ items_after size (round_change x) (next_state x) items = after
    ∙ ap (λ d. items_after size d x1 items) this ∙ ap (λ y. items_after size (round_change x) y items) once in
    let here : forms_parts (change_steps size c x1 items) ≡ forms_parts (change_steps size (round_change x) (next_state x) items) = ap (λ d. forms_parts (change_steps size d x1 items)) this ∙ ap (λ y. forms_parts (change_steps size (round_change x) y items)) once in
    append_assoc done (forms_parts (change_steps size c x1 items) ++ frame_parts)
    (forms_parts (rounds size (left - 1) x2 items1))
    ∙ ap (λ l. done ++ ((l ++ frame_parts) ++ forms_parts (rounds size (left - 1) x2 items1))) here
    ∙ ap (λ y. done ++ ((forms_parts (change_steps size (round_change x) (next_state x) items) ++ frame_parts)
    ++ forms_parts (rounds size (left - 1) y items1))) last
    ∙ ap (λ l. done ++ ((forms_parts (change_steps size (round_change x) (next_state x) items) ++ frame_parts)
    ++ forms_parts (rounds size (left - 1) (next_state (next_state x)) l))) left_items
    ∙ ap (λ l. done ++ l) (sym (round_first size left x items some))
    ∙ so_far

-- A change keeps the number of items.
pub length_step : (size : ℕ) (c : Change) (x : ℕ) (items items1 : List ℤ) → size ≡ length items
    → items1 ≡ items_after size c x items → size ≡ length items1
length_step size c x items items1 long after = long ∙ sym (ap length after ∙ items-length size c x items)

-- The parts of the script.
pub script_is : (number size d : ℕ) (items : List ℤ) → d ≡ initial_state number → items ≡ first_items size
    → frame_parts ++ forms_parts (rounds size size d items)
    ≡ script_parts (actors_of (generated_script number size)) (generated_script number size)
script_is number size d items first start =
    ap (λ y. frame_parts ++ forms_parts (rounds size size y items)) first
    ∙ ap (λ l. frame_parts ++ forms_parts (rounds size size (initial_state number) l)) start
    ∙ sym (append-nil (frame_parts ++ forms_parts (rounds size size (initial_state number) (first_items size))))
