-- The items and the steps of the script, round by round.
use Rattle.std.proofs.Common.{◌≡◌, ◌<◌, ◌≤◌, ◌+◌, ◌-◌, ◌++◌, ℕ, zero, suc, ℤ, pos, List, [], ◌∷◌, length, take, drop, true, false, refl, sym, ap, ◌∙◌, arith, append_assoc, length-append}
use Rattle.std.specs.Prelude.{int_lt}
use Rattle.std.proofs.lemmas.List.{take_all, length-take, length-drop}
use Rattle.std.proofs.lemmas.Int.{ints}
use Rattle.rt_values.specs.Limits.{most_items}
use Rattle.rt_values.specs.Operators.{numbers_from, concatenation}
use Rattle.lang_ast.specs.declared.script.ScriptForm.{ScriptForm}
use Rattle.play_gen.specs.declared.rounds.Change.{Change}
use Rattle.play_gen.specs.declared.rounds.Change.TheVariants as change
use Rattle.play_gen.specs.Draws.{next_state, draw}
use Rattle.play_gen.specs.GeneratedProgram.{first_items}
use Rattle.play_gen.specs.GeneratedScript.{frame_step, change_drawn, rotated_list, items_after, change_steps, round_change, rounds}

-- A rotation keeps the number of items.
pub rotated-length : (turn : ℕ) (items : List ℤ) → length (rotated_list turn items) ≡ length items
rotated-length turn items =
    let sum = length-append (drop turn items) (take turn items) in
    let front = length-take turn items in
    let back = length-drop turn items in
    omega (arith, sum, front, back)

-- A rotation in memory cuts nothing.
pub rotation-fits : (turn : ℕ) (items : List ℤ) → length items ≤ most_items
    → concatenation (drop turn items) (take turn items) ≡ rotated_list turn items
rotation-fits turn items few =
    let same = rotated-length turn items in take_all most_items (rotated_list turn items) (omega (arith, few, same))

pub items-length : (size : ℕ) (c : Change) (x : ℕ) (items : List ℤ) → length (items_after size c x items) ≡ length items
items-length size change.AddToTotal x items = refl
items-length size change.RaiseBest x items = refl
items-length size change.SetScale x items = refl
items-length size change.RotateItems x items = rotated-length (draw x size) items

-- The range from `a` has `n` numbers, if it may.
range-length : (most a n : ℕ) → n ≤ most → length (numbers_from most (pos a) (pos (a + n))) ≡ n
unfolding numbers_from
range-length zero a n few = omega (arith, few)
range-length (suc most) a zero few =
    let ended : int_lt (pos a) (pos (a + 0)) ≡ false = grind (arith, ints) in rw ended refl
range-length (suc most) a (suc n) few =
    let less : int_lt (pos a) (pos (a + suc n)) ≡ true = grind (arith, ints) in
    let rest = range-length most (a + 1) n (omega (arith, few)) in
    let end : a + 1 + n ≡ a + suc n = omega arith in
    rw less (ap suc (ap (λ m. length (numbers_from most (pos (a + 1)) (pos m))) (sym end) ∙ rest))

pub first-length : (size : ℕ) → size ≤ 1000 → length (first_items size) ≡ size
first-length size few =
    let end : size ≡ 0 + size = omega arith in
    ap (λ m. length (numbers_from most_items (pos 0) (pos m))) end ∙ range-length most_items 0 size (omega (arith, few))

pub rounds-more : (size left n x : ℕ) (items : List ℤ) → left ≡ suc n
    → rounds size left x items ≡ change_steps size (round_change x) (next_state x) items
    ++ frame_step ∷ rounds size n (next_state (next_state x)) (items_after size (round_change x) (next_state x) items)
rounds-more size left n x items is = ap (λ k. rounds size k x items) is

-- The steps so far after one more round of the loop.
steps-more : (steps with_change with_frame whole : List ScriptForm) (size left x : ℕ) (items : List ℤ) → 0 < left
    → with_change ≡ steps ++ change_steps size (round_change x) (next_state x) items
    → with_frame ≡ with_change ++ frame_step ∷ [] → steps ++ rounds size left x items ≡ whole
    → with_frame ++ rounds size (left - 1) (next_state (next_state x))
    (items_after size (round_change x) (next_state x) items) ≡ whole
steps-more steps with_change with_frame whole size left x items some changed framed so_far =
    let rest = rounds size (left - 1) (next_state (next_state x))
    (items_after size (round_change x) (next_state x) items) in
    let change = change_steps size (round_change x) (next_state x) items in
    ap (λ l. l ++ rest) (framed ∙ ap (λ l. l ++ frame_step ∷ []) changed)
    ∙ append_assoc (steps ++ change) (frame_step ∷ []) rest
    ∙ append_assoc steps change (frame_step ∷ rest)
    ∙ ap (λ l. steps ++ l) (sym (rounds-more size left (left - 1) x items (omega (arith, some))))
    ∙ so_far

-- One more round of the loop, by its draws and its change.
pub round-step : (steps with_change with_frame whole : List ScriptForm) (size left x x1 x2 k : ℕ) (c : Change)
    (items items1 : List ℤ) → 0 < left → size ≡ length items → steps ++ rounds size left x items ≡ whole
    → k ≡ draw x 4 → x1 ≡ next_state x → c ≡ change_drawn k → x2 ≡ next_state x1 → items1 ≡ items_after size c x1 items
    → with_change ≡ steps ++ change_steps size c x1 items → with_frame ≡ with_change ++ frame_step ∷ []
    → (size ≡ length items1) × (with_frame ++ rounds size (left - 1) x2 items1 ≡ whole)
round-step steps with_change with_frame whole size left x x1 x2 k c items items1 some long so_far drew once is twice after changed framed =
    let this : c ≡ round_change x = is ∙ ap change_drawn drew in
    let last : x2 ≡ next_state (next_state x) = twice ∙ ap next_state once in
    let left_items : items1 ≡ items_after size (round_change x) (next_state x) items = after
    ∙ ap (λ d. items_after size d x1 items) this ∙ ap (λ y. items_after size (round_change x) y items) once in
    let made : with_change ≡ steps ++ change_steps size (round_change x) (next_state x) items = changed
    ∙ ap (λ d. steps ++ change_steps size d x1 items) this
    ∙ ap (λ y. steps ++ change_steps size (round_change x) y items) once in (
      long ∙ sym (ap length left_items ∙ items-length size (round_change x) (next_state x) items),
      ap (λ y. with_frame ++ rounds size (left - 1) y items1) last
          ∙ ap (λ l. with_frame ++ rounds size (left - 1) (next_state (next_state x)) l) left_items
          ∙ steps-more steps with_change with_frame whole size left x items some made framed so_far,
    )
