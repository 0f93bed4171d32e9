-- Trusted: the actors of a script, and its steps with the repeats written out.
use Rattle.std.specs.Prelude.{ℕ, zero, suc, ◌+◌, ◌*◌, nat_lt, List, [], ◌∷◌, ◌++◌, Bool, length, ℤ, pos, negsuc, if◌then◌else◌}
use Rattle.std.specs.Str.{bytes_eq}
use Rattle.lang_ast.specs.declared.script.StepForm.{StepForm}
use Rattle.lang_ast.specs.declared.script.StepForm.TheVariants.{Call, Frame, FrameDuring}
use Rattle.lang_ast.specs.declared.script.ScriptForm.{ScriptForm}
use Rattle.lang_ast.specs.declared.script.ScriptForm.TheVariants.{Once, Repeat}
use Rattle.lang_ast.specs.declared.script.DoForm.{DoForm}

-- The most actors of a script.
abbrev pub most_actors : ℕ
most_actors = 8

-- The index of the first of these names that is `name`, or the number of names if there is none.
abbrev pub index_of : List ℕ → List (List ℕ) → ℕ
index_of name [] = 0
index_of name (other ∷ more) = if bytes_eq other name then 0 else suc (index_of name more)

-- Whether `name` is one of these names.
abbrev pub is_among : List ℕ → List (List ℕ) → Bool
is_among name names = nat_lt (index_of name names) (length names)

-- The actors with a further one, unless it is among them or there are eight already.
abbrev pub with_actor : List (List ℕ) → List ℕ → List (List ℕ)
with_actor actors name =
    if is_among name actors then actors else if nat_lt (length actors) most_actors then actors ++ name ∷ [] else actors

-- The names of the first eight actors, by number: in the order in which they come first.
abbrev pub actors_from : List (List ℕ) → List DoForm → List (List ℕ)
actors_from actors [] = actors
actors_from actors (d ∷ more) = actors_from (with_actor actors d.actor.text) more

abbrev pub actors_of : List DoForm → List (List ℕ)
actors_of forms = actors_from [] forms

-- How often the steps of a repeat are made.
abbrev pub times_of : ℤ → ℕ
times_of (pos n) = n
times_of (negsuc n) = 0

-- Steps, so many times in a row.
abbrev pub repeated_steps : {A : Type 0} → ℕ → List A → List A
repeated_steps zero steps = []
repeated_steps (suc n) steps = steps ++ repeated_steps n steps

-- The steps of an actor, with each repeat written out.
abbrev pub written_out : List ScriptForm → List StepForm
written_out [] = []
written_out (Once s ∷ more) = s ∷ written_out more
written_out (Repeat at times steps ∷ more) = repeated_steps (times_of times) steps ++ written_out more

-- The number of steps that a step counts for: a frame and each of its inner steps count one each.
abbrev pub step_count : StepForm → ℕ
step_count (Call c) = 1
step_count (Frame at) = 1
step_count (FrameDuring at during) = 1 + length during

abbrev pub steps_count : List StepForm → ℕ
steps_count [] = 0
steps_count (s ∷ more) = step_count s + steps_count more

-- The number of steps of an actor, with repeats written out.
abbrev pub forms_count : List ScriptForm → ℕ
forms_count [] = 0
forms_count (Once s ∷ more) = step_count s + forms_count more
forms_count (Repeat at times steps ∷ more) = times_of times * steps_count steps + forms_count more
