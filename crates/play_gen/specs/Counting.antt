-- Internal: how a run that is counted represents the state of the definitions.
use Rattle.std.specs.Prelude.{◌≡◌, ℕ, List, [], ◌∷◌, Option, Some, None, Result, OnOk}
use Rattle.rt_values.specs.declared.names.NoMemory.{NoMemory}
use Rattle.lang_ast.specs.Terms.{Func}
use Rattle.lang_ast.specs.declared.script.ScriptForm.{ScriptForm}
use Rattle.snap_policy.specs.declared.policy.BuiltIn.{BuiltIn}
use Rattle.snap_api.specs.declared.data.Request.{Request}
use Rattle.snap_api.specs.World.{World}
use Rattle.lang_script.specs.Scripts.{written_out}
use Rattle.lang_script.specs.StepCalls.{ActorPart, request_of, entry, steps_parts}
use Rattle.play_run.specs.RunOutput.{Run, part_after, parts_after}
use Rattle.play_steps.specs.PartLists.{parts_of}
use Rattle.play_run.specs.RunState.{RunFacts}
use Rattle.play_gen.specs.declared.tally.Tally.{Tally}
use Rattle.play_gen.specs.declared.counting.Counting.{Counting}
use Rattle.play_gen.specs.Tallies.{entry_counted}

module _ (functions : List Func) where
  abbrev pub request_counted : Tally → Run → ℕ → Option Request → Tally
  request_counted t r actor None = t
  request_counted t r actor (Some q) = entry_counted functions t r.standing (entry r.standing.world actor q)

  -- The counts after a part of a step.
  abbrev pub part_counted : Tally → Run → ActorPart → Tally
  part_counted t r p = request_counted t r p.actor (request_of r.notes p.part)

  -- The counts after parts.
  abbrev pub parts_counted : Tally → Run → List ActorPart → Tally
  parts_counted t r [] = t
  parts_counted t r (p ∷ ps) = parts_counted (part_counted t r p) (part_after functions r p) ps

-- The parts of steps of the one actor.
abbrev pub forms_parts : List ScriptForm → List ActorPart
forms_parts forms = parts_of 0 (steps_parts (written_out forms))

-- The parts were made after the state `r` of the run and counted. `frame'` is the open frame after them.
pub record CountsAt {V : Type 0} (functions : List Func) (stands : V → World BuiltIn → Type 0) (parts : List ActorPart)
    (world' : V) (counting' : Counting) (frame' : Option ℕ) (tally : Tally) (r : Run) : Type 0 where
  pub facts : RunFacts functions stands world' counting'.memory.composition 0 frame' (parts_after functions r parts)
  pub counted : counting'.tally ≡ parts_counted functions tally r parts

-- `CountsAt` holds for every state that `world` and `counting` represent before the parts, with the frame `frame` open.
abbrev pub CountsParts : {V T : Type 0} → (V → World BuiltIn → Type 0) → List ActorPart → V → V → Counting → Counting
    → Option ℕ → Option ℕ → Result T NoMemory → Type 0
CountsParts stands parts world world' counting counting' frame frame' result =
    (functions : List Func) (r : Run) → RunFacts functions stands world counting.memory.composition 0 frame r →
    OnOk result (CountsAt functions stands parts world' counting' frame' counting.tally r)
