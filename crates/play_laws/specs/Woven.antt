-- Trusted: histories that are woven of the calls of several actors, each with notes of its own.
use Rattle.std.specs.Prelude.{◌≡◌, ℕ, ◌<◌, ◌==◌, List, [], ◌∷◌, ◌++◌, map, if◌then◌else◌}
use Rattle.lang_ast.specs.declared.script.DoForm.{DoForm}
use Rattle.snap_api.specs.World.{History}
use Rattle.snap_shared.specs.Histories.{calls_by}
use Rattle.snap_shared.specs.SharedCalls.{own_calls, HasOnlyCallersBelow}
use Rattle.lang_script.specs.StepCalls.{Notes, ActorPart, no_notes, of_actor, steps_parts}
use Rattle.lang_script.specs.Scripts.{index_of, written_out}
use Rattle.lang_script.specs.StepLaws.{Spells}

-- The number of the actor that a part belongs to.
abbrev pub actor_of : ActorPart → ℕ
actor_of p = p.actor

-- The parts of actor `a`, in order.
abbrev pub parts_of_actor : ℕ → List ActorPart → List ActorPart
parts_of_actor a parts = calls_by actor_of a parts

-- `AreOf a parts`: each of the parts belongs to actor `a`.
abbrev pub AreOf : ℕ → List ActorPart → Type 0
AreOf a [] = Unit {0}
AreOf a (p ∷ more) = (p.actor ≡ a) × AreOf a more

-- The parts of the steps that a script has for actor `a`, with repeats written out, in the order of the text. `actors`
-- are the actors' names by number.
abbrev pub actor_parts : ℕ → List (List ℕ) → List DoForm → List ActorPart
actor_parts a actors [] = []
actor_parts a actors (d ∷ more) =
    if index_of d.actor.text actors == a
    then map (of_actor a) (steps_parts (written_out d.steps)) ++ actor_parts a actors more
    else actor_parts a actors more

-- What the next calls of an actor depend on: the notes of its own calls so far, and the parts of its steps that are
-- left.
pub record ActorState : Type 0 where
  pub notes : Notes
  pub left : List ActorPart

-- An actor with these notes and parts.
abbrev pub actor_at : Notes → List ActorPart → ActorState
actor_at n parts = record { notes = n; left = parts }

-- Each actor before its first step has no notes, and all its parts are left.
abbrev pub initial_actor : List ActorPart → ℕ → ActorState
initial_actor parts a = actor_at no_notes (parts_of_actor a parts)

-- The calls are those that the parts which are left make one after the other, given the replies.
abbrev pub SpellsAll : ActorState → History → Type 0
SpellsAll s h = Spells s.notes s.left h

-- Of each actor below `n` the calls are those that its parts make, and no one else calls.
pub record IsWoven (n : ℕ) (actors : ℕ → ActorState) (h : History) : Type 0 where
  pub each : (a : ℕ) → a < n → SpellsAll (actors a) (own_calls a h)
  pub others : HasOnlyCallersBelow n h
