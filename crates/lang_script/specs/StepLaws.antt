-- Trusted: what it means that the steps of a script make the calls of a history, and that a run's history is the only
-- one.
use Rattle.std.specs.Prelude.{◌≡◌, ℕ, List, [], ◌∷◌, Some, None}
use Rattle.snap_policy.specs.declared.policy.BuiltIn.{BuiltIn}
use Rattle.snap_policy.specs.Table.{table}
use Rattle.snap_api.specs.declared.data.Request.{Request}
use Rattle.snap_api.specs.declared.data.Reply.{Reply}
use Rattle.snap_api.specs.World.{World, History, IsLegal}
use Rattle.lang_script.specs.StepCalls.{Notes, ActorPart, request_of, notes_after, sequential}

-- The first call of a history is the request `q` of the actor, and `go` is true of its reply and the calls after it.
abbrev pub BeginsWith : ℕ → Request → (Reply → History → Type 0) → History → Type 0
BeginsWith actor q go [] = ⊥
BeginsWith actor q go (e ∷ es) = (e.caller ≡ actor) × (e.request ≡ q) × go e.reply es

-- The calls of a history are those that the parts make one after the other, given the replies in the history.
abbrev pub Spells : Notes → List ActorPart → History → Type 0
Spells n [] h = h ≡ []
Spells n (p ∷ more) h = elim (request_of n p.part) [
  | None ↦ Spells n more h
  | Some q ↦ BeginsWith p.actor q (λ r es. Spells (notes_after n p.part r) more es) h
]

-- The history of a run has the plain world's replies, and its calls are those that the parts make.
abbrev pub SequentialIsSpelled : Type 0
SequentialIsSpelled = (w : World BuiltIn) (n : Notes) (parts : List ActorPart) →
    IsLegal table w (sequential w n parts) × Spells n parts (sequential w n parts)

-- No other history is made by the steps.
abbrev pub SequentialIsTheOnly : Type 0
SequentialIsTheOnly = (w : World BuiltIn) (n : Notes) (parts : List ActorPart) (h : History) →
    IsLegal table w h → Spells n parts h → h ≡ sequential w n parts
