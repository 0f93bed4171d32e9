-- Trusted: what it means that an actor has made the calls of a first part of its steps.
use Rattle.std.specs.Prelude.{◌≡◌, List, [], ◌∷◌, map, Some, None}
use Rattle.snap_api.specs.declared.data.Reply.{Reply}
use Rattle.snap_api.specs.World.{History}
use Rattle.lang_script.specs.StepCalls.{Notes, ActorPart, request_of, notes_after}
use Rattle.play_laws.specs.Woven.{ActorState, actor_at}

-- The replies of a history, in order.
abbrev pub replies_of : History → List Reply
replies_of h = map (λ e. e.reply) h

-- The calls that parts make if they get these replies. The calls end with the replies, or with the parts.
abbrev pub calls_given : Notes → List ActorPart → List Reply → History
calls_given n [] rs = []
calls_given n (p ∷ more) [] = []
calls_given n (p ∷ more) (r ∷ rs) = elim (request_of n p.part) [
  | None ↦ calls_given n more (r ∷ rs)
  | Some q ↦ record { caller = p.actor; request = q; reply = r } ∷ calls_given (notes_after n p.part r) more rs
]

-- The state of an actor after these replies. Parts without a call are passed: the next part, if any, makes a call.
abbrev pub state_given : Notes → List ActorPart → List Reply → ActorState
state_given n [] rs = actor_at n []
state_given n (p ∷ more) [] = elim (request_of n p.part) [
  | None ↦ state_given n more []
  | Some q ↦ actor_at n (p ∷ more)
]
state_given n (p ∷ more) (r ∷ rs) = elim (request_of n p.part) [
  | None ↦ state_given n more (r ∷ rs)
  | Some q ↦ state_given (notes_after n p.part r) more rs
]

-- The calls are those that an actor in this state makes first, given their replies.
abbrev pub IsFirstPart : ActorState → History → Type 0
IsFirstPart s h = h ≡ calls_given s.notes s.left (replies_of h)

-- From one state of an actor these calls lead to another. Parts that make no call are passed in both.
abbrev pub SpellsTo : ActorState → History → ActorState → Type 0
SpellsTo before h now =
    IsFirstPart before h × (state_given now.notes now.left [] ≡ state_given before.notes before.left (replies_of h))
