-- Internal: parts that begin and end frames in turn.
use Rattle.std.specs.Prelude.{◌≡◌, List, [], ◌∷◌, Bool, true, false}
use Rattle.lang_script.specs.StepCalls.{Part, BeginFrame, EndFrame, ActorPart}

-- A part inside of a frame or not, and what follows it. A frame begins outside, and after its end comes the outside.
abbrev pub FrameTurn : Bool → Part → (Bool → Type 0) → Type 0
FrameTurn inside BeginFrame rest = (inside ≡ false) × rest true
FrameTurn inside EndFrame rest = rest false
FrameTurn inside _ rest = rest inside

-- `Alternates parts inside`: no frame begins inside of another one. `inside` says whether the first part is inside of a
-- frame.
abbrev pub Alternates : List ActorPart → Bool → Type 0
Alternates [] inside = Unit {0}
Alternates (p ∷ ps) inside = FrameTurn inside p.part (λ b. Alternates ps b)
