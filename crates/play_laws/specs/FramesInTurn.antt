-- Trusted: histories in which at most one frame is open at a time, and its own caller ends it.
use Rattle.std.specs.Prelude.{◌≡◌, ℕ, List, [], ◌∷◌, true, false, Option, Some, None}
use Rattle.snap_api.specs.World.{History}
use Rattle.script_lang.specs.Lines.{ends_frame, frame_taken}

-- An open frame: who took its snapshot, and the number of the snapshot.
pub record OpenFrame : Type 0 where
  pub caller : ℕ
  pub name : ℕ

-- The frame that a call of `caller` opens, if it takes this snapshot for a frame.
abbrev pub frame_opened : ℕ → List ℕ → Option OpenFrame
frame_opened caller [] = None
frame_opened caller (name ∷ more) = Some (record { caller = caller; name = name })

-- `AreInTurn frame h`: this frame, or no frame, is open before the history `h`. In `h` a frame begins only if no frame
-- is open, and the dispose of the snapshot of an open frame is a call of the caller that began the frame.
abbrev pub AreInTurn : Option OpenFrame → History → Type 0
AreInTurn frame [] = Unit {0}
AreInTurn None (e ∷ es) = AreInTurn (frame_opened e.caller (frame_taken e.request e.reply)) es
AreInTurn (Some f) (e ∷ es) = elim (ends_frame (f.name ∷ []) e.request) [
  | true ↦ (e.caller ≡ f.caller) × AreInTurn None es
  | false ↦ (frame_taken e.request e.reply ≡ []) × AreInTurn (Some f) es
]
