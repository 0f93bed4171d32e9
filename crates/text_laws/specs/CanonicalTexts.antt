-- Law: the canonical text is accepted again and is its own canonical text, and offsets change no output.
use Rattle.std.specs.Prelude.{◌≡◌, ◌↔◌, ℕ, Bool, List, Some}
use Rattle.lang_forms.specs.Sources.{Source}
use Rattle.play_args.specs.declared.command.Command.{Command}
use Rattle.play_core.specs.Texts.{IsText, IsOutput, check_output}
use Rattle.text_laws.specs.OtherOffsets.{placed_source}

-- The bytes are a text of the source `t` at other offsets, which has the same canonical text.
abbrev pub IsTextAtOtherOffsets : Bool → List ℕ → Source → Type 0
IsTextAtOtherOffsets threads bytes t = (g : ℕ → ℕ) × IsText threads bytes (placed_source g t)
    × (check_output (placed_source g t) ≡ check_output t)

-- What `check` writes for a text is a text of the same program and script at other offsets, and `check` writes it again.
abbrev pub CheckIsIdempotent : Type 0
CheckIsIdempotent = (threads : Bool) (bytes : List ℕ) (t : Source) → IsText threads bytes t →
    IsTextAtOtherOffsets threads (check_output t) t

-- Each command has the same outputs for a program and a script at other offsets. `threads` may have several.
abbrev pub OffsetsChangeNoOutput : Type 0
OffsetsChangeNoOutput = (g : ℕ → ℕ) (command : Command) (t : Source) (bytes : List ℕ) →
    IsOutput command (Some (placed_source g t)) bytes ↔ IsOutput command (Some t) bytes
