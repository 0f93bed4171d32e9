-- Internal: the refusal of a forest as the parser computes it.
use Rattle.std.specs.Prelude.{ℕ, Bool}
use Rattle.std.specs.declared.option.Option.{Option}
use Rattle.sexp_text.specs.Forest.{Forest}
use Rattle.lang_limits.specs.LeastOffset.{least}
use Rattle.lang_limits.specs.Tokens.{oversized_script_offsets}
use Rattle.lang_forms.specs.TextAnswers.{text_answer}
use Rattle.play_core.specs.Faults.{reading_refusal}
use Rattle.play_core.specs.declared.text.TextEnd.{TextEnd}

-- Why a forest is rejected, in an input of `end` bytes.
abbrev pub refusal : Bool → ℕ → Forest → Option TextEnd
refusal threads end f = reading_refusal threads (least (oversized_script_offsets f)) (text_answer end f)
