-- Internal: the answer for a forest, that is its text within the limits or the offset where it is refused.
use Rattle.std.specs.Prelude.{ℕ, Option, Some, None, Result, Ok, Err}
use Rattle.sexp_text.specs.Forest.{Forest}
use Rattle.lang_limits.specs.LeastOffset.{least}
use Rattle.lang_limits.specs.Sizes.{program_limits}
use Rattle.lang_limits.specs.Clamped.{clamped_trees}
use Rattle.lang_forms.specs.declared.stop.FormStop.{FormStop}
use Rattle.lang_forms.specs.declared.stop.FormStop.TheVariants.{Form, Limit}
use Rattle.lang_forms.specs.Sources.{Source}
use Rattle.lang_forms.specs.Readings.{seen_trees}
use Rattle.lang_forms.specs.TextReading.{source_of}

-- The text, or the offset that exceeds a limit.
abbrev pub unless_beyond : Option ℕ → Source → Result Source FormStop
unless_beyond None t = Ok t
unless_beyond (Some at) t = Err (Limit at)

-- The answer for a forest whose clamped trees were parsed: a wrong form comes before all limits.
abbrev pub parsed_answer : Forest → Result Source ℕ → Result Source FormStop
parsed_answer f (Ok t) = unless_beyond (least (program_limits f t.program)) t
parsed_answer f (Err at) = Err (Form at)

-- The answer for a forest in an input of length `end`: its trees are clamped to the limits and parsed.
abbrev pub text_answer : ℕ → Forest → Result Source FormStop
text_answer end f = parsed_answer f (source_of end (seen_trees (clamped_trees f)))
