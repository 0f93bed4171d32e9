-- The effect of the limits on a parsed text.
use Rattle.std.proofs.Common.{◌≡◌, ℕ, [], Option, Some, None, Result, Ok, Err, IfOk, refl, ap, ◌∙◌, subst}
use Rattle.sexp_text.specs.Forest.{Forest}
use Rattle.lang_limits.specs.LeastOffset.{least}
use Rattle.lang_limits.specs.Tokens.{oversized_offsets, program_trees, oversized_script_offsets}
use Rattle.lang_limits.specs.Sizes.{program_limits}
use Rattle.lang_limits.specs.Clamped.{clamped_trees}
use Rattle.lang_limits.proofs.Copies.{small_trees_stay}
use Rattle.lang_limits.proofs.Lesser.{no_least}
use Rattle.lang_forms.specs.declared.stop.FormStop.{FormStop}
use Rattle.lang_forms.specs.declared.stop.FormStop.TheVariants.{Form, Limit}
use Rattle.lang_forms.specs.TextAnswers.{parsed_answer, unless_beyond, text_answer}
use Rattle.lang_forms.specs.Sources.{Source}
use Rattle.lang_forms.specs.Forms.{HasForms}
use Rattle.lang_forms.specs.Readings.{seen_trees}
use Rattle.lang_forms.specs.FirstWrong.{IsFirstWrong, Answers}
use Rattle.lang_forms.specs.TextReading.{PartialSource, source_or_offset, text_of, source_of}
use Rattle.lang_forms.proofs.TextHasForms.{source_found}
use Rattle.lang_forms.proofs.FirstWrong.{first_wrong}

-- Trees without oversized tokens, in the program and in the script, stay as they are.
pub all_within : (f : Forest) → least (oversized_offsets (program_trees f)) ≡ None
    → least (oversized_script_offsets f) ≡ None
    → clamped_trees f ≡ f
all_within f h k = small_trees_stay f (no_least _ h) (no_least _ k)

-- The content of an answer.

abbrev answer : Source → Result Source FormStop
answer t = Ok t

abbrev refusal : FormStop → Result Source FormStop
refusal stop = Err stop

abbrev stopped_at : ℕ → Result Source ℕ
stopped_at at = Err at

abbrev front_stopped : ℕ → Result PartialSource ℕ
front_stopped at = Err at

abbrev read_as : Source → Result Source ℕ
read_as t = Ok t

answer_same : (t u : Source) → answer t ≡ answer u → t ≡ u
answer_same t u h = cc

form_same : (x at : ℕ) → refusal (Form x) ≡ refusal (Form at) → stopped_at x ≡ stopped_at at
form_same x at h = cc

limit_same : (x at : ℕ) → refusal (Limit x) ≡ refusal (Limit at) → x ≡ at
limit_same x at h = cc

-- A text that is the answer was parsed, and its program exceeds no limit.
text_told : (f : Forest) (r : Result Source ℕ) (t : Source) → parsed_answer f r ≡ answer t
    → (r ≡ read_as t) × (least (program_limits f t.program) ≡ None)
text_told f (Ok u) t h = by (least (program_limits f u.program)) refl h
  where
    by : (o : Option ℕ) → least (program_limits f u.program) ≡ o → unless_beyond o u ≡ answer t
        → (read_as u ≡ read_as t) × (least (program_limits f t.program) ≡ None)
    by None e k = subst (λ (v : Source). (read_as u ≡ read_as v) × (least (program_limits f v.program) ≡ None))
        (answer_same u t k) (refl, e)
    by (Some at) e k = absurd (cc)
text_told f (Err at) t h = absurd (cc)

-- A form that is the answer stopped the parser.
form_told : (f : Forest) (r : Result Source ℕ) (at : ℕ) → parsed_answer f r ≡ refusal (Form at) → r ≡ stopped_at at
form_told f (Ok u) at h = absurd (no_form (least (program_limits f u.program)) h)
  where
    no_form : (o : Option ℕ) → unless_beyond o u ≡ refusal (Form at) → ⊥
    no_form None k = absurd (cc)
    no_form (Some x) k = absurd (cc)
form_told f (Err x) at h = form_same x at h

-- A limit that is the answer is exceeded by a text.
limit_told : (f : Forest) (r : Result Source ℕ) (at : ℕ) → parsed_answer f r ≡ refusal (Limit at)
    → (t : Source) × (r ≡ read_as t) × (least (program_limits f t.program) ≡ Some at)
limit_told f (Ok u) at h = by (least (program_limits f u.program)) refl h
  where
    by : (o : Option ℕ) → least (program_limits f u.program) ≡ o → unless_beyond o u ≡ refusal (Limit at)
        → (t : Source) × (read_as u ≡ read_as t) × (least (program_limits f t.program) ≡ Some at)
    by None e k = absurd (cc)
    by (Some x) e k = (u, refl, e ∙ ap (λ (y : ℕ). Some y) (limit_same x at k))
limit_told f (Err x) at h = absurd (cc)

pub forms_answer : {X : Type 0} (view : X → Source) (end : ℕ) (f : Forest) (result : Result X FormStop)
    → Answers view result (text_answer end f) → IfOk result (λ r. HasForms (clamped_trees f) (view r))
forms_answer view end f (Ok r) h =
    source_found end (clamped_trees f) (view r)
    (text_told f (source_of end (seen_trees (clamped_trees f))) (view r) h).0
forms_answer view end f (Err e) h = tt

pub small_answers : {X : Type 0} (view : X → Source) (end : ℕ) (f : Forest) (result : Result X FormStop)
    → Answers view result (text_answer end f) → IfOk result (λ r. program_limits f (view r).program ≡ [])
small_answers view end f (Ok r) h = no_least _ (text_told f (source_of end (seen_trees (clamped_trees f))) (view r) h).1
small_answers view end f (Err e) h = tt

-- The offset where the parser stops.
pub stop_read : (end at : ℕ) (f : Forest) → source_of end (seen_trees f) ≡ stopped_at at → IsFirstWrong end f at
stop_read end at f h = by (text_of end (seen_trees f)) refl h
  where
    again : (x y : ℕ) → source_or_offset (Err x) ≡ stopped_at y → front_stopped x ≡ front_stopped y
    again x y e = cc

    by : (r : Result PartialSource ℕ) → text_of end (seen_trees f) ≡ r → source_or_offset r ≡ stopped_at at
        → IsFirstWrong end f at
    by (Ok q) e k = absurd (cc)
    by (Err x) e k = first_wrong end at f (e ∙ again x at k)

pub stop_answers : {X : Type 0} (view : X → Source) (end at : ℕ) (f : Forest) (result : Result X FormStop)
    → Answers view result (text_answer end f) → result ≡ Err (Form at) → IsFirstWrong end (clamped_trees f) at
stop_answers {X = X} view end at f result h is =
    stop_read end at (clamped_trees f) (form_told f (source_of end (seen_trees (clamped_trees f))) at
    (subst (λ (r : Result X FormStop). Answers view r (text_answer end f)) is h))

pub limit_answers : {X : Type 0} (view : X → Source) (end at : ℕ) (f : Forest) (result : Result X FormStop)
    → Answers view result (text_answer end f) → result ≡ Err (Limit at)
    → (t : Source) × HasForms (clamped_trees f) t × (least (program_limits f t.program) ≡ Some at)
limit_answers {X = X} view end at f result h is =
    let told = limit_told f (source_of end (seen_trees (clamped_trees f))) at
    (subst (λ (r : Result X FormStop). Answers view r (text_answer end f)) is h) in
    (told.0, source_found end (clamped_trees f) told.0 told.1, told.2)
