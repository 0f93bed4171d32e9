-- Bytes are a source text or have a fault.
use Rattle.std.proofs.Common.{◌≡◌, ◌≢◌, ◌⊎◌, ◌≤◌, ◌∙◌, ℕ, List, Bool, true, false, Option, Some, None, Ok, Err, refl, ap, inl, inr, length}
use Rattle.std.specs.declared.result.Result.{Result}
use Rattle.std.specs.Option.{option_map, option_or}
use Rattle.std.specs.Str.{is_utf8}
use Rattle.std.proofs.lemmas.Str.{IsUtf8-from_is_utf8, is_utf8-from_IsUtf8}
use Rattle.sexp_text.specs.Forest.{Forest, list_nesting}
use Rattle.sexp_text.specs.Grammar.{Spells}
use Rattle.sexp_text.specs.TextFaults.{Cause}
use Rattle.sexp_text.specs.declared.stop.TextStop.{TextStop}
use Rattle.sexp_text.specs.declared.stop.TextStop.TheVariants as stop
use Rattle.sexp_text.proofs.Causes.{caused}
use Rattle.sexp_text.proofs.Sound.{spells-whole}
use Rattle.lang_limits.specs.LeastOffset.{least}
use Rattle.lang_limits.specs.Tokens.{oversized_script_offsets}
use Rattle.lang_forms.specs.Sources.{Source}
use Rattle.lang_forms.specs.TextAnswers.{text_answer, parsed_answer, unless_beyond}
use Rattle.lang_forms.specs.declared.stop.FormStop.{FormStop}
use Rattle.lang_forms.specs.declared.stop.FormStop.TheVariants as form
use Rattle.lang_forms.proofs.Limits.{forms_answer, small_answers}
use Rattle.lang_checks.specs.FaultOrder.{least_fault}
use Rattle.lang_checks.specs.ProgramFaults.{program_faults}
use Rattle.lang_checks.specs.declared.faults.ProgramFault as checks
use Rattle.lang_checks.specs.declared.checks.CheckStop.TheVariants as check
use Rattle.lang_checks.proofs.Least.{no_answer}
use Rattle.lang_script.specs.ScriptFaults.{script_refusal}
use Rattle.lang_script.specs.declared.faults.ScriptStop.{ScriptStop}
use Rattle.lang_script.specs.declared.faults.ScriptStop.TheVariants as script
use Rattle.play_core.specs.StageFaults.{check_fault, check_end, script_end}
use Rattle.play_core.specs.Faults.{IsFault, reading_refusal}
use Rattle.play_core.specs.ParserRefusal.{refusal}
use Rattle.play_core.specs.Texts.{IsText}
use Rattle.play_core.specs.declared.fault.Fault.{Fault}
use Rattle.play_core.specs.declared.text.TextEnd.TheVariants.{Bad}
use Rattle.play_core.specs.declared.fault.FaultKind.TheVariants.{Utf8, Text, Deep, Form, Limit, Unknown, «Type», Actor}
use Rattle.play_core.proofs.KnownFaults.{known_refusal}
use Rattle.play_core.proofs.Parses.{parsed}
use Rattle.play_core.proofs.Refusals.{refused-fault}
use Rattle.play_core.proofs.Uniques.{is_text}

abbrev Answer : Bool → List ℕ → Type 0
Answer threads bytes = ((t : Source) × IsText threads bytes t) ⊎ ((fault : Fault) × IsFault threads bytes fault)

module _ (threads : Bool) where
  stopped : (bytes : List ℕ) (s : TextStop) → s ≢ stop.NoMemory → Cause bytes s → Answer threads bytes
  stopped bytes (stop.NotUtf8 at) n c = inr (record { kind = Utf8; at = at }, c)
  stopped bytes (stop.Bad at) n c = inr (record { kind = Text; at = at }, c)
  stopped bytes (stop.TooDeep at) n c = inr (record { kind = Deep; at = at }, c)
  stopped bytes stop.NoMemory n c = absurd (n refl)

-- The forms never report out of memory.
never : (f : Forest) (r : Result Source ℕ) → parsed_answer f r ≢ Err form.NoMemory
never f (Err at) e = absurd cc
never f (Ok t) e = by _ e
  where
    by : (o : Option ℕ) → unless_beyond o t ≡ Err form.NoMemory → ⊥
    by None k = absurd cc
    by (Some at) k = absurd cc

module _ (threads : Bool) (bytes : List ℕ) (f : Forest) (spelled : Spells bytes f) (shallow : list_nesting f ≤ 100) where
  abbrev beyond : Option ℕ
  beyond = least (oversized_script_offsets f)

  -- The script's part of a refusal, if the program has no fault.
  later : (t : Source) → text_answer (length bytes) f ≡ Ok t → least_fault (program_faults t.program) ≡ None
      → (p : Option ScriptStop) →
      script_refusal threads t.program.states beyond t.script ≡ p
      → refusal threads (length bytes) f ≡ option_map script_end p
  later t e h p k =
      ap (reading_refusal threads beyond) e
      ∙ ap (λ o. option_or (option_map (λ x. check_end (check.ProgramFault x)) o)
      (option_map script_end (script_refusal threads t.program.states beyond t.script))) h
      ∙ ap (option_map script_end) k

  rejected : (fault : Fault) → refusal threads (length bytes) f ≡ Some (Bad fault) → Answer threads bytes
  rejected fault e = inr (fault, refused-fault threads bytes f fault spelled shallow e)

  checked : (t : Source) → text_answer (length bytes) f ≡ Ok t → (o : Option checks.ProgramFault)
      → least_fault (program_faults t.program) ≡ o →
      (p : Option ScriptStop) → script_refusal threads t.program.states beyond t.script ≡ p → Answer threads bytes
  checked t e (Some g) h p k = rejected (check_fault g)
      (ap (reading_refusal threads beyond) e
      ∙ ap (λ o. option_or (option_map (λ x. check_end (check.ProgramFault x)) o)
      (option_map script_end (script_refusal threads t.program.states beyond t.script))) h)
  checked t e None h None k =
      inl (
        t,
        is_text threads bytes f t beyond spelled shallow (forms_answer (λ s. s) (length bytes) f (Ok t) e)
            (small_answers (λ s. s) (length bytes) f (Ok t) e) refl (no_answer _ h) k,
      )
  checked t e None h (Some (script.Limit at)) k =
      rejected (record { kind = Limit; at = at }) (later t e h (Some (script.Limit at)) k)
  checked t e None h (Some (script.Unknown at)) k =
      rejected (record { kind = Unknown; at = at }) (later t e h (Some (script.Unknown at)) k)
  checked t e None h (Some (script.Type at)) k =
      rejected (record { kind = «Type»; at = at }) (later t e h (Some (script.Type at)) k)
  checked t e None h (Some (script.Actor at)) k =
      rejected (record { kind = Actor; at = at }) (later t e h (Some (script.Actor at)) k)
  checked t e None h (Some script.NoMemory) k = absurd (known_refusal threads t.program.states beyond t.script k)

  by-forms : (r : Result Source FormStop) → text_answer (length bytes) f ≡ r → Answer threads bytes
  by-forms (Ok t) e = checked t e (least_fault (program_faults t.program)) refl
      (script_refusal threads t.program.states beyond t.script) refl
  by-forms (Err (form.Form at)) e = rejected (record { kind = Form; at = at }) (ap (reading_refusal threads beyond) e)
  by-forms (Err (form.Limit at)) e = rejected (record { kind = Limit; at = at }) (ap (reading_refusal threads beyond) e)
  by-forms (Err form.NoMemory) e = absurd (never f _ e)

module _ (threads : Bool) where
  pub text_or_fault : (bytes : List ℕ) → Answer threads bytes
  text_or_fault bytes = by (is_utf8 bytes) refl
    where
      by : (b : Bool) → is_utf8 bytes ≡ b → Answer threads bytes
      by false e = stopped threads bytes (stop.NotUtf8 _) (λ k. absurd cc)
          ((λ utf8. let is = is_utf8-from_IsUtf8 bytes utf8 in absurd cc), refl)
      by true e =
          let utf8 = IsUtf8-from_is_utf8 bytes e in
          elim (parsed bytes) [
            | inl p ↦ by-forms threads bytes p.0 (spells-whole bytes p.0 utf8 p.1) p.2 (text_answer (length bytes) p.0)
                refl
            | inr p ↦ stopped threads bytes p.0 p.1 (caused {V = Source} bytes (Err p.0) utf8 p.2)
          ]
