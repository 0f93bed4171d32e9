-- Bytes are the source text of at most one program with its script, and a source text is not rejected.
use Rattle.std.proofs.Common.{Bool, ◌≡◌, ◌≤◌, ℕ, List, [], Option, Some, None, Ok, refl, sym, ◌∙◌, subst, ap, length}
use Rattle.std.specs.Option.{option_map, option_or}
use Rattle.sexp_text.specs.Forest.{Forest, list_nesting}
use Rattle.sexp_text.specs.Grammar.{Spells}
use Rattle.sexp_text.proofs.Complete.{spells_one}
use Rattle.lang_ast.specs.Programs.{Program}
use Rattle.lang_limits.specs.LeastOffset.{least}
use Rattle.lang_limits.specs.Tokens.{oversized_offsets, program_trees, oversized_script_offsets}
use Rattle.lang_limits.specs.Sizes.{program_limits, program_sizes}
use Rattle.lang_ast.specs.Sizes.{most_forms}
use Rattle.lang_ast.proofs.Limits as limits
use Rattle.lang_ast.proofs.Limits.{none_in}
use Rattle.lang_limits.specs.Clamped.{clamped_trees}
use Rattle.lang_limits.proofs.Copies.{small_trees_stay}
use Rattle.lang_limits.proofs.Lesser.{no_least}
use Rattle.lang_ast.specs.declared.script.DoForm.{DoForm}
use Rattle.lang_ast.specs.declared.program.State.{State}
use Rattle.lang_forms.specs.TextAnswers.{text_answer, parsed_answer, unless_beyond}
use Rattle.lang_forms.specs.Readings.{seen_trees}
use Rattle.lang_forms.specs.TextReading.{source_of}
use Rattle.lang_forms.specs.Sources.{Source}
use Rattle.lang_forms.specs.Forms.{HasForms}
use Rattle.lang_forms.proofs.TextIsRead.{text_read}
use Rattle.lang_forms.proofs.TextHasForms.{ok_same}
use Rattle.lang_checks.specs.FaultOrder.{least_fault}
use Rattle.lang_checks.specs.ProgramFaults.{program_faults}
use Rattle.lang_checks.specs.declared.checks.CheckStop.TheVariants as check
use Rattle.lang_script.specs.ScriptFaults.{script_faults, script_refusal, first_of_faults}
use Rattle.lang_script.proofs.FirstFault.{no_fault}
use Rattle.play_core.specs.StageFaults.{check_end, script_end}
use Rattle.play_core.specs.Faults.{source_refusal, reading_refusal}
use Rattle.play_core.specs.ParserRefusal.{refusal}
use Rattle.play_core.specs.Texts.{IsText, IsNoText}
use Rattle.play_core.specs.declared.text.TextEnd.{TextEnd}

module _ {threads : Bool} where
  -- Facts of any source text of the bytes are facts of the parsed forest.
  pub text-forms : (bytes : List ℕ) (f : Forest) (t : Source) → Spells bytes f → IsText threads bytes t → HasForms f t
  text-forms bytes f t s h = subst (λ g. HasForms g t) (spells_one bytes h.forest f h.spelled s) h.forms

  pub text_one : (bytes : List ℕ) (t u : Source) → IsText threads bytes t → IsText threads bytes u → t ≡ u
  text_one bytes t u h i = ok_same t u
      (sym (text_read 0 i.forest t (text-forms bytes i.forest t i.spelled h)) ∙ text_read 0 i.forest u i.forms)

-- A forest that keeps the limits is unchanged by clamping.
stays : (f : Forest) (p : Program) → program_limits f p ≡ [] → oversized_script_offsets f ≡ [] → clamped_trees f ≡ f
stays f p small brief = small_trees_stay f (none_in (oversized_offsets (program_trees f)) (program_sizes p) small).0 brief

-- A forest that keeps the limits is parsed as the source text whose forms it has.
read-as : (end : ℕ) (f : Forest) (t : Source) → HasForms f t → program_limits f t.program ≡ []
    → oversized_script_offsets f ≡ [] → text_answer end f ≡ Ok t
read-as end f t forms small brief =
    ap (λ g. parsed_answer f (source_of end (seen_trees g))) (stays f t.program small brief)
    ∙ ap (parsed_answer f) (text_read end f t forms)
    ∙ ap (λ places. unless_beyond (least places) t) small

module _ (threads : Bool) where
  fine-forest : (end : ℕ) (f : Forest) (t : Source) → HasForms f t → program_limits f t.program ≡ []
      → oversized_script_offsets f ≡ [] → program_faults t.program ≡ []
      → script_faults threads t.program.states None t.script ≡ [] → refusal threads end f ≡ None
  fine-forest end f t forms small brief sound runs =
      ap (reading_refusal threads (least (oversized_script_offsets f))) (read-as end f t forms small brief)
      ∙ ap (λ places. source_refusal threads (least places) t) brief
      ∙ ap (λ fs. option_or (option_map (λ g. check_end (check.ProgramFault g)) (least_fault fs))
      (option_map script_end (script_refusal threads t.program.states None t.script))) sound
      ∙ ap (λ fs. option_map script_end (first_of_faults None fs)) runs

  -- A source text is not rejected.
  text-fine : (bytes : List ℕ) (f : Forest) (t : Source) → Spells bytes f → IsText threads bytes t
      → refusal threads (length bytes) f ≡ None
  text-fine bytes f t s h = subst (λ g. refusal threads (length bytes) g ≡ None)
      (spells_one bytes h.forest f h.spelled s)
      (fine-forest (length bytes) h.forest t h.forms h.small h.brief h.sound h.runs)

  -- In a script without faults no token exceeds its limit.
  none-beyond : (oversized_offsets : Option ℕ) (states : List State) (forms : List DoForm)
      → script_faults threads states oversized_offsets forms ≡ [] → oversized_offsets ≡ None
  none-beyond None states forms h = refl
  none-beyond (Some at) states forms h = absurd cc

  -- A parsed text that keeps the limits and has no fault is the source text of the bytes.
  pub is_text : (bytes : List ℕ) (f : Forest) (t : Source) (told : Option ℕ) → Spells bytes f → list_nesting f ≤ 100
      → HasForms (clamped_trees f) t → program_limits f t.program ≡ [] → told ≡ least (oversized_script_offsets f) →
      program_faults t.program ≡ [] → script_refusal threads t.program.states told t.script ≡ None
      → IsText threads bytes t
  is_text bytes f t told spelled shallow forms small beyond_is sound runs =
      let faults = no_fault (script_faults threads t.program.states told t.script) runs in
      let none = none-beyond told t.program.states t.script faults in
      let brief = no_least (oversized_script_offsets f) (sym beyond_is ∙ none) in
      record {
        forest = f;
        spelled = spelled;
        shallow = shallow;
        forms = subst (λ g. HasForms g t) (stays f t.program small brief) forms;
        small = small;
        brief = brief;
        sound = sound;
        runs = subst (λ o. script_faults threads t.program.states o t.script ≡ []) none faults;
      }

-- A program that keeps the limits has at most 256 functions.
pub few_functions : (f : Forest) (p : Program) → program_limits f p ≡ [] → length p.functions ≤ most_forms
few_functions f p h =
    limits.few_functions p.states p.functions (none_in (oversized_offsets (program_trees f)) (program_sizes p) h).1

module _ (threads : Bool) where
  -- Rejected bytes are not a source text.
  pub refused_none : (bytes : List ℕ) (f : Forest) (end : TextEnd) → Spells bytes f
      → refusal threads (length bytes) f ≡ Some end → IsNoText threads bytes
  refused_none bytes f end s e t h = let fine = text-fine threads bytes f t s h in absurd cc
