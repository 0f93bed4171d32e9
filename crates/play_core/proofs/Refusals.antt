-- The fault of rejected bytes, both ways.
use Rattle.std.proofs.Common.{◌≡◌, ◌≢◌, ◌⊎◌, ◌≤◌, ℕ, List, Bool, true, false, Option, Some, None, refl, ap, ◌∙◌, subst, length, Ok, Err, OnOk, inl, inr, sym}
use Rattle.std.specs.Option.{option_map, option_or}
use Rattle.std.specs.declared.result.Result.{Result}
use Rattle.sexp_text.specs.Forest.{Forest, list_nesting}
use Rattle.sexp_text.specs.Grammar.{Spells}
use Rattle.sexp_text.proofs.Complete.{spells_one}
use Rattle.sexp_text.specs.TextFaults.{Cause}
use Rattle.sexp_text.specs.declared.stop.TextStop.{TextStop}
use Rattle.sexp_text.specs.declared.stop.TextStop.TheVariants as stop
use Rattle.lang_forms.specs.Sources.{Source}
use Rattle.lang_limits.specs.LeastOffset.{least}
use Rattle.lang_limits.specs.Tokens.{oversized_script_offsets}
use Rattle.lang_forms.specs.TextAnswers.{text_answer}
use Rattle.lang_forms.proofs.ByForms.{answer_is, answer_one}
use Rattle.lang_forms.specs.declared.stop.FormStop.{FormStop}
use Rattle.lang_forms.specs.declared.stop.FormStop.TheVariants as form
use Rattle.lang_checks.specs.FaultOrder.{least_fault}
use Rattle.lang_checks.specs.ProgramFaults.{program_faults}
use Rattle.lang_checks.specs.declared.faults.CheckKind.{CheckKind}
use Rattle.lang_checks.specs.declared.faults.CheckKind.TheVariants as kind
use Rattle.lang_checks.specs.declared.faults.ProgramFault as checks
use Rattle.lang_checks.specs.declared.checks.CheckStop.TheVariants as check
use Rattle.lang_script.specs.ScriptFaults.{script_refusal}
use Rattle.lang_script.specs.declared.faults.ScriptStop.{ScriptStop}
use Rattle.lang_script.specs.declared.faults.ScriptStop.TheVariants as script
use Rattle.play_core.specs.StageFaults.{text_end, check_kind, check_end, script_end}
use Rattle.play_core.specs.Faults.{IsFaultAt, IsFault, IsRefused, reading_refusal}
use Rattle.play_core.specs.ParserRefusal.{refusal}
use Rattle.play_core.specs.Texts.{IsNoText}
use Rattle.play_core.specs.declared.fault.Fault.{Fault}
use Rattle.play_core.specs.declared.fault.FaultKind.{FaultKind}
use Rattle.play_core.specs.declared.fault.FaultKind.TheVariants.{Utf8, Text, Deep, Form, Limit, Double, Unknown, Order, «Type», Remember, Actor}
use Rattle.play_core.specs.declared.text.TextEnd.{TextEnd}
use Rattle.play_core.specs.declared.text.TextEnd.TheVariants.{Bad, NoMemory}

ended : (t : TextStop) → (t ≢ stop.NoMemory → ⊥) → text_end t ≡ NoMemory
ended (stop.NotUtf8 at) never = absurd (never (λ e. absurd cc))
ended (stop.Bad at) never = absurd (never (λ e. absurd cc))
ended (stop.TooDeep at) never = absurd (never (λ e. absurd cc))
ended stop.NoMemory never = refl

module _ (threads : Bool) where
  -- The cause of a stop is the fault that it reports.
  pub cause-fault : (bytes : List ℕ) (t : TextStop) → Cause bytes t → (fault : Fault) → text_end t ≡ Bad fault
      → IsFault threads bytes fault
  cause-fault bytes (stop.NotUtf8 at) cause fault e =
      let same : record { kind = Utf8; at = at } ≡ fault = cc in subst (IsFault threads bytes) same cause
  cause-fault bytes (stop.Bad at) cause fault e =
      let same : record { kind = Text; at = at } ≡ fault = cc in subst (IsFault threads bytes) same cause
  cause-fault bytes (stop.TooDeep at) cause fault e =
      let same : record { kind = Deep; at = at } ≡ fault = cc in subst (IsFault threads bytes) same cause
  cause-fault bytes stop.NoMemory cause fault e = absurd cc

  -- Bytes that the tree parser rejects are not a source text.
  pub stop-none : (bytes : List ℕ) (t : TextStop)
      → (t ≢ stop.NoMemory → (f : Forest) → Spells bytes f → list_nesting f ≤ 100 → ⊥) → (fault : Fault)
      → text_end t ≡ Bad fault → IsNoText threads bytes
  stop-none bytes t never fault e p text =
      never (λ (same : t ≡ stop.NoMemory). let memory : NoMemory ≡ Bad fault =
      subst (λ s. text_end s ≡ Bad fault) same e in absurd cc) text.forest text.spelled text.shallow

-- Whether the tree parser reports faults of a kind.
abbrev is_texts : FaultKind → Bool
is_texts Utf8 = true
is_texts Text = true
is_texts Deep = true
is_texts Form = false
is_texts Limit = false
is_texts Double = false
is_texts Unknown = false
is_texts Order = false
is_texts «Type» = false
is_texts Remember = false
is_texts Actor = false

-- A fault of a later stage, if there is one.
abbrev IsLater : Option TextEnd → Type 0
IsLater o = (fault : Fault) → o ≡ Some (Bad fault) → is_texts fault.kind ≡ false

later-kind : (k : CheckKind) → is_texts (check_kind k) ≡ false
later-kind kind.Double = refl
later-kind kind.Unknown = refl
later-kind kind.Order = refl
later-kind kind.Type = refl
later-kind kind.Remember = refl

later-bad : (f fault : Fault) → is_texts f.kind ≡ false → Some (Bad f) ≡ Some (Bad fault) → is_texts fault.kind ≡ false
later-bad f fault h e = let same : f ≡ fault = cc in subst (λ (g : Fault). is_texts g.kind ≡ false) same h

later-script : (o : Option ScriptStop) → IsLater (option_map script_end o)
later-script None fault e = absurd cc
later-script (Some (script.Limit at)) fault e = later-bad (record { kind = Limit; at = at }) fault refl e
later-script (Some (script.Unknown at)) fault e = later-bad (record { kind = Unknown; at = at }) fault refl e
later-script (Some (script.Type at)) fault e = later-bad (record { kind = «Type»; at = at }) fault refl e
later-script (Some (script.Actor at)) fault e = later-bad (record { kind = Actor; at = at }) fault refl e
later-script (Some script.NoMemory) fault e = absurd cc

later-check : (o : Option checks.ProgramFault) (p : Option ScriptStop)
    → IsLater (option_or (option_map (λ f. check_end (check.ProgramFault f)) o) (option_map script_end p))
later-check None p fault e = later-script p fault e
later-check (Some f) p fault e = later-bad (record { kind = check_kind f.kind; at = f.at }) fault (later-kind f.kind) e

module _ (threads : Bool) where
  later-reading : (beyond : Option ℕ) (r : Result Source FormStop) → IsLater (reading_refusal threads beyond r)
  later-reading beyond (Ok t) fault e = later-check (least_fault (program_faults t.program))
      (script_refusal threads t.program.states beyond t.script) fault e
  later-reading beyond (Err (form.Form at)) fault e = later-bad (record { kind = Form; at = at }) fault refl e
  later-reading beyond (Err (form.Limit at)) fault e = later-bad (record { kind = Limit; at = at }) fault refl e
  later-reading beyond (Err form.NoMemory) fault e = absurd cc

  later-at : (bytes : List ℕ) (kind : FaultKind) (at : ℕ) → is_texts kind ≡ false
      → IsRefused threads bytes (record { kind = kind; at = at }) → IsFaultAt threads bytes at kind
  later-at bytes Utf8 at e h = absurd cc
  later-at bytes Text at e h = absurd cc
  later-at bytes Deep at e h = absurd cc
  later-at bytes Form at e h = h
  later-at bytes Limit at e h = h
  later-at bytes Double at e h = h
  later-at bytes Unknown at e h = h
  later-at bytes Order at e h = h
  later-at bytes «Type» at e h = h
  later-at bytes Remember at e h = h
  later-at bytes Actor at e h = h

  -- The refusal of a refused forest, as the parser computes it.
  pub refused_is : (bytes : List ℕ) (fault : Fault) (h : IsRefused threads bytes fault)
      → refusal threads (length bytes) h.forest ≡ Some (Bad fault)
  refused_is bytes fault h = ap (reading_refusal threads (least (oversized_script_offsets h.forest)))
      (sym (answer_one (length bytes) h.forest h.answer h.by_forms)) ∙ h.refused

  -- A rejected forest is rejected with a fault of the bytes.
  pub refused-fault : (bytes : List ℕ) (f : Forest) (fault : Fault) → Spells bytes f → list_nesting f ≤ 100
      → refusal threads (length bytes) f ≡ Some (Bad fault) → IsFault threads bytes fault
  refused-fault bytes f fault spelled shallow e =
      later-at bytes fault.kind fault.at
      (later-reading (least (oversized_script_offsets f)) (text_answer (length bytes) f) fault e)
      (record {
        forest = f;
        spelled = spelled;
        shallow = shallow;
        answer = text_answer (length bytes) f;
        by_forms = answer_is (length bytes) f;
        refused = e;
      })

module _ {T : Type 0} (threads : Bool) (bytes : List ℕ) (r : Result T TextStop)
    (told : (s : TextStop) → s ≢ stop.NoMemory → Cause bytes s → (r ≡ Err s) ⊎ (r ≡ Err stop.NoMemory)) where
  told-as : (t s : TextStop) → r ≡ Err t → s ≢ stop.NoMemory → Cause bytes s
      → (text_end t ≡ text_end s) ⊎ (text_end t ≡ NoMemory)
  told-as t s is other cause = elim (told s other cause) [
    | inl e ↦ let same : t ≡ s = cc in inl (ap text_end same)
    | inr e ↦ let same : t ≡ stop.NoMemory = cc in inr (ap text_end same)
  ]

  unread : (t : TextStop) (fault : Fault) → (t ≢ stop.NoMemory → (f : Forest) → Spells bytes f → list_nesting f ≤ 100 → ⊥)
      → IsRefused threads bytes fault → (text_end t ≡ Bad fault) ⊎ (text_end t ≡ NoMemory)
  unread t fault never h = inr (ended t (λ other. never other h.forest h.spelled h.shallow))

  stopped-at : (t : TextStop) → r ≡ Err t → (t ≢ stop.NoMemory → (f : Forest) → Spells bytes f → list_nesting f ≤ 100 → ⊥)
      → (kind : FaultKind) (at : ℕ) → IsFaultAt threads bytes at kind →
      (text_end t ≡ Bad (record { kind = kind; at = at })) ⊎ (text_end t ≡ NoMemory)
  stopped-at t is never Utf8 at cause = told-as t (stop.NotUtf8 at) is (λ e. absurd cc) cause
  stopped-at t is never Text at cause = told-as t (stop.Bad at) is (λ e. absurd cc) cause
  stopped-at t is never Deep at cause = told-as t (stop.TooDeep at) is (λ e. absurd cc) cause
  stopped-at t is never Form at h = unread t _ never h
  stopped-at t is never Limit at h = unread t _ never h
  stopped-at t is never Double at h = unread t _ never h
  stopped-at t is never Unknown at h = unread t _ never h
  stopped-at t is never Order at h = unread t _ never h
  stopped-at t is never «Type» at h = unread t _ never h
  stopped-at t is never Remember at h = unread t _ never h
  stopped-at t is never Actor at h = unread t _ never h

  -- If the tree parser stopped, any fault is the one that it reports, unless it is out of memory.
  pub stopped : (t : TextStop) → r ≡ Err t → (t ≢ stop.NoMemory → (f : Forest) → Spells bytes f → list_nesting f ≤ 100 → ⊥)
      → (fault : Fault) → IsFault threads bytes fault →
      (text_end t ≡ Bad fault) ⊎ (text_end t ≡ NoMemory)
  stopped t is never fault h = stopped-at t is never fault.kind fault.at h

  read-at : (x : T) → r ≡ Ok x → (kind : FaultKind) (at : ℕ) → IsFaultAt threads bytes at kind
      → IsRefused threads bytes (record { kind = kind; at = at })
  read-at x is Utf8 at cause =
      elim (told (stop.NotUtf8 at) (λ e. absurd cc) cause) [ inl e ↦ absurd cc | inr e ↦ absurd cc ]
  read-at x is Text at cause =
      elim (told (stop.Bad at) (λ e. absurd cc) cause) [ inl e ↦ absurd cc | inr e ↦ absurd cc ]
  read-at x is Deep at cause =
      elim (told (stop.TooDeep at) (λ e. absurd cc) cause) [ inl e ↦ absurd cc | inr e ↦ absurd cc ]
  read-at x is Form at h = h
  read-at x is Limit at h = h
  read-at x is Double at h = h
  read-at x is Unknown at h = h
  read-at x is Order at h = h
  read-at x is «Type» at h = h
  read-at x is Remember at h = h
  read-at x is Actor at h = h

  -- If the bytes were parsed into trees, any fault is that of their forest.
  pub read-fault : (x : T) → r ≡ Ok x → (f : Forest) → Spells bytes f → (fault : Fault) → IsFault threads bytes fault
      → refusal threads (length bytes) f ≡ Some (Bad fault)
  read-fault x is f spelled fault h =
      let refused = read-at x is fault.kind fault.at h in
      ap (refusal threads (length bytes)) (spells_one bytes f refused.forest spelled refused.spelled)
      ∙ refused_is threads bytes fault refused

-- The reported fault is the fault of the forest, unless the process is out of memory.
pub answered : {T : Type 0} (r : Result T TextEnd) (o : Option TextEnd) (fault : Fault) → OnOk r (o ≡ None)
    → ((g : Fault) → r ≡ Err (Bad g) → o ≡ Some (Bad g)) → o ≡ Some (Bad fault) →
    (r ≡ Err (Bad fault)) ⊎ (r ≡ Err NoMemory)
answered (Ok x) o fault fine bad e = absurd cc
answered (Err (Bad g)) o fault fine bad e =
    let told = bad g refl in let same : g ≡ fault = cc in inl (ap (λ (f : Fault). Err (Bad f)) same)
answered (Err NoMemory) o fault fine bad e = inr refl
