-- Bytes have at most one fault, and bytes with a fault are not a source text.
use Rattle.std.proofs.Common.{Bool, ◌≡◌, ◌≢◌, ◌⊎◌, ℕ, List, Some, refl, sym, ap, ◌∙◌, length, inl, inr}
use Rattle.sexp_text.proofs.Complete.{spells_one}
use Rattle.sexp_text.proofs.Causes.{no_cause, same_cause}
use Rattle.sexp_text.specs.TextFaults.{Cause}
use Rattle.sexp_text.specs.declared.stop.TextStop.{TextStop}
use Rattle.sexp_text.specs.declared.stop.TextStop.TheVariants as stop
use Rattle.play_core.specs.StageFaults.{text_end}
use Rattle.play_core.specs.Faults.{IsFaultAt, IsFault, IsRefused}
use Rattle.play_core.specs.ParserRefusal.{refusal}
use Rattle.play_core.specs.Texts.{IsNoText}
use Rattle.play_core.proofs.Refusals.{refused_is}
use Rattle.play_core.specs.declared.fault.Fault.{Fault}
use Rattle.play_core.specs.declared.fault.FaultKind.{FaultKind}
use Rattle.play_core.specs.declared.fault.FaultKind.TheVariants.{Utf8, Text, Deep, Form, Limit, Double, Unknown, Order, «Type», Remember, Actor}
use Rattle.play_core.specs.declared.text.TextEnd.TheVariants.{Bad}
use Rattle.play_core.proofs.Uniques.{refused_none}

-- The tree parser stops for this fault.
record Stops (bytes : List ℕ) (fault : Fault) : Type 0 where
  pub stopped : TextStop
  pub cause : Cause bytes stopped
  pub known : stopped ≢ stop.NoMemory
  pub reports : text_end stopped ≡ Bad fault

module _ (threads : Bool) where
  -- A fault is one of the tree parser, or one of the forest.
  split : (bytes : List ℕ) (kind : FaultKind) (at : ℕ) → IsFaultAt threads bytes at kind
      → Stops bytes (record { kind = kind; at = at }) ⊎ IsRefused threads bytes (record { kind = kind; at = at })
  split bytes Utf8 at h = inl (record { stopped = stop.NotUtf8 at; cause = h; known = λ e. absurd cc; reports = refl })
  split bytes Text at h = inl (record { stopped = stop.Bad at; cause = h; known = λ e. absurd cc; reports = refl })
  split bytes Deep at h = inl (record { stopped = stop.TooDeep at; cause = h; known = λ e. absurd cc; reports = refl })
  split bytes Form at h = inr h
  split bytes Limit at h = inr h
  split bytes Double at h = inr h
  split bytes Unknown at h = inr h
  split bytes Order at h = inr h
  split bytes «Type» at h = inr h
  split bytes Remember at h = inr h
  split bytes Actor at h = inr h

same-stop : (bytes : List ℕ) (f g : Fault) → Stops bytes f → Stops bytes g → f ≡ g
same-stop bytes f g a b =
    let same = same_cause bytes a.stopped b.stopped a.cause b.cause a.known b.known in
    let e : Bad f ≡ Bad g = sym a.reports ∙ ap text_end same ∙ b.reports in
    cc

module _ (threads : Bool) where
  same-refused : (bytes : List ℕ) (f g : Fault) → IsRefused threads bytes f → IsRefused threads bytes g → f ≡ g
  same-refused bytes f g a b =
      let e : Some (Bad f) ≡ Some (Bad g) = sym (refused_is threads bytes f a)
      ∙ ap (refusal threads (length bytes)) (spells_one bytes a.forest b.forest a.spelled b.spelled)
      ∙ refused_is threads bytes g b in
      cc

  -- The tree parser does not stop at bytes that it parses.
  apart : {P : Type 0} (bytes : List ℕ) (f g : Fault) → Stops bytes f → IsRefused threads bytes g → P
  apart bytes f g a b = absurd (no_cause bytes a.stopped b.forest a.cause a.known b.spelled b.shallow)

  pub one_fault : (bytes : List ℕ) (f g : Fault) → IsFault threads bytes f → IsFault threads bytes g → f ≡ g
  one_fault bytes f g a b = elim (split threads bytes f.kind f.at a) [
    | inl s ↦ elim (split threads bytes g.kind g.at b) [ inl t ↦ same-stop bytes f g s t | inr t ↦ apart bytes f g s t ]
    | inr s ↦ elim (split threads bytes g.kind g.at b) [
      | inl t ↦ apart bytes g f t s
      | inr t ↦ same-refused bytes f g s t
    ]
  ]

  pub faulty_is_no_text : (bytes : List ℕ) (fault : Fault) → IsFault threads bytes fault → IsNoText threads bytes
  faulty_is_no_text bytes fault h t text = elim (split threads bytes fault.kind fault.at h) [
    | inl s ↦ no_cause bytes s.stopped text.forest s.cause s.known text.spelled text.shallow
    | inr s ↦ refused_none threads bytes s.forest (Bad fault) s.spelled (refused_is threads bytes fault s) t text
  ]
