-- The history of a run is the one that its steps spell.
use Rattle.std.proofs.Common.{◌≡◌, ℕ, List, [], ◌∷◌, Option, Some, None, refl, sym, ap}
use Rattle.snap_policy.specs.declared.policy.BuiltIn.{BuiltIn}
use Rattle.snap_policy.specs.Table.{table}
use Rattle.snap_api.specs.declared.data.Request.{Request}
use Rattle.snap_api.specs.declared.data.Reply.{Reply}
use Rattle.snap_api.specs.World.{World, History, IsLegal, call}
use Rattle.lang_script.specs.StepCalls.{Notes, ActorPart, request_of, notes_after, entry, sequential}
use Rattle.lang_script.specs.StepLaws.{BeginsWith, Spells, SequentialIsSpelled, SequentialIsTheOnly}

module _ (w : World BuiltIn) (n : Notes) (p : ActorPart) (more : List ActorPart) where
  -- The history after this part, by the part's request.
  abbrev then : Option Request → History
  then o = elim o [
    | None ↦ sequential w n more
    | Some q ↦ entry w p.actor q ∷ sequential (call table w p.actor q).0 (notes_after n p.part
        (call table w p.actor q).1) more
  ]

  -- What such a history must begin with.
  abbrev Then : Option Request → History → Type 0
  Then o h = elim o [
    | None ↦ Spells n more h
    | Some q ↦ BeginsWith p.actor q (λ r es. Spells (notes_after n p.part r) more es) h
  ]

  then_spelled : (o : Option Request) → IsLegal table w (sequential w n more) × Spells n more (sequential w n more) →
      ((v : World BuiltIn) (m : Notes) → IsLegal table v (sequential v m more) × Spells m more (sequential v m more)) →
      IsLegal table w (then o) × Then o (then o)
  then_spelled None here next = here
  then_spelled (Some q) here next =
      let s = next (call table w p.actor q).0 (notes_after n p.part (call table w p.actor q).1) in
      ((refl, s.0), (refl, refl, s.1))

  -- A history that begins with a request of an actor.
  first_is : (q : Request) (es : History) (a : ℕ) (r : Request) (y : Reply) → a ≡ p.actor → r ≡ q
      → (call table w a r).1 ≡ y →
      es ≡ sequential (call table w a r).0 (notes_after n p.part y) more →
      record { caller = a; request = r; reply = y } ∷ es
      ≡ entry w p.actor q ∷ sequential (call table w p.actor q).0 (notes_after n p.part (call table w p.actor q).1)
      more
  first_is q es a r y here asked answered rest =
      rw (sym here) (rw (sym asked) (rw answered (ap (λ t. record { caller = a; request = r; reply = y } ∷ t) rest)))

  then_only : (o : Option Request) (h : History) → IsLegal table w h → Then o h →
      ((v : World BuiltIn) (m : Notes) (es : History) → IsLegal table v es → Spells m more es
      → es ≡ sequential v m more) → h ≡ then o
  then_only None h legal spells rest = rest w n h legal spells
  then_only (Some q) [] legal spells rest = absurd spells
  then_only (Some q) (e ∷ es) legal spells rest =
      first_is q es e.caller e.request e.reply spells.0 spells.1 legal.0
      (rest (call table w e.caller e.request).0 (notes_after n p.part e.reply) es legal.1 spells.2)

pub spelled : SequentialIsSpelled
spelled w n [] = (tt, refl)
spelled w n (p ∷ more) = then_spelled w n p more (request_of n p.part) (spelled w n more) (λ v m. spelled v m more)

pub only : SequentialIsTheOnly
only w n [] h legal spells = spells
only w n (p ∷ more) h legal spells =
    then_only w n p more (request_of n p.part) h legal spells (λ v m es l s. only v m more es l s)
