-- The calls that an actor's steps make.
use Rattle.std.proofs.Common.{◌≡◌, List, [], ◌∷◌, ◌++◌, map, refl, sym, ap, ◌∙◌, subst, Option, Some, None, append-nil}
use Rattle.snap_api.specs.declared.data.Entry.{Entry}
use Rattle.snap_api.specs.declared.data.Reply.{Reply}
use Rattle.snap_api.specs.declared.data.Request.{Request}
use Rattle.snap_api.specs.World.{History}
use Rattle.lang_script.specs.StepCalls.{Notes, ActorPart, request_of, notes_after}
use Rattle.lang_script.specs.StepLaws.{BeginsWith, Spells}
use Rattle.play_laws.specs.Woven.{ActorState, SpellsAll}
use Rattle.play_laws.specs.FirstParts.{replies_of, calls_given, state_given}
use Rattle.play_laws.specs.Laws.{NothingIsSpelled, CallIsSpelled, PartIsPassed, AllIsSpelled}
use Rattle.play_laws.proofs.Lists.{head_or, tail_of}
use Rattle.snap_shared.proofs.SplitSeats.{map-snoc}

-- What the calls of parts must be, by the first part's request.
abbrev BeginsPart : Notes → ActorPart → List ActorPart → Option Request → History → Type 0
BeginsPart n p ps o h = elim o [
  | None ↦ Spells n ps h
  | Some q ↦ BeginsWith p.actor q (λ r es. Spells (notes_after n p.part r) ps es) h
]

-- The state of an actor whose first part has this request.
abbrev pub state_at_part : Notes → ActorPart → List ActorPart → Option Request → ActorState
state_at_part n p ps o = elim o [ None ↦ state_given n ps [] | Some q ↦ record { notes = n; left = p ∷ ps } ]

-- The state of an actor after a reply to its first part, or to a later one if that makes no call, and further replies.
abbrev pub state_after_reply : Notes → ActorPart → List ActorPart → Reply → List Reply → Option Request → ActorState
state_after_reply n p ps r rs o =
    elim o [ None ↦ state_given n ps (r ∷ rs) | Some q ↦ state_given (notes_after n p.part r) ps rs ]

pub spells_passed : (n : Notes) (parts : List ActorPart) (more : History) → Spells n parts more
    → SpellsAll (state_given n parts []) more
spells_passed n [] more s = s
spells_passed n (p ∷ ps) more s = by (request_of n p.part) (spells_passed n ps more) s where
  by : (o : Option Request) → (Spells n ps more → SpellsAll (state_given n ps []) more) → BeginsPart n p ps o more
      → SpellsAll (state_at_part n p ps o) more
  by None rest now = rest now
  by (Some q) rest now = s

pub passed_spells : (n : Notes) (parts : List ActorPart) (more : History) → SpellsAll (state_given n parts []) more
    → Spells n parts more
passed_spells n [] more s = s
passed_spells n (p ∷ ps) more s = by (request_of n p.part) refl (passed_spells n ps more) s where
  by : (o : Option Request) → request_of n p.part ≡ o → (SpellsAll (state_given n ps []) more → Spells n ps more)
      → SpellsAll (state_at_part n p ps o) more → Spells n (p ∷ ps) more
  by None e rest now = subst (λ (o : Option Request). BeginsPart n p ps o more) (sym e) (rest now)
  by (Some q) e rest now = now

-- The calls of a first part, and then all that the rest makes.
pub spelled_on : (n : Notes) (parts : List ActorPart) (h more : History) → h ≡ calls_given n parts (replies_of h)
    → SpellsAll (state_given n parts (replies_of h)) more → Spells n parts (h ++ more)
spelled_on n [] [] more e s = s
spelled_on n [] (x ∷ h) more e s = absurd cc
spelled_on n (p ∷ ps) [] more e s = passed_spells n (p ∷ ps) more s
spelled_on n (p ∷ ps) (x ∷ h) more e s =
    by (request_of n p.part) (spelled_on n ps (x ∷ h) more) (λ m. spelled_on m ps h more) e s where
      by : (o : Option Request) → (x ∷ h ≡ calls_given n ps (x.reply ∷ replies_of h)
          → SpellsAll (state_given n ps (x.reply ∷ replies_of h)) more → Spells n ps (x ∷ (h ++ more))) →
          ((m : Notes) → h ≡ calls_given m ps (replies_of h) → SpellsAll (state_given m ps (replies_of h)) more
          → Spells m ps (h ++ more)) →
          x ∷ h ≡ elim o [
            | None ↦ calls_given n ps (x.reply ∷ replies_of h)
            | Some q ↦ record {
              caller = p.actor;
              request = q;
              reply = x.reply;
            } ∷ calls_given (notes_after n p.part x.reply) ps (replies_of h)
          ] →
          SpellsAll (state_after_reply n p ps x.reply (replies_of h) o) more →
          BeginsPart n p ps o (x ∷ (h ++ more))
      by None same rest is now = same is now
      by (Some q) same rest is now =
          let first = ap (λ l. head_or x l) is in (
            ap (λ (y : Entry). y.caller) first,
            ap (λ (y : Entry). y.request) first,
            rest (notes_after n p.part x.reply) (ap tail_of is) now,
          )

-- What is left after the first call.
pub spells_after : (n : Notes) (parts : List ActorPart) (x : Entry) (xs : History) → Spells n parts (x ∷ xs)
    → SpellsAll (state_given n parts (x.reply ∷ [])) xs
spells_after n [] x xs s = absurd cc
spells_after n (p ∷ ps) x xs s = by (request_of n p.part) (spells_after n ps x xs) s where
  by : (o : Option Request) → (Spells n ps (x ∷ xs) → SpellsAll (state_given n ps (x.reply ∷ [])) xs)
      → BeginsPart n p ps o (x ∷ xs) →
      SpellsAll (state_after_reply n p ps x.reply [] o) xs
  by None rest now = rest now
  by (Some q) rest now = spells_passed (notes_after n p.part x.reply) ps xs now.2

-- An actor has one next request.
pub one_request : (n : Notes) (parts : List ActorPart) (x y : Entry) (xs ys : History) → Spells n parts (x ∷ xs)
    → Spells n parts (y ∷ ys) → x.request ≡ y.request
one_request n [] x y xs ys s t = absurd cc
one_request n (p ∷ ps) x y xs ys s t = by (request_of n p.part) (one_request n ps x y xs ys) s t where
  by : (o : Option Request) → (Spells n ps (x ∷ xs) → Spells n ps (y ∷ ys) → x.request ≡ y.request)
      → BeginsPart n p ps o (x ∷ xs) → BeginsPart n p ps o (y ∷ ys) → x.request ≡ y.request
  by None rest one two = rest one two
  by (Some q) rest one two = one.1 ∙ sym two.1

-- Without a reply there is no call.
no_calls : (n : Notes) (parts : List ActorPart) → calls_given n parts [] ≡ []
no_calls n [] = refl
no_calls n (p ∷ ps) = refl

pub nothing_is_spelled : NothingIsSpelled
nothing_is_spelled s = (sym (no_calls s.notes s.left), refl)

-- The state after one reply more.
state-snoc : (n : Notes) (parts : List ActorPart) (rs : List Reply) (r : Reply)
    → state_given n parts (rs ++ r ∷ [])
    ≡ state_given (state_given n parts rs).notes (state_given n parts rs).left (r ∷ [])
state-snoc n [] rs r = refl
state-snoc n (p ∷ ps) [] r = by (request_of n p.part) refl (state-snoc n ps [] r) where
  by : (o : Option Request) → request_of n p.part ≡ o
      → state_given n ps (r ∷ []) ≡ state_given (state_given n ps []).notes (state_given n ps []).left (r ∷ []) →
      state_given n (p ∷ ps) (r ∷ [])
      ≡ state_given (state_at_part n p ps o).notes (state_at_part n p ps o).left (r ∷ [])
  by None e rest = ap (state_after_reply n p ps r []) e ∙ rest
  by (Some q) e rest = refl
state-snoc n (p ∷ ps) (x ∷ rs) r =
    by (request_of n p.part) (state-snoc n ps (x ∷ rs) r) (λ m. state-snoc m ps rs r) where
      by : (o : Option Request) → state_given n ps (x ∷ (rs ++ r ∷ []))
          ≡ state_given (state_given n ps (x ∷ rs)).notes (state_given n ps (x ∷ rs)).left (r ∷ []) →
          ((m : Notes) → state_given m ps (rs ++ r ∷ [])
          ≡ state_given (state_given m ps rs).notes (state_given m ps rs).left (r ∷ [])) →
          state_after_reply n p ps x (rs ++ r ∷ []) o
          ≡ state_given (state_after_reply n p ps x rs o).notes (state_after_reply n p ps x rs o).left (r ∷ [])
      by None same rest = same
      by (Some q) same rest = rest (notes_after n p.part x)

-- The calls with one reply more.
calls-snoc : (n : Notes) (parts : List ActorPart) (rs : List Reply) (r : Reply)
    → calls_given n parts (rs ++ r ∷ [])
    ≡ calls_given n parts rs ++ calls_given (state_given n parts rs).notes (state_given n parts rs).left (r ∷ [])
calls-snoc n [] rs r = refl
calls-snoc n (p ∷ ps) [] r = by (request_of n p.part) refl (calls-snoc n ps [] r) where
  by : (o : Option Request) → request_of n p.part ≡ o
      → calls_given n ps (r ∷ []) ≡ calls_given n ps []
      ++ calls_given (state_given n ps []).notes (state_given n ps []).left (r ∷ []) →
      calls_given n (p ∷ ps) (r ∷ [])
      ≡ calls_given (state_at_part n p ps o).notes (state_at_part n p ps o).left (r ∷ [])
  by None e rest =
      ap (λ (o : Option Request). elim o [
        | None ↦ calls_given n ps (r ∷ [])
        | Some q ↦ record { caller = p.actor; request = q; reply = r } ∷ calls_given (notes_after n p.part r) ps []
      ])
      e
      ∙ rest ∙ ap (λ l. l ++ calls_given (state_given n ps []).notes (state_given n ps []).left (r ∷ []))
      (no_calls n ps)
  by (Some q) e rest = refl
calls-snoc n (p ∷ ps) (x ∷ rs) r =
    by (request_of n p.part) (calls-snoc n ps (x ∷ rs) r) (λ m. calls-snoc m ps rs r) where
      by : (o : Option Request) → calls_given n ps (x ∷ (rs ++ r ∷ []))
          ≡ calls_given n ps (x ∷ rs) ++ calls_given (state_given n ps (x ∷ rs)).notes (state_given n ps
          (x ∷ rs)).left (r ∷ []) →
          ((m : Notes) → calls_given m ps (rs ++ r ∷ [])
          ≡ calls_given m ps rs ++ calls_given (state_given m ps rs).notes (state_given m ps rs).left (r ∷ [])) →
          elim o [
            | None ↦ calls_given n ps (x ∷ (rs ++ r ∷ []))
            | Some q ↦ record { caller = p.actor; request = q; reply = x } ∷ calls_given (notes_after n p.part x) ps
                (rs ++ r ∷ [])
          ]
          ≡ elim o [
            | None ↦ calls_given n ps (x ∷ rs)
            | Some q ↦ record { caller = p.actor; request = q; reply = x } ∷ calls_given (notes_after n p.part x) ps rs
          ]
          ++ calls_given (state_after_reply n p ps x rs o).notes (state_after_reply n p ps x rs o).left (r ∷ [])
      by None same rest = same
      by (Some q) same rest =
          ap (λ l. record { caller = p.actor; request = q; reply = x } ∷ l) (rest (notes_after n p.part x))

pub call_is_spelled : CallIsSpelled
call_is_spelled before h n p rest q r s asks =
    let e : Entry = record { caller = p.actor; request = q; reply = r } in
    let replies = map-snoc (λ (x : Entry). x.reply) h e in
    let then : ActorState = state_given before.notes before.left (replies_of h) in
    let here : state_at_part n p rest (Some q) ≡ then = ap (state_at_part n p rest) (sym asks) ∙ s.1 in
    let calls : calls_given then.notes then.left (r ∷ []) ≡ e ∷ [] =
    ap (λ (a : ActorState). calls_given a.notes a.left (r ∷ [])) (sym here)
    ∙ ap (λ (o : Option Request). elim o [
      | None ↦ calls_given n rest (r ∷ [])
      | Some x ↦ record { caller = p.actor; request = x; reply = r } ∷ calls_given (notes_after n p.part r) rest []
    ])
    asks
    ∙ ap (λ l. e ∷ l) (no_calls (notes_after n p.part r) rest) in
    let now : state_given then.notes then.left (r ∷ []) ≡ state_given (notes_after n p.part r) rest [] =
    ap (λ (a : ActorState). state_given a.notes a.left (r ∷ [])) (sym here)
    ∙ ap (state_after_reply n p rest r []) asks in (
      (λ i. s.0 i ++ sym calls i) ∙ sym (calls-snoc before.notes before.left (replies_of h) r)
          ∙ ap (calls_given before.notes before.left) (sym replies),
      sym now ∙ sym (state-snoc before.notes before.left (replies_of h) r)
          ∙ ap (state_given before.notes before.left) (sym replies),
    )

pub part_is_passed : PartIsPassed
part_is_passed before h n p rest s asks = (s.0, ap (state_at_part n p rest) (sym asks) ∙ s.1)

pub all_is_spelled : AllIsSpelled
all_is_spelled before h n s =
    let whole = spelled_on before.notes before.left h [] s.0 (subst (λ (a : ActorState). SpellsAll a []) s.1 refl) in
    subst (λ (l : History). SpellsAll before l) (append-nil h) whole
