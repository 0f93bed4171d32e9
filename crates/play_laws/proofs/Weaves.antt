-- The lines of a woven history tell whose call each is, and so the history.
use Rattle.std.proofs.Common.{◌≡◌, ℕ, ◌<◌, ◌==◌, Bool, true, false, List, [], ◌∷◌, ◌++◌, codes, refl, sym, ap, ◌∙◌, subst, cond, inl, inr, arith, append_assoc, if◌then◌else◌}
use Rattle.std.proofs.lemmas.Bool.{cases_lt}
use Rattle.std.proofs.lemmas.Bool.Decides.{eqb_tells}
use Rattle.std.proofs.lemmas.Grind.{flat_map-append}
use Rattle.std.proofs.lemmas.List.{append_cancel_left}
use Rattle.std.specs.List.{flat_map}
use Rattle.lang_ast.specs.Terms.{Func}
use Rattle.snap_policy.specs.declared.policy.BuiltIn.{BuiltIn}
use Rattle.snap_policy.specs.Table.{table}
use Rattle.snap_api.specs.declared.data.Entry.{Entry}
use Rattle.snap_api.specs.World.{World, History, IsLegal, call}
use Rattle.snap_shared.specs.SharedCalls.{own_calls}
use Rattle.script_lang.specs.Lines.{LineStyle, Standing, actor_name, request_text, reply_text, lines_at, lines, next, standing_after, ends_frame, frame_lines, frame_at}
use Rattle.play_laws.specs.Woven.{ActorState, SpellsAll, IsWoven}
use Rattle.play_laws.specs.FirstParts.{state_given}
use Rattle.play_laws.specs.Laws.{HasNoColon, AreActorNames, text_of, LinesTellTheHistory, TextGoesOn}
use Rattle.play_laws.proofs.Callers.{own_calls-first, own_calls-skip}
use Rattle.play_laws.proofs.Lists.{head_or, tail_of}
use Rattle.play_laws.proofs.Steps.{spells_after, one_request}

-- Names without a colon end at the first one.
ends_at_colon : (xs ys a b : List ℕ) → HasNoColon xs → HasNoColon ys → xs ++ 58 ∷ a ≡ ys ++ 58 ∷ b → xs ≡ ys
ends_at_colon [] [] a b m n e = refl
ends_at_colon [] (y ∷ ys) a b m n e = absurd (n.0 (sym (ap (λ l. head_or 0 l) e)))
ends_at_colon (x ∷ xs) [] a b m n e = absurd (m.0 (ap (λ l. head_or 0 l) e))
ends_at_colon (x ∷ xs) (y ∷ ys) a b m n e =
    let rest = ends_at_colon xs ys a b m.1 n.1 (ap tail_of e) in
    let first : x ≡ y = ap (λ l. head_or 0 l) e in
    λ i. first i ∷ rest i

not_empty : (xs a : List ℕ) → [] ≡ xs ++ 58 ∷ a → ⊥
not_empty [] a e = cc
not_empty (x ∷ xs) a e = cc

module _ (n : ℕ) where
  -- The actors after a call of one of them was answered.
  abbrev pub next_actors : (ℕ → ActorState) → Entry → ℕ → ActorState
  next_actors actors e a =
      cond (a == e.caller) (state_given (actors e.caller).notes (actors e.caller).left (e.reply ∷ [])) (actors a)

  pub within : (actors : ℕ → ActorState) (e : Entry) (es : History) → IsWoven n actors (e ∷ es) → e.caller < n
  within actors e es w = elim (cases_lt e.caller n) [
    | inl h ↦ h
    | inr h ↦ let none : e ∷ own_calls e.caller es ≡ [] = sym (own_calls-first e es) ∙ w.others e.caller h in absurd cc
  ]

  pub first_call : (actors : ℕ → ActorState) (e : Entry) (es : History) → IsWoven n actors (e ∷ es)
      → SpellsAll (actors e.caller) (e ∷ own_calls e.caller es)
  first_call actors e es w = subst (λ (l : History). SpellsAll (actors e.caller) l) (own_calls-first e es)
      (w.each e.caller (within actors e es w))

  pub later : (actors : ℕ → ActorState) (e : Entry) (es : History) → IsWoven n actors (e ∷ es)
      → IsWoven n (next_actors actors e) es
  later actors e es w =
      let now = state_given (actors e.caller).notes (actors e.caller).left (e.reply ∷ []) in record {
        each = λ a h. elim (eqb_tells a e.caller) [
          | inl same ↦
              subst (λ (s : ActorState). SpellsAll s (own_calls a es)) (ap (λ b. cond b now (actors a)) (sym same.0))
              (subst (λ (x : ℕ). SpellsAll now (own_calls x es)) (sym same.1)
              (spells_after (actors e.caller).notes (actors e.caller).left e (own_calls e.caller es)
              (first_call actors e es w)))
          | inr other ↦
              subst (λ (s : ActorState). SpellsAll s (own_calls a es)) (ap (λ b. cond b now (actors a)) (sym other.0))
              (subst (λ (l : History). SpellsAll (actors a) l) (own_calls-skip e es a (λ q. other.1 (sym q)))
              (w.each a h))
        ];
        others = λ a far.
            let under = within actors e es w in
            sym (own_calls-skip e es a (λ q. omega (arith, under, far, q))) ∙ w.others a far;
      }

  module _ (style : LineStyle) (functions : List Func) (names : AreActorNames n (actor_name style.titles.actors)) where
    -- The bytes of one call.
    abbrev bytes_at : Standing → Entry → List ℕ
    bytes_at s e = flat_map (λ l. l) (lines_at style functions s e)

    text_is : (s : Standing) (e : Entry) (es : History)
        → text_of style functions s (e ∷ es) ≡ bytes_at s e ++ text_of style functions (next functions s e) es
    text_is s e es =
        flat_map-append (λ l. l) (lines_at style functions s e) (lines style functions (next functions s e) es)

    -- The name is first, and then comes the colon.
    front : (name a b c d rest : List ℕ)
        → ((((name ++ 58 ∷ 32 ∷ []) ++ a) ++ b) ++ c) ++ d ++ rest ≡ name ++ 58 ∷ (((32 ∷ a ++ b) ++ c) ++ d ++ rest)
    front [] a b c d rest = refl
    front (x ∷ name) a b c d rest = ap (λ l. x ∷ l) (front name a b c d rest)

    named : (s : Standing) (e : Entry) (es : History)
        → (rest : List ℕ) × (text_of style functions s (e ∷ es) ≡ actor_name style.titles.actors e.caller ++ 58 ∷ rest)
    named s e es = (
      _,
      front (actor_name style.titles.actors e.caller) (request_text style.titles.states e.request) (codes " = ") (reply_text style.titles e.reply) (10 ∷ [])
          (flat_map (λ l. l) ((if ends_frame s.frames e.request
          then frame_lines style.flags s.kept (frame_at functions s e) else [])
          ++ lines style functions (next functions s e) es)),
    )

    next_world : (s : Standing) (e : Entry) → (next functions s e).world ≡ (call table s.world e.caller e.request).0
    next_world s e = by (ends_frame s.frames e.request) _ _ refl refl where
      by : (b : Bool) (one other : Standing) → one.world ≡ (call table s.world e.caller e.request).0
          → other.world ≡ (call table s.world e.caller e.request).0 →
          (cond {A = Standing} b one other).world ≡ (call table s.world e.caller e.request).0
      by true one other m n = m
      by false one other m n = n

    same_entry : (d e : Entry) → d.caller ≡ e.caller → d.request ≡ e.request → d.reply ≡ e.reply → d ≡ e
    same_entry d e c q r = λ i. record { caller = c i; request = q i; reply = r i }

    first_is : (s : Standing) (actors : ℕ → ActorState) (x y : Entry) (h k : History) → IsLegal table s.world (x ∷ h)
        → IsLegal table s.world (y ∷ k) → IsWoven n actors (x ∷ h) → IsWoven n actors (y ∷ k)
        → text_of style functions s (x ∷ h) ≡ text_of style functions s (y ∷ k) → x ≡ y
    first_is s actors x y h k lh lk wh wk e =
        let bx = within actors x h wh in
        let by = within actors y k wk in
        let one = named s x h in
        let two = named s y k in
        let same = ends_at_colon (actor_name style.titles.actors x.caller) (actor_name style.titles.actors y.caller)
        one.0 two.0 (names.plain x.caller bx) (names.plain y.caller by) (sym one.1 ∙ e ∙ two.1) in
        let callers : x.caller ≡ y.caller = names.distinct x.caller y.caller bx by same in
        let first = subst (λ (c : ℕ). SpellsAll (actors c) (x ∷ own_calls x.caller h)) callers
        (first_call actors x h wh) in
        let requests : x.request ≡ y.request =
        one_request (actors y.caller).notes (actors y.caller).left x y (own_calls x.caller h) (own_calls y.caller k)
        first (first_call actors y k wk) in
        let replies : x.reply ≡ y.reply = sym lh.0 ∙ (λ i. (call table s.world (callers i) (requests i)).1) ∙ lk.0 in
        same_entry x y callers requests replies

    tells : (s : Standing) (actors : ℕ → ActorState) (h k : History) → IsLegal table s.world h → IsLegal table s.world k
        → IsWoven n actors h → IsWoven n actors k → text_of style functions s h ≡ text_of style functions s k → h ≡ k
    tells s actors [] [] lh lk wh wk e = refl
    tells s actors [] (y ∷ k) lh lk wh wk e =
        let two = named s y k in absurd (not_empty (actor_name style.titles.actors y.caller) two.0 (e ∙ two.1))
    tells s actors (x ∷ h) [] lh lk wh wk e =
        let one = named s x h in absurd (not_empty (actor_name style.titles.actors x.caller) one.0 (sym e ∙ one.1))
    tells s actors (x ∷ h) (y ∷ k) lh lk wh wk e =
        let same : x ≡ y = first_is s actors x y h k lh lk wh wk e in
        let lk' : IsLegal table s.world (x ∷ k) = subst (λ (z : Entry). IsLegal table s.world (z ∷ k)) (sym same) lk in
        let wk' : IsWoven n actors (x ∷ k) = subst (λ (z : Entry). IsWoven n actors (z ∷ k)) (sym same) wk in
        let left : bytes_at s x ++ text_of style functions (next functions s x) h ≡ bytes_at s x ++ text_of style functions (next functions s x) k =
        sym (text_is s x h) ∙ e ∙ ap (λ (z : Entry). text_of style functions s (z ∷ k)) (sym same) ∙ text_is s x k in
        let more = tells (next functions s x) (next_actors actors x) h k
        (subst (λ (w : World BuiltIn). IsLegal table w h) (sym (next_world s x)) lh.1)
        (subst (λ (w : World BuiltIn). IsLegal table w k) (sym (next_world s x)) lk'.1)
        (later actors x h wh) (later actors x k wk') (append_cancel_left (bytes_at s x) _ _ left) in
        λ i. same i ∷ more i

pub lines_tell_the_history : LinesTellTheHistory
lines_tell_the_history style functions n names s actors h k lh lk wh wk e =
    tells n style functions names s actors h k lh lk wh wk e

pub text_goes_on : TextGoesOn
text_goes_on style functions s [] more = refl
text_goes_on style functions s (e ∷ es) more =
    let here = lines_at style functions s e in
    let now = next functions s e in
    flat_map-append (λ l. l) here (lines style functions now (es ++ more))
    ∙ ap (λ l. flat_map (λ l. l) here ++ l) (text_goes_on style functions now es more)
    ∙ sym (append_assoc (flat_map (λ l. l) here) (text_of style functions now es)
    (text_of style functions (standing_after functions now es) more))
    ∙ ap (λ l. l ++ text_of style functions (standing_after functions now es) more)
    (sym (flat_map-append (λ l. l) here (lines style functions now es)))
