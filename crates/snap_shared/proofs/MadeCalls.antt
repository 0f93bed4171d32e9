-- One call on the world by the seat that has the turn.
use Rattle.std.proofs.Common.{◌≡◌, ℕ, ◌<◌, Bool, true, false, List, [], ◌∷◌, ◌++◌, refl, ap, sym, subst, inl, inr, ◌∙◌, cond, Some, None, append-nil}
use Rattle.std.specs.Prelude.{Option}
use Rattle.std.specs.Bool.{MatchBool}
use mathlib.Core.Option as maybe
use lib.ListN.{get_elem?}
use Rattle.atomic_table.specs.Table.{Me, Allows, rest}
use Rattle.snap_policy.specs.Rules.{Rules}
use Rattle.snap_api.specs.Calls.{Calls, Logs, IsOwn, DisposesOwn, is_no_memory}
use Rattle.snap_api.specs.World.{World, IsLegal, world_after, call}
use Rattle.snap_api.specs.declared.data.Entry.{Entry}
use Rattle.snap_api.specs.declared.data.Refusal.TheVariants as refusal
use Rattle.snap_api.specs.declared.data.Reply.{Reply}
use Rattle.snap_api.specs.declared.data.Reply.TheVariants as reply
use Rattle.snap_api.specs.declared.data.Request.{Request}
use Rattle.snap_api.specs.declared.data.Request.TheVariants as request
use Rattle.snap_shared.specs.declared.rule.SeatState.{SeatState}
use Rattle.snap_shared.specs.SharedCalls.{own_calls, entries_added, ContinuesWith, SeesOwnCall, DisposesSeenOwn}
use Rattle.snap_shared.specs.SeatSteps.{HasTurn, CanReturn}
use Rattle.snap_shared.specs.Seats.{IsAtRest}
use Rattle.snap_shared.specs.Histories.{caller_of, StartsWith, IsLegalFrom, IsWorldAfter}
use Rattle.snap_shared.specs.StepResults.{GrowsByAtMostOne, AreCallsIn, ReturnsTurn}
use Rattle.snap_shared.specs.TurnRule.{IsKept, after_return, with_calls_in, occurrences, other_items}
use Rattle.snap_shared.proofs.ReturnedTurns.{returns_turn}
use Rattle.snap_shared.specs.HistoryEffects.{after_append}
use Rattle.snap_shared.proofs.OwnCalls.{own_new}
use Rattle.snap_shared.proofs.OwnSnapshots.{stays_own}
use Rattle.snap_shared.proofs.Prefixes.{calls_by-append}
use Rattle.snap_shared.proofs.Totals.{times_here}

pub append-cancel : {E : Type 0} (xs ys : List E) → xs ++ ys ≡ xs → ys ≡ []
append-cancel [] ys e = e
append-cancel (x ∷ xs) ys e = append-cancel xs ys (ap other_items e)

module _ {P : Type 0} (rules : Rules P) where
  pub legal-snoc : (w : World P) (xs : List Entry) (e : Entry) → IsLegal rules w xs
      → (call rules (world_after rules w xs) e.caller e.request).1 ≡ e.reply → IsLegal rules w (xs ++ e ∷ [])
  legal-snoc w [] e l h = (h, tt)
  legal-snoc w (x ∷ xs) e l h = (l.0, legal-snoc (call rules w x.caller x.request).0 xs e l.1 h)

  pub after-snoc : (w : World P) (xs : List Entry) (e : Entry)
      → world_after rules w (xs ++ e ∷ []) ≡ (call rules (world_after rules w xs) e.caller e.request).0
  after-snoc w [] e = refl
  after-snoc w (x ∷ xs) e = after-snoc (call rules w x.caller x.request).0 xs e

module _ {W P : Type 0} (rules : Rules P) (stands : W → World P → Type 0) (log_of : W → Option (List Entry)) where
  abbrev M : Type 0
  M = Me (Option W) (SeatState W Entry)

  module _ (old new : W) (log : List Entry) (number : ℕ) (request : Request) where
    abbrev entry : Reply → Entry
    entry r = record { caller = number; request = request; reply = r }

    abbrev Step : Reply → Bool → Type 0
    Step r b = MatchBool b
        ((log_of new ≡ Some log) × ((w : World P) → stands old w → stands new w))
        ((log_of new ≡ Some (log ++ entry r ∷ []))
        × ((w : World P) → stands old w
        → (r ≡ (call rules w number request).1) × stands new (call rules w number request).0))

    step_of : (r : Reply) → Logs (Some log) (log_of new) number request r
        → Calls rules (stands old) (stands new) number request r → Step r (is_no_memory r)
    step_of (reply.Refused refusal.NoMemory) l c = (l, c)
    step_of r l c = (l, c)

    abbrev later : Reply → Bool → List Entry
    later r b = log ++ cond b [] (entry r ∷ [])

    log_by : (r : Reply) (b : Bool) → Step r b → log_of new ≡ Some (later r b)
    log_by r true s = s.0 ∙ ap (λ (l : List Entry). Some l) (sym (append-nil log))
    log_by r false s = s.0

    grows_by : (r : Reply) (b : Bool) → GrowsByAtMostOne caller_of number log (later r b)
    grows_by r true = inl (append-nil log)
    grows_by r false = inr (entry r, refl, refl)

    follows_by : (r : Reply) (b : Bool) → Step r b → (opening : W) → IsWorldAfter rules stands opening log old
        → IsWorldAfter rules stands opening (later r b) new
    follows_by r true s opening f = subst (λ l. IsWorldAfter rules stands opening l new) (sym (append-nil log))
        (λ w p. let a = f w p in (a.0, s.1 (world_after rules w log) a.1))
    follows_by r false s opening f = λ w p.
        let a = f w p in
        let one = s.1 (world_after rules w log) a.1 in (
          legal-snoc rules w log (entry r) a.0 (sym one.0),
          subst (stands new) (sym (after-snoc rules w log (entry r))) one.1,
        )

  -- The only caller of a seat at rest is the first of its list.
  own_there : (opening : W) (number : ℕ) (m : M) → IsAtRest opening number m
      → get_elem? m.0.own 0 ≡ maybe.some (number, own_calls number m.0.seen)
  own_there opening number m rests = ap (λ (l : List (ℕ × List Entry)). get_elem? l 0) rests.2

  -- Between what the seat saw and its turn, only other callers made calls.
  pub others_between : (opening : W) (number : ℕ) (m : M) (log : List Entry) → IsAtRest opening number m
      → AreCallsIn caller_of log m.0.own → (b : StartsWith log m.0.seen) → own_calls number b.0 ≡ []
  others_between opening number m log rests own b =
      let same : own_calls number log ≡ own_calls number m.0.seen =
      own 0 (number, own_calls number m.0.seen) (own_there opening number m rests) in
      append-cancel (own_calls number m.0.seen) (own_calls number b.0)
      (sym (calls_by-append caller_of number m.0.seen b.0) ∙ ap (own_calls number) (sym b.1) ∙ same)

  module _ (opening : W) (number : ℕ) (m0 m : M) (old new : W) (request : Request) (r : Reply)
      (rests : IsAtRest opening number m0) (ht : HasTurn log_of (IsWorldAfter rules stands) m0.0 old m)
      (logs : Logs (log_of old) (log_of new) number request r)
      (calls : Calls rules (stands old) (stands new) number request r) where
    log : List Entry
    log = ht.log

    step : Step old new ht.log number request r (is_no_memory r)
    step = step_of old new ht.log number request r
        (subst (λ (o : Option (List Entry)). Logs o (log_of new) number request r) ht.holds.log_is logs) calls

    abbrev now : List Entry
    now = later old new ht.log number request r (is_no_memory r)

    leads : IsWorldAfter rules stands opening now new
    leads = follows_by old new ht.log number request r (is_no_memory r) step opening (ht.holds.leads opening rests.1)

    same_own : m.0.own ≡ (number, own_calls number m0.0.seen) ∷ []
    same_own = ap (λ (x : M). x.0.own) ht.is ∙ rests.2

    pub can_return : CanReturn log_of (IsWorldAfter rules stands) opening m new
    can_return = record {
      number = number;
      log = now;
      has = ap (λ (x : M). x.0.phase) ht.is;
      empty = ap (λ (x : M). x.1) ht.is;
      opened = ap (λ (x : M). x.0.opening) ht.is ∙ rests.1;
      mine = subst (λ (l : List (ℕ × List Entry)). 0 < occurrences number l) (sym same_own)
          (times_here ((number, own_calls number m0.0.seen) ∷ []) 0 (number, own_calls number m0.0.seen) refl);
      log_is = log_by old new ht.log number request r (is_no_memory r) step;
      grows = subst (λ (l : List Entry). GrowsByAtMostOne caller_of number l now) (sym (ap (λ (x : M). x.0.seen) ht.is))
          (grows_by old new ht.log number request r (is_no_memory r));
      leads = leads;
    }

    module _ (last : M)
        (returned : (l : List Entry) → log_of new ≡ Some l → last ≡ (after_return caller_of m.0 l, [])) where
      is_now : last ≡ (after_return caller_of m.0 now, [])
      is_now = returned now (log_by old new ht.log number request r (is_no_memory r) step)

      seen_now : last.0.seen ≡ now
      seen_now = ap (λ (x : M). x.0.seen) is_now

      pub rests_after : IsAtRest opening number last
      rests_after = subst (λ (x : M). IsAtRest opening number x) (sym is_now)
          (refl, ap (λ (x : M). x.0.opening) ht.is ∙ rests.1, ap (with_calls_in caller_of now) same_own, refl)

      more : ContinuesWith number m0.0.seen last.0.seen (entries_added number request r)
      more = record {
        between = ht.holds.begins.0;
        others = others_between opening number m0 ht.log rests ht.holds.own ht.holds.begins;
        is = seen_now ∙ ap (λ (l : List Entry). l ++ entries_added number request r) ht.holds.begins.1;
      }

      pub sees_own_call : SeesOwnCall rules stands opening number m0.0.seen last.0.seen request r
      sees_own_call = record {
        legal = subst (λ (l : List Entry). IsLegalFrom rules stands opening l) (sym seen_now) (λ w p. (leads w p).0);
        continues = more;
        mine = own_new number request r m0.0.seen last.0.seen more;
      }

  -- A snapshot that is the caller's own after what the seat has seen is its own in the world that the seat takes.
  pub own_at : (opening : W) (number : ℕ) (m0 m : M) (old : W) → IsAtRest opening number m0
      → HasTurn log_of (IsWorldAfter rules stands) m0.0 old m → (o : World P) → stands opening o → (name : ℕ)
      → IsOwn (world_after rules o m0.0.seen) number name →
      (w : World P) × stands old w × IsOwn w number name
  own_at opening number m0 m old rests ht o h name mine =
      let b = ht.holds.begins in (
        world_after rules o ht.log,
        (ht.holds.leads opening rests.1 o h).1,
        subst (λ (v : World P). IsOwn v number name)
            (sym (ap (λ (l : List Entry). world_after rules o l) b.1 ∙ after_append rules o m0.0.seen b.0))
            (stays_own rules (world_after rules o m0.0.seen) number name b.0
            (others_between opening number m0 ht.log rests ht.holds.own b) mine),
      )

  -- A dispose of such a snapshot succeeds.
  pub disposes_seen_own : (opening : W) (number : ℕ) (m0 m : M) (old : W) → IsAtRest opening number m0
      → HasTurn log_of (IsWorldAfter rules stands) m0.0 old m
      → (q : Request) (r : Reply) → DisposesOwn (stands old) number q r
      → DisposesSeenOwn rules stands opening number m0.0.seen q r
  disposes_seen_own opening number m0 m old rests ht (request.Dispose name) r own = λ o h mine.
      let at = own_at opening number m0 m old rests ht o h name mine in
      own at.0 at.1 at.2
  disposes_seen_own opening number m0 m old rests ht (request.Take p k) r own = tt
  disposes_seen_own opening number m0 m old rests ht (request.TakeFor n) r own = tt
  disposes_seen_own opening number m0 m old rests ht (request.Read n x) r own = tt
  disposes_seen_own opening number m0 m old rests ht (request.Write n x v) r own = tt
  disposes_seen_own opening number m0 m old rests ht (request.Apply n) r own = tt

  -- The turn can be returned.
  pub returns_at : (opening : W) (count slots id : ℕ) (m two : M) (new : W)
      → CanReturn log_of (IsWorldAfter rules stands) opening m new → two ≡ (m.0, (0, Some new) ∷ rest m.1)
      → Allows (IsKept caller_of log_of (IsWorldAfter rules stands) opening count) slots id two 0 (λ n. 0)
      (ReturnsTurn caller_of log_of two)
  returns_at opening count slots id m two new g is =
      let now : two ≡ (m.0, (0, Some new) ∷ []) = is
      ∙ ap (λ (l : List (ℕ × Option W)). (m.0, (0, Some new) ∷ rest l)) g.empty in
      subst (λ (x : M). Allows (IsKept caller_of log_of (IsWorldAfter rules stands) opening count) slots id x 0 (λ n. 0)
      (ReturnsTurn caller_of log_of x)) (sym now)
      (returns_turn caller_of log_of (IsWorldAfter rules stands) opening count slots id m.0 g.number new g.log g.has
      g.mine g.opened g.log_is g.grows g.leads)

  pub after_return_is : (m two last : M) (new : W) (found : ℕ) → m.1 ≡ (0, None) ∷ []
      → two ≡ (m.0, (0, Some new) ∷ rest m.1) → ReturnsTurn caller_of log_of two found last → (l : List Entry)
      → log_of new ≡ Some l → last ≡ (after_return caller_of m.0 l, [])
  after_return_is m two last new found empty is g l log_is =
      let head : List (ℕ × Option W) → Option W = λ x. elim x [ [] ↦ None | y ∷ ys ↦ y.1 ] in
      let now : two ≡ (m.0, (0, Some new) ∷ []) = is
      ∙ ap (λ (x : List (ℕ × Option W)). (m.0, (0, Some new) ∷ rest x)) empty in
      let p : Some g.0 ≡ Some new = ap head (sym g.2 ∙ ap (λ (x : M). x.1) now) in
      let same : g.0 ≡ new = cc in
      let logs : Some g.1 ≡ Some l = sym g.3 ∙ ap log_of same ∙ log_is in
      let log : g.1 ≡ l = cc in
      let view : two.0 ≡ m.0 = ap (λ (x : M). x.0) now in
      g.4 ∙ (λ i. (after_return caller_of (view i) (log i), []))

pub follows_none : {W P : Type 0} (rules : Rules P) (stands : W → World P → Type 0) (opening : W)
    → IsWorldAfter rules stands opening [] opening
follows_none rules stands opening = λ w h. (tt, h)
