-- The place of a take in the shared history, and the last map that it leaves.
use Rattle.std.proofs.Common.{ℕ, List, ◌≡◌, ◌++◌, ◌∷◌, [], refl, sym, ap, ◌∙◌, subst, Some, Bool, true, false, not, map, ◌==◌, cond, ◌&&◌}
use Rattle.rt_values.specs.Maps.{Map}
use Rattle.rt_values.specs.declared.value.Ty.{Ty}
use Rattle.snap_policy.specs.Rules.{Rules}
use Rattle.snap_api.proofs.Takes.{call-TakeFor}
use Rattle.snap_api.specs.Desks.{Lasts}
use Rattle.snap_api.specs.DeskReads.{call_of, reads_of}
use Rattle.snap_api.specs.World.{World, call, snapshot_of, last_of, world_after, IsLegal}
use Rattle.snap_api.specs.declared.data.Entry.{Entry}
use Rattle.snap_api.specs.declared.data.Reply.TheVariants as reply
use Rattle.snap_api.specs.declared.data.Request.{Request}
use Rattle.snap_api.specs.declared.data.Request.TheVariants as request
use Rattle.snap_shared.specs.CallEffects.{stays_call}
use Rattle.snap_shared.specs.HistoryEffects.{after_append, legal_parts, only_taker_parts}
use Rattle.snap_shared.specs.SeatDesk.{IsOnlyTaker, IsPossibleWorld, is_take_for}
use Rattle.snap_shared.specs.SharedCalls.{own_calls}
use Rattle.recompose_seats.specs.SeatFrames.{IsMapAtTake}

-- The place of one of a caller's own calls in the whole history.
record PlaceOf (number : ℕ) (log xs : List Entry) (e : Entry) (ys : List Entry) : Type 0 where
  before : List Entry
  after : List Entry
  is : log ≡ before ++ e ∷ after
  first : own_calls number before ≡ xs
  second : own_calls number after ≡ ys

none_left : (xs : List Entry) (e : Entry) (ys : List Entry) {A : Type 0} → [] ≡ xs ++ e ∷ ys → A
none_left [] e ys h = absurd cc
none_left (x ∷ xs) e ys h = absurd cc

module _ (number : ℕ) (a : Entry) (log : List Entry) (e : Entry) (ys : List Entry)
    (more : (xs : List Entry) → own_calls number log ≡ xs ++ e ∷ ys → PlaceOf number log xs e ys) where
  own_first : (xs : List Entry) → (a.caller == number) ≡ true → a ∷ own_calls number log ≡ xs ++ e ∷ ys
      → PlaceOf number (a ∷ log) xs e ys
  own_first [] mine h =
      let same : a ≡ e = cc in
      let rest : own_calls number log ≡ ys = cc in
      record { before = []; after = log; is = ap (λ (x : Entry). x ∷ log) same; first = refl; second = rest }
  own_first (x ∷ xs) mine h =
      let same : a ≡ x = cc in
      let rest : own_calls number log ≡ xs ++ e ∷ ys = cc in
      let p = more xs rest in
      record {
        before = a ∷ p.before;
        after = p.after;
        is = ap (λ (l : List Entry). a ∷ l) p.is;
        first = ap (λ b. cond b (a ∷ own_calls number p.before) (own_calls number p.before)) mine
            ∙ ap (λ (x : Entry). x ∷ own_calls number p.before) same ∙ ap (λ (l : List Entry). x ∷ l) p.first;
        second = p.second;
      }

  one_more : (xs : List Entry) (b : Bool) → (a.caller == number) ≡ b
      → cond b (a ∷ own_calls number log) (own_calls number log) ≡ xs ++ e ∷ ys → PlaceOf number (a ∷ log) xs e ys
  one_more xs true f h = own_first xs f h
  one_more xs false f h =
      let p = more xs h in
      record {
        before = a ∷ p.before;
        after = p.after;
        is = ap (λ (l : List Entry). a ∷ l) p.is;
        first = ap (λ b. cond b (a ∷ own_calls number p.before) (own_calls number p.before)) f ∙ p.first;
        second = p.second;
      }

place_of : (number : ℕ) (log xs : List Entry) (e : Entry) (ys : List Entry) → own_calls number log ≡ xs ++ e ∷ ys
    → PlaceOf number log xs e ys
place_of number [] xs e ys h = none_left xs e ys h
place_of number (a ∷ log) xs e ys h =
    one_more number a log e ys (λ zs k. place_of number log zs e ys k) xs (a.caller == number) refl h

-- No entry is a take for the watcher.
abbrev pub TakesNone : ℕ → List Entry → Type 0
TakesNone watcher [] = Unit {0}
TakesNone watcher (e ∷ es) = (is_take_for watcher e.request ≡ false) × TakesNone watcher es

not_taken : (b t : Bool) → not b && t ≡ false → b ≡ false → t ≡ false
not_taken true t e f = absurd cc
not_taken false t e f = e

-- Whoever makes the call, it is no take for the watcher.
one_takes_none : (number watcher : ℕ) (e : Entry) (es : List Entry) (b : Bool) → (e.caller == number) ≡ b
    → not b && is_take_for watcher e.request ≡ false
    → TakesNone watcher (cond b (e ∷ own_calls number es) (own_calls number es)) →
    (is_take_for watcher e.request ≡ false) × TakesNone watcher (own_calls number es)
one_takes_none number watcher e es true f o n = n
one_takes_none number watcher e es false f o n = (not_taken false (is_take_for watcher e.request) o refl, n)

-- The watcher's last map stays the same if neither other callers nor the caller itself take for the watcher.
last_stays : {P : Type 0} (rules : Rules P) (number watcher : ℕ) (w : World P) (es : List Entry)
    → IsOnlyTaker number watcher es → TakesNone watcher (own_calls number es)
    → last_of (world_after rules w es) watcher ≡ last_of w watcher
last_stays rules number watcher w [] only none = refl
last_stays rules number watcher w (e ∷ es) only none =
    let one = one_takes_none number watcher e es (e.caller == number) refl only.0 none in
    last_stays rules number watcher (call rules w e.caller e.request).0 es only.1 one.1
    ∙ (stays_call rules w e.caller e.request).lasts watcher one.0

abbrev first_request : List (ℕ × Request) → Request
first_request [] = request.Apply 0
first_request (p ∷ ps) = p.1

abbrev other_calls : List (ℕ × Request) → List (ℕ × Request)
other_calls [] = []
other_calls (p ∷ ps) = ps

-- Reads and a dispose are no takes.
pub reads_take_none : (watcher caller name : ℕ) (more : List Entry) (xs : List ℕ) (d : Entry)
    → is_take_for watcher d.request ≡ false → map call_of more ≡ reads_of caller name xs
    → TakesNone watcher (more ++ d ∷ [])
reads_take_none watcher caller name [] xs d none h = (none, tt)
reads_take_none watcher caller name (e ∷ more) [] d none h = absurd cc
reads_take_none watcher caller name (e ∷ more) (x ∷ xs) d none h =
    let is : e.request ≡ request.Read name x = ap first_request h in
    let rest : map call_of more ≡ reads_of caller name xs = ap other_calls h in
    (ap (is_take_for watcher) is, reads_take_none watcher caller name more xs d none rest)

module _ {P : Type 0} (rules : Rules P) (opens : World P → Type 0) (seen mine : List Entry) (number watcher : ℕ) where
  -- The watcher's last map is global's view at the place of the take.
  pub map_at_take : (name : ℕ) (changed : List ℕ) (ys : List Entry) (types : List Ty) (m : Map) →
      own_calls number seen ≡ mine
      ++ record { caller = number; request = request.TakeFor watcher; reply = reply.TakenFor name changed } ∷ ys →
      TakesNone watcher ys → IsOnlyTaker number watcher seen
      → Lasts rules (IsPossibleWorld rules opens seen) watcher types (Some m) →
      IsMapAtTake rules opens seen mine number watcher m
  map_at_take name changed ys types m grew none only h =
      let e : Entry = record {
        caller = number;
        request = request.TakeFor watcher;
        reply = reply.TakenFor name changed;
      } in
      let p = place_of number seen mine e ys grew in
      let o = h.stands_for.opening in
      let parts = legal_parts rules o p.before (e ∷ p.after)
      (subst (λ (l : List Entry). IsLegal rules o l) p.is h.stands_for.legal) in
      let w = world_after rules o p.before in
      let took = call-TakeFor rules w number watcher name changed (sym parts.1.0) in
      let only_after = (only_taker_parts rules number watcher p.before (e ∷ p.after)
      (subst (λ (l : List Entry). IsOnlyTaker number watcher l) p.is only)).1.1 in
      let stays = last_stays rules number watcher (call rules w number (request.TakeFor watcher)).0 p.after only_after
      (subst (λ (l : List Entry). TakesNone watcher l) (sym p.second) none) in
      let world_is : h.world ≡ world_after rules (call rules w number (request.TakeFor watcher)).0 p.after =
      h.stands_for.is ∙ ap (λ (l : List Entry). world_after rules o l) p.is
      ∙ after_append rules o p.before (e ∷ p.after) in
      let last : Some m ≡ Some (snapshot_of w 0).view = sym h.is ∙ ap (λ (v : World P). last_of v watcher) world_is
      ∙ stays ∙ took.last in
      record {
        before = p.before;
        name = name;
        changed = changed;
        after = p.after;
        is = p.is;
        mine_before = p.first;
        world = w;
        possible = record {
          opening = o;
          is_opening = h.stands_for.is_opening;
          valid = h.stands_for.valid;
          legal = parts.0;
          is = refl;
        };
        shows = cc;
      }
