-- A call through a seat, as a call on each plain world that is possible after what the seat has seen.
use Rattle.std.proofs.Common.{ℕ, List, ◌≡◌, ◌++◌, ◌∷◌, [], refl, sym, ap, ◌∙◌, subst, Option, Some, false, true, Bool, not, nat_lt, length, map, ◌==◌, cond, ◌<◌, ◌≤◌, ◌||◌, arith, append_assoc, append-nil, inl, inr, Ok, Err, suc}
use Rattle.std.proofs.Math.ListN.{get_or-eq_default}
use Rattle.std.proofs.lemmas.Bool.Decides.{leb_tells, eqb_tells}
use Rattle.rt_values.specs.Maps.{Map, differ, value_at, no_entry}
use Rattle.rt_values.specs.Values.{no_value}
use Rattle.rt_values.specs.declared.maps.StampedValue.{StampedValue}
use Rattle.rt_values.specs.Views.{Grew}
use Rattle.rt_values.specs.declared.value.Ty.{Ty}
use Rattle.rt_values.specs.declared.value.Value.{Value}
use Rattle.snap_policy.specs.Rules.{Rules, KeepsTypes}
use Rattle.snap_api.proofs.DeskTakes.{takes, spent_at_end, disposed_lasts}
use Rattle.snap_api.proofs.CallLists.{does_call}
use Rattle.snap_api.proofs.LawsRefusals.{refusals_change_nothing}
use Rattle.snap_api.proofs.Takes.{call-TakeFor}
use Rattle.snap_api.specs.Calls.{Calls, IsOwn, is_no_memory}
use Rattle.snap_api.specs.Desks.{Lasts, Clocks, Taken, TakesForWatcher, ShowsTyped, SpentAtEnd}
use Rattle.snap_api.specs.DeskReads.{call_of, reads_of}
use Rattle.snap_api.specs.World.{World, call, refusal_or_effect, is_spent, is_closed, is_live, is_foreign, last_of, snapshot_of, world_after_take_for, world_after, IsLegal, clock_limit}
use Rattle.snap_api.specs.declared.data.Entry.{Entry}
use Rattle.snap_api.specs.declared.data.Refusal.{Refusal}
use Rattle.snap_api.specs.declared.data.Refusal.TheVariants as refusal
use Rattle.snap_api.specs.declared.data.Reply.{Reply}
use Rattle.snap_api.specs.declared.data.Reply.TheVariants as reply
use Rattle.snap_api.specs.declared.data.Request.{Request}
use Rattle.snap_api.specs.declared.data.Request.TheVariants as request
use Rattle.snap_api.specs.declared.data.Snapshot.{Snapshot}
use Rattle.snap_shared.specs.SharedCalls.{own_calls, entries_added, SeesOwnCall}
use Rattle.snap_shared.specs.HistoryEffects.{after_append, legal_parts, valid_now, both_others_or_reads, only_taker_parts, sees_over, lasts_over, known_over, clock_over}
use Rattle.snap_shared.specs.SeatDesk.{AreOthersOrReads, IsOnlyTaker, IsOwnReadonly, IsPossibleWorld, SeesMap, ClockIsAtLeast, SeatAfterReads, objects_read}
use Rattle.snap_shared.proofs.OwnCalls.{itself, entry, own_new, others_only, objects_read-append}

module _ {P : Type 0} (rules : Rules P) (opens : World P → Type 0) (number : ℕ) (q : Request) where
  module _ (mid new : List Entry) (legal : (o : World P) → opens o → IsLegal rules o new) where
    -- The call was made on a world that is possible before it.
    answered : (r : Reply) → new ≡ mid ++ record { caller = number; request = q; reply = r } ∷ [] → (w : World P)
        → IsPossibleWorld rules opens mid w
        → (r ≡ (call rules w number q).1) × IsPossibleWorld rules opens new (call rules w number q).0
    answered r is w n =
        let e : Entry = record { caller = number; request = q; reply = r } in
        let all = subst (λ (l : List Entry). IsLegal rules n.opening l) is (legal n.opening n.is_opening) in
        let parts = legal_parts rules n.opening mid (e ∷ []) all in
        let one : (call rules w number q).1 ≡ r = ap (λ (v : World P). (call rules v number q).1) n.is ∙ parts.1.0 in (
          sym one,
          record {
            opening = n.opening;
            is_opening = n.is_opening;
            valid = n.valid;
            legal = legal n.opening n.is_opening;
            is = ap (λ (v : World P). (call rules v number q).0) n.is ∙ sym (after_append rules n.opening mid (e ∷ []))
                ∙ ap (λ (l : List Entry). world_after rules n.opening l) (sym is);
          },
        )

    stayed : new ≡ mid ++ [] → (w : World P) → IsPossibleWorld rules opens mid w → IsPossibleWorld rules opens new w
    stayed is w n = record {
      opening = n.opening;
      is_opening = n.is_opening;
      valid = n.valid;
      legal = legal n.opening n.is_opening;
      is = n.is ∙ ap (λ (l : List Entry). world_after rules n.opening l) (sym (is ∙ append-nil mid));
    }

    pub calls_now : (r : Reply) → new ≡ mid ++ entries_added number q r
        → Calls rules (IsPossibleWorld rules opens mid) (IsPossibleWorld rules opens new) number q r
    calls_now (reply.Refused refusal.NoMemory) is = stayed is
    calls_now (reply.Refused r) is = answered (reply.Refused r) is
    calls_now r is = answered r is

module _ {W P : Type 0} (rules : Rules P) (stands : W → World P → Type 0) (key : W) (number : ℕ) (old new : List Entry)
    (q : Request) (r : Reply) (c : SeesOwnCall rules stands key number old new q r) where
  abbrev mid : List Entry
  mid = old ++ c.continues.between

  legal_mid : (o : World P) → stands key o → IsLegal rules o mid
  legal_mid o h = (legal_parts rules o mid (entries_added number q r)
      (subst (λ (l : List Entry). IsLegal rules o l) c.continues.is (c.legal o h))).0

  between_others : AreOthersOrReads number c.continues.between
  between_others = others_only number c.continues.between c.continues.others

  pub calls_at : Calls rules (IsPossibleWorld rules (stands key) mid) (IsPossibleWorld rules (stands key) new) number q
      r
  calls_at = calls_now rules (stands key) number q mid new c.legal r c.continues.is

  pub alone_old : (n : ℕ) → IsOnlyTaker number n new → IsOnlyTaker number n old
  alone_old n alone = (only_taker_parts rules number n old c.continues.between (alone_mid n alone)).0 where
    alone_mid : (n : ℕ) → IsOnlyTaker number n new → IsOnlyTaker number n mid
    alone_mid n alone = (only_taker_parts rules number n mid (entries_added number q r)
        (subst (λ (l : List Entry). IsOnlyTaker number n l) c.continues.is alone)).0

  lasts_mid : KeepsTypes rules → (n : ℕ) (types : List Ty) (l : Option Map) → IsOnlyTaker number n new
      → Lasts rules (IsPossibleWorld rules (stands key) old) n types l
      → Lasts rules (IsPossibleWorld rules (stands key) mid) n types l
  lasts_mid keeps n types l alone h =
      lasts_over rules keeps (stands key) (stands key) old mid c.continues.between number n types l (λ o p. p)
      (λ o p l. legal_mid o p) refl between_others
      (only_taker_parts rules number n mid (entries_added number q r)
      (subst (λ (l : List Entry). IsOnlyTaker number n l) c.continues.is alone)).0 h

  known_mid : KeepsTypes rules → (n : ℕ) (types : List Ty) (l : Option Map)
      → Lasts rules (IsPossibleWorld rules (stands key) old) n types l
      → (l' : Option Map) × Lasts rules (IsPossibleWorld rules (stands key) mid) n types l'
  known_mid keeps n types l h =
      known_over rules keeps (stands key) old mid c.continues.between n types l (λ o p l. legal_mid o p) refl h

  sees_mid : KeepsTypes rules → (opened : Option ℕ) (m : Map) → SeesMap rules (stands key) old number opened m
      → SeesMap rules (stands key) mid number opened m
  sees_mid keeps opened m h = sees_over rules keeps (stands key) (stands key) old mid c.continues.between number opened
      m (λ o p. p) (λ o p l. legal_mid o p) refl between_others h

  clock_mid : (k : ℕ) → ClockIsAtLeast rules (stands key) old k → ClockIsAtLeast rules (stands key) mid k
  clock_mid k h = clock_over rules (stands key) (stands key) old mid c.continues.between k (λ o p. p)
      (λ o p l. legal_mid o p) refl h

  same_worlds : (w : World P) → (e : Refusal) → r ≡ reply.Refused e → IsPossibleWorld rules (stands key) mid w
      → IsPossibleWorld rules (stands key) new w
  same_worlds w e is n =
      by e (subst (λ (x : Reply). Calls rules (IsPossibleWorld rules (stands key) mid)
      (IsPossibleWorld rules (stands key) new) number q x) is calls_at) where
        by : (e : Refusal) → Calls rules (IsPossibleWorld rules (stands key) mid) (IsPossibleWorld rules (stands key) new)
            number q (reply.Refused e) → IsPossibleWorld rules (stands key) new w
        by refusal.NoMemory does = does w n
        by e does = let made = does w n in
            subst (λ (v : World P). IsPossibleWorld rules (stands key) new v)
            (refusals_change_nothing rules w number q e (sym made.0)) made.1

  -- The facts about the world that a refused call keeps.
  pub refused_lasts : KeepsTypes rules → (e : Refusal) → r ≡ reply.Refused e
      → (n : ℕ) (types : List Ty) (l : Option Map) → IsOnlyTaker number n new
      → Lasts rules (IsPossibleWorld rules (stands key) old) n types l
      → Lasts rules (IsPossibleWorld rules (stands key) new) n types l
  refused_lasts keeps e is n types l alone h =
      let m = lasts_mid keeps n types l alone h in
      record {
        world = m.world;
        stands_for = same_worlds m.world e is m.stands_for;
        valid = m.valid;
        known = m.known;
        is = m.is;
        types_are = m.types_are;
      }

  pub refused_sees : KeepsTypes rules → (e : Refusal) → r ≡ reply.Refused e → (opened : Option ℕ) (m : Map)
      → SeesMap rules (stands key) old number opened m → SeesMap rules (stands key) new number opened m
  refused_sees keeps e is opened m h =
      let s = sees_mid keeps opened m h in
      record { world = s.world; now = same_worlds s.world e is s.now; mine = s.mine; shows = s.shows; full = s.full }

-- Reads.
read_by : (number name x : ℕ) (r : Reply) (b : Bool)
    → map call_of (cond b [] (entry number (request.Read name x) r ∷ [])) ≡ reads_of number name (cond b [] (x ∷ []))
read_by number name x r true = refl
read_by number name x r false = refl

asked_by : (number name x : ℕ) (r : Reply) (b : Bool)
    → objects_read (cond b [] (entry number (request.Read name x) r ∷ [])) ≡ cond b [] (x ∷ [])
asked_by number name x r true = refl
asked_by number name x r false = refl

read_entries : (number name x : ℕ) (r : Reply) (b : Bool)
    → AreOthersOrReads number (cond b [] (entry number (request.Read name x) r ∷ []))
read_entries number name x r true = tt
read_entries number name x r false = (by (not (number == number)), tt) where
  by : (b : Bool) → b || true ≡ true
  by true = refl
  by false = refl

module _ {W P : Type 0} (rules : Rules P) (stands : W → World P → Type 0) (key : W) (number : ℕ) (old new : List Entry)
    (name x : ℕ) (r : Reply) (c : SeesOwnCall rules stands key number old new (request.Read name x) r) where
  abbrev own : List Entry
  own = entries_added number (request.Read name x) r

  asks_are : objects_read (own_calls number new)
      ≡ objects_read (own_calls number old) ++ cond (is_no_memory r) [] (x ∷ [])
  asks_are = ap objects_read (own_new number (request.Read name x) r old new c.continues)
      ∙ objects_read-append (own_calls number old) own
      ∙ ap (λ l. objects_read (own_calls number old) ++ l) (asked_by number name x r (is_no_memory r))

  pub keeps_read : (number' : ℕ) → number' ≡ number
      → SeatAfterReads rules (stands key) (stands key) old new number number' (Some name) (Some name)
  keeps_read number' same = subst (λ (n : ℕ). SeatAfterReads rules (stands key) (stands key) old new number n
      (Some name) (Some name)) (sym same) record {
        opens_on = λ o h. h;
        legal_on = λ o h l. c.legal o h;
        more = c.continues.between ++ own;
        others_or_reads = both_others_or_reads rules number c.continues.between own
            (others_only number c.continues.between c.continues.others) (read_entries number name x r (is_no_memory r));
        is = c.continues.is ∙ append_assoc old c.continues.between own;
        same_number = refl;
        same_name = refl;
        read = cond (is_no_memory r) [] (x ∷ []);
        asks = asks_are;
        tells = record {
          more = own;
          log_is = ap (λ (l : List Entry). Some l) (own_new number (request.Read name x) r old new c.continues);
          reads = read_by number name x r (is_no_memory r);
        };
      }

  pub asked_one : is_no_memory r ≡ false
      → objects_read (own_calls number new) ≡ objects_read (own_calls number old) ++ x ∷ []
  asked_one other = asks_are ∙ ap (λ b. objects_read (own_calls number old) ++ cond b [] (x ∷ [])) other

  pub asked_part : Grew (objects_read (own_calls number old)) (objects_read (own_calls number new)) (x ∷ [])
  asked_part = by (is_no_memory r) asks_are where
    by : (b : Bool) → objects_read (own_calls number new) ≡ objects_read (own_calls number old) ++ cond b [] (x ∷ [])
        → Grew (objects_read (own_calls number old)) (objects_read (own_calls number new)) (x ∷ [])
    by true e =
        record { rest = x ∷ []; is = ap (λ l. l ++ x ∷ []) (e ∙ append-nil (objects_read (own_calls number old))) }
    by false e = record { rest = []; is = append-nil (objects_read (own_calls number new)) ∙ e }

module _ {P : Type 0} (w : World P) (a b c : Bool) (r s : Refusal) (v : Value) where
  abbrev asked_for : World P × Reply
  asked_for = cond a (w, reply.Refused r)
      (cond b (w, reply.Refused s) (cond c (w, reply.Refused refusal.UnknownObject) (w, reply.Got v)))

got : {P : Type 0} (w : World P) (a b c : Bool) (r s : Refusal) (v u : Value) → a ≡ false → b ≡ false
    → (asked_for w a b c r s v).1 ≡ reply.Got u → u ≡ v
got w true b c r s v u e f g = absurd cc
got w false true c r s v u e f g = absurd cc
got w false false true r s v u e f g = absurd cc
got w false false false r s v u e f g = cc

unknown : {P : Type 0} (w : World P) (a b c : Bool) (r s : Refusal) (v : Value) → a ≡ false → b ≡ false
    → (asked_for w a b c r s v).1 ≡ reply.Refused refusal.UnknownObject → c ≡ true
unknown w true b c r s v e f g = absurd cc
unknown w false true c r s v e f g = absurd cc
unknown w false false true r s v e f g = refl
unknown w false false false r s v e f g = absurd cc

pub own_snapshot : {P : Type 0} (w : World P) (number name : ℕ) → IsOwnReadonly w number name
    → is_foreign w number name ≡ false
own_snapshot w number name m =
    pick (name == 0) ((snapshot_of w name).owner == number) (ap (λ (o : ℕ). o == number) m.owner ∙ itself number) where
      pick : (b t : Bool) → t ≡ true → cond b false (not t) ≡ false
      pick true t e = refl
      pick false true e = refl
      pick false false e = absurd cc

past : (x n : ℕ) → not (nat_lt x n) ≡ true → n ≤ x
past x n e = elim (leb_tells (suc x) n) [ inl h ↦ absurd cc | inr h ↦ omega (arith, h.1) ]

module _ {P : Type 0} (rules : Rules P) (opens : World P → Type 0) (log : List Entry) (number name x : ℕ) (m : Map)
    (h : SeesMap rules opens log number (Some name) m) where
  abbrev w : World P
  w = h.world

  pub read_got : (v : Value) → (call rules w number (request.Read name x)).1 ≡ reply.Got v → v ≡ value_at m x
  read_got v e = got w (is_closed w name) (is_foreign w number name) (not (nat_lt x (length w.objects))) _ _
      (value_at (snapshot_of w name).view x) v h.mine.live (own_snapshot w number name h.mine) e
      ∙ ap (λ (m : Map). value_at m x) (sym h.shows)

  pub read_unknown : (call rules w number (request.Read name x)).1 ≡ reply.Refused refusal.UnknownObject
      → no_value ≡ value_at m x
  read_unknown e =
      let c = unknown w (is_closed w name) (is_foreign w number name) (not (nat_lt x (length w.objects))) _ _
      (value_at (snapshot_of w name).view x) h.mine.live (own_snapshot w number name h.mine) e in
      let long : length m ≤ x = subst (λ (n : ℕ). n ≤ x) (sym h.full) (past x (length w.objects) c) in
      sym (ap (λ (e : StampedValue). e.value) (get_or-eq_default m no_entry long))

-- A read is answered from the map that was shown before it.
module _ {W P : Type 0} (rules : Rules P) (keeps : KeepsTypes rules) (stands : W → World P → Type 0) (key : W)
    (number : ℕ) (old new : List Entry) (name x : ℕ) (r : Reply)
    (c : SeesOwnCall rules stands key number old new (request.Read name x) r) (m : Map)
    (h : SeesMap rules (stands key) old number (Some name) m) where
  at_read : SeesMap rules (stands key) (mid rules stands key number old new (request.Read name x) r c) number
      (Some name) m
  at_read = sees_mid rules stands key number old new (request.Read name x) r c keeps (Some name) m h

  pub value_got : (v : Value) → r ≡ reply.Got v → v ≡ value_at m x
  value_got v is =
      let does = subst (λ (a : Reply). Calls rules
      (IsPossibleWorld rules (stands key) (mid rules stands key number old new (request.Read name x) r c))
      (IsPossibleWorld rules (stands key) new) number (request.Read name x) a) is
      (calls_at rules stands key number old new (request.Read name x) r c) in
      read_got rules (stands key) (mid rules stands key number old new (request.Read name x) r c) number name x m
      at_read v (sym (does at_read.world at_read.now).0)

  pub value_unknown : r ≡ reply.Refused refusal.UnknownObject → no_value ≡ value_at m x
  value_unknown is =
      let does = subst (λ (a : Reply). Calls rules
      (IsPossibleWorld rules (stands key) (mid rules stands key number old new (request.Read name x) r c))
      (IsPossibleWorld rules (stands key) new) number (request.Read name x) a) is
      (calls_at rules stands key number old new (request.Read name x) r c) in
      read_unknown rules (stands key) (mid rules stands key number old new (request.Read name x) r c) number name x m
      at_read (sym (does at_read.world at_read.now).0)

-- Takes for a watcher.
still_known : (n k : ℕ) → n < k → not (nat_lt n k) ≡ false
still_known n k h = elim (leb_tells (suc n) k) [ inl e ↦ ap not e.0 | inr e ↦ absurd (omega (arith, h, e.1)) ]

refused_take : {P : Type 0} (w good : World P) (s t : Bool) (name : ℕ) (changed : List ℕ) (e : Refusal) → t ≡ false
    → reply.Refused e ≡ (refusal_or_effect w ((s, refusal.Spent) ∷ (t, refusal.UnknownWatcher) ∷ [])
    (good, reply.TakenFor name changed)).1 → e ≡ refusal.Spent
refused_take w good true t name changed e f g = cc
refused_take w good false true name changed e f g = absurd cc
refused_take w good false false name changed e f g = absurd cc

module _ {W P : Type 0} (rules : Rules P) (keeps : KeepsTypes rules) (stands : W → World P → Type 0) (key : W)
    (number : ℕ) (old new : List Entry) (watcher : ℕ) where
  abbrev q : Request
  q = request.TakeFor watcher

  abbrev opens : World P → Type 0
  opens = stands key

  -- A world that is possible after a successful take has its snapshot.
  mine_taken : (name : ℕ) (changed : List ℕ)
      (c : SeesOwnCall rules stands key number old new q (reply.TakenFor name changed)) (w : World P)
      → IsPossibleWorld rules opens new w → IsOwnReadonly w number name
  mine_taken name changed c w n =
      let e : Entry = record { caller = number; request = q; reply = reply.TakenFor name changed } in
      let before = world_after rules n.opening
      (mid rules stands key number old new q (reply.TakenFor name changed) c) in
      let all = subst (λ (l : List Entry). IsLegal rules n.opening l) c.continues.is n.legal in
      let parts = legal_parts rules n.opening (mid rules stands key number old new q (reply.TakenFor name changed) c)
      (e ∷ []) all in
      let took = call-TakeFor rules before number watcher name changed (sym parts.1.0) in
      let here : w ≡ (call rules before number q).0 = n.is
      ∙ ap (λ (l : List Entry). world_after rules n.opening l) c.continues.is
      ∙ after_append rules n.opening (mid rules stands key number old new q (reply.TakenFor name changed) c)
      (e ∷ []) in
      let some = (valid_now rules keeps opens (mid rules stands key number old new q (reply.TakenFor name changed) c)
      before (record {
        opening = n.opening;
        is_opening = n.is_opening;
        valid = n.valid;
        legal = parts.0;
        is = refl;
      })).shaped.some in
      subst (λ (v : World P). IsOwnReadonly v number name) (sym here) record {
        live = ap (λ (s : Snapshot). not (is_live s.status)) took.shot;
        owner = ap (λ (s : Snapshot). s.owner) took.shot;
        kind = ap (λ (s : Snapshot). s.kind) took.shot;
        inner = elim (eqb_tells name 0) [ inl z ↦ absurd (omega (arith, z.1, took.named, some)) | inr z ↦ z.0 ];
      }

  pub took_good : (name : ℕ) (changed : List ℕ) (types : List Ty) (l : Option Map)
      → SeesOwnCall rules stands key number old new q (reply.TakenFor name changed)
      → Lasts rules (IsPossibleWorld rules opens old) watcher types l → IsOnlyTaker number watcher new →
      Taken (λ m. SeesMap rules opens new number (Some name) m)
      (λ l'. Lasts rules (IsPossibleWorld rules opens new) watcher types l') types l name changed
  took_good name changed types l c h alone =
      let t = takes rules keeps (IsPossibleWorld rules opens
      (mid rules stands key number old new q (reply.TakenFor name changed) c)) (IsPossibleWorld rules opens new)
      number watcher name changed types l
      (calls_at rules stands key number old new q (reply.TakenFor name changed) c)
      (lasts_mid rules stands key number old new q (reply.TakenFor name changed) c keeps watcher types l alone h) in
      record {
        map = t.map;
        shown = record {
          world = t.shown.world;
          now = t.shown.stands_for;
          mine = mine_taken name changed c t.shown.world t.shown.stands_for;
          shows = t.shown.shows;
          full = t.shown.full;
        };
        is_last = t.is_last;
        changed_is = t.changed_is;
        follows = t.follows;
        typed = t.typed;
        inner = t.inner;
      }

  pub took_shown : (name : ℕ) (changed : List ℕ) (types : List Ty) (l : Option Map)
      → SeesOwnCall rules stands key number old new q (reply.TakenFor name changed)
      → Lasts rules (IsPossibleWorld rules opens old) watcher types l →
      ShowsTyped (λ m. SeesMap rules opens new number (Some name) m) types
  took_shown name changed types l c h =
      let at = known_mid rules stands key number old new q (reply.TakenFor name changed) c keeps watcher types l h in
      let t = takes rules keeps (IsPossibleWorld rules opens
      (mid rules stands key number old new q (reply.TakenFor name changed) c)) (IsPossibleWorld rules opens new)
      number watcher name changed types at.0
      (calls_at rules stands key number old new q (reply.TakenFor name changed) c) at.1 in
      record {
        map = t.map;
        shown = record {
          world = t.shown.world;
          now = t.shown.stands_for;
          mine = mine_taken name changed c t.shown.world t.shown.stands_for;
          shows = t.shown.shows;
          full = t.shown.full;
        };
        typed = t.typed;
      }

  pub took_bad : (shows : Map → Type 0) (e : Refusal) (types : List Ty) (l : Option Map)
      → SeesOwnCall rules stands key number old new q (reply.Refused e)
      → Lasts rules (IsPossibleWorld rules opens old) watcher types l → IsOnlyTaker number watcher new →
      TakesForWatcher shows (λ l'. Lasts rules (IsPossibleWorld rules opens new) watcher types l') types l (Err e)
  took_bad shows e types l c h alone = by e refl where
    after : Lasts rules (IsPossibleWorld rules opens new) watcher types l
    after = refused_lasts rules stands key number old new q (reply.Refused e) c keeps e refl watcher types l alone h

    at : Lasts rules (IsPossibleWorld rules opens (mid rules stands key number old new q (reply.Refused e) c)) watcher
        types l
    at = lasts_mid rules stands key number old new q (reply.Refused e) c keeps watcher types l alone h

    spent : is_no_memory (reply.Refused e) ≡ false → e ≡ refusal.Spent
    spent other =
        let made = does_call (IsPossibleWorld rules opens (mid rules stands key number old new q (reply.Refused e) c))
        (IsPossibleWorld rules opens new) (λ v. call rules v number q) (reply.Refused e) other
        (calls_at rules stands key number old new q (reply.Refused e) c) at.world at.stands_for in
        refused_take at.world (world_after_take_for at.world number watcher) (is_spent at.world)
        (not (nat_lt watcher (length at.world.lasts))) (length at.world.snapshots)
        (differ (last_of at.world watcher) (snapshot_of at.world 0).view) e
        (still_known watcher (length at.world.lasts) at.known) made.0

    by : (d : Refusal) → d ≡ e → TakesForWatcher shows
        (λ l'. Lasts rules (IsPossibleWorld rules opens new) watcher types l') types l (Err d)
    by refusal.NoMemory is = after
    by refusal.Spent is = after
    by d is = let other : is_no_memory (reply.Refused e) ≡ false =
        ap (λ (x : Refusal). is_no_memory (reply.Refused x)) (sym is) in let z : d ≡ refusal.Spent = is ∙ spent other in
        absurd cc

  at_least : (log : List Entry) (k : ℕ) → ClockIsAtLeast rules opens log k
      → (j : ℕ) × (k ≤ j) × Clocks (IsPossibleWorld rules opens log) j × (j ≤ clock_limit)
  at_least log k h = (
    h.world.clock,
    h.reached,
    record { world = h.world; stands_for = h.now; is = refl },
    (valid_now rules keeps opens log h.world h.now).in_time,
  )

  pub spent_good : (name : ℕ) (changed : List ℕ) (k : ℕ)
      → SeesOwnCall rules stands key number old new q (reply.TakenFor name changed) → ClockIsAtLeast rules opens old k
      → k ≡ clock_limit → ⊥
  spent_good name changed k c h end =
      let now = at_least (mid rules stands key number old new q (reply.TakenFor name changed) c) k
      (clock_mid rules stands key number old new q (reply.TakenFor name changed) c k h) in
      spent_at_end rules (IsPossibleWorld rules opens
      (mid rules stands key number old new q (reply.TakenFor name changed) c)) (IsPossibleWorld rules opens new)
      number watcher now.0 (Ok (name, changed))
      (calls_at rules stands key number old new q (reply.TakenFor name changed) c) now.2
      (omega (arith, now.1, now.3, end))

  pub spent_bad : (e : Refusal) (k : ℕ) → SeesOwnCall rules stands key number old new q (reply.Refused e)
      → ClockIsAtLeast rules opens old k → SpentAtEnd (λ n. ClockIsAtLeast rules opens new n) k (Err e)
  spent_bad e k c h = by e refl where
    by : (d : Refusal) → d ≡ e → SpentAtEnd (λ n. ClockIsAtLeast rules opens new n) k (Err d)
    by refusal.Spent is =
        let now = at_least (mid rules stands key number old new q (reply.Refused e) c) k
        (clock_mid rules stands key number old new q (reply.Refused e) c k h) in
        let at = spent_at_end rules (IsPossibleWorld rules opens
        (mid rules stands key number old new q (reply.Refused e) c)) (IsPossibleWorld rules opens new) number
        watcher now.0 (Err refusal.Spent)
        (subst (λ (x : Refusal). Calls rules
        (IsPossibleWorld rules opens (mid rules stands key number old new q (reply.Refused e) c))
        (IsPossibleWorld rules opens new) number q (reply.Refused x)) (sym is)
        (calls_at rules stands key number old new q (reply.Refused e) c)) now.2 in
        record { world = at.world; now = at.stands_for; reached = omega (arith, at.is) }
    by d is = tt

-- Disposes.
module _ {W P : Type 0} (rules : Rules P) (keeps : KeepsTypes rules) (stands : W → World P → Type 0) (key : W)
    (number : ℕ) (old new : List Entry) (name : ℕ) where
  pub disposed_last : (n : ℕ) (types : List Ty) (l : Option Map)
      → SeesOwnCall rules stands key number old new (request.Dispose name) reply.Disposed
      → Lasts rules (IsPossibleWorld rules (stands key) old) n types l → IsOnlyTaker number n new
      → Lasts rules (IsPossibleWorld rules (stands key) new) n types l
  disposed_last n types l c h alone =
      disposed_lasts rules keeps (IsPossibleWorld rules (stands key)
      (mid rules stands key number old new (request.Dispose name) reply.Disposed c))
      (IsPossibleWorld rules (stands key) new) number name n types l
      (calls_at rules stands key number old new (request.Dispose name) reply.Disposed c)
      (lasts_mid rules stands key number old new (request.Dispose name) reply.Disposed c keeps n types l alone h)

  -- The snapshot that is shown is the caller's own after what the seat has seen.
  pub own_seen : (m : Map) → SeesMap rules (stands key) old number (Some name) m
      → (o : World P) × stands key o × IsOwn (world_after rules o old) number name
  own_seen m h = (
    h.now.opening,
    h.now.is_opening,
    subst (λ (v : World P). IsOwn v number name)
        h.now.is record { live = h.mine.live; inner = h.mine.inner; own = own_snapshot h.world number name h.mine },
  )
