-- Internal: what lists of other callers' calls and own reads keep.
use Rattle.std.proofs.Common.{ℕ, List, ◌≡◌, ◌++◌, ◌∷◌, [], refl, sym, ap, ◌∙◌, subst, Option, Some, None, false, true, Bool, not, map, length, ◌==◌, ◌≤◌, ◌&&◌, ◌||◌, arith, append_assoc, append-nil}
use Rattle.rt_values.specs.Maps.{Map}
use Rattle.rt_values.specs.declared.value.Ty.{Ty}
use Rattle.rt_values.specs.Views.{Extends}
use Rattle.snap_policy.specs.Rules.{Rules, KeepsTypes}
use Rattle.snap_api.proofs.ValidCalls.{valid_call}
use Rattle.snap_api.specs.Desks.{Lasts}
use Rattle.snap_api.specs.DeskReads.{AskedAndLogged, ReadsLogged, LogsReadsIn, AreLegal, call_of, reads_of}
use Rattle.snap_api.specs.DeskReadsLaws.{tells_none}
use Rattle.snap_api.specs.Valid.{IsValid}
use Rattle.snap_api.specs.World.{World, call, is_live, snapshot_of, last_of, world_after, IsLegal}
use Rattle.snap_api.specs.declared.data.Entry.{Entry}
use Rattle.snap_api.specs.declared.data.Object.{Object}
use Rattle.snap_api.specs.declared.data.Request.{Request}
use Rattle.snap_api.specs.declared.data.Request.TheVariants as request
use Rattle.snap_api.specs.declared.data.Snapshot.{Snapshot}
use Rattle.snap_shared.specs.SharedCalls.{own_calls}
use Rattle.snap_shared.specs.CallEffects.{stays_call, one_keeps}
use Rattle.snap_shared.specs.SeatDesk.{IsOwnReadonly, IsPossibleWorld, SeesMap, ClockIsAtLeast, SeesFurther, SeatAfterReads, AreOthersOrReads, IsOnlyTaker, is_read, is_take_for, objects_read}

module _ {P : Type 0} (rules : Rules P) where
  pub after_append : (w : World P) (a b : List Entry)
      → world_after rules w (a ++ b) ≡ world_after rules (world_after rules w a) b
  after_append w [] b = refl
  after_append w (e ∷ a) b = after_append (call rules w e.caller e.request).0 a b

  pub legal_parts : (w : World P) (a b : List Entry) → IsLegal rules w (a ++ b)
      → IsLegal rules w a × IsLegal rules (world_after rules w a) b
  legal_parts w [] b l = (tt, l)
  legal_parts w (e ∷ a) b l = let r = legal_parts (call rules w e.caller e.request).0 a b l.1 in ((l.0, r.0), r.1)

  pub valid_after : KeepsTypes rules → (w : World P) (es : List Entry) → IsValid rules w
      → IsValid rules (world_after rules w es)
  valid_after keeps w [] v = v
  valid_after keeps w (e ∷ es) v =
      valid_after keeps (call rules w e.caller e.request).0 es (valid_call v keeps e.caller e.request)

  pub valid_now : KeepsTypes rules → (opens : World P → Type 0) (log : List Entry) (w : World P)
      → IsPossibleWorld rules opens log w → IsValid rules w
  valid_now keeps opens log w n =
      subst (λ (v : World P). IsValid rules v) (sym n.is) (valid_after keeps n.opening log n.valid)

  mine_on : (number name : ℕ) (w v : World P) → snapshot_of v name ≡ snapshot_of w name → IsOwnReadonly w number name
      → IsOwnReadonly v number name
  mine_on number name w v e m = record {
    live = ap (λ (s : Snapshot). not (is_live s.status)) e ∙ m.live;
    owner = ap (λ (s : Snapshot). s.owner) e ∙ m.owner;
    kind = ap (λ (s : Snapshot). s.kind) e ∙ m.kind;
    inner = m.inner;
  }

  -- An own readonly snapshot stays the same.
  pub snapshot_after : KeepsTypes rules → (number name : ℕ) (w : World P) (es : List Entry) → IsValid rules w
      → IsOwnReadonly w number name → AreOthersOrReads number es
      → snapshot_of (world_after rules w es) name ≡ snapshot_of w name
  snapshot_after keeps number name w [] v m a = refl
  snapshot_after keeps number name w (e ∷ es) v m a =
      let k = one_keeps rules w number name e.caller e.request v m a.0 in
      let next = (call rules w e.caller e.request).0 in
      snapshot_after keeps number name next es (valid_call v keeps e.caller e.request)
      (mine_on number name w next k.snapshot m) a.1 ∙ k.snapshot

  pub objects_after : (w : World P) (es : List Entry) → (world_after rules w es).objects ≡ w.objects
  objects_after w [] = refl
  objects_after w (e ∷ es) =
      objects_after (call rules w e.caller e.request).0 es ∙ (stays_call rules w e.caller e.request).objects

  pub clock_after : (w : World P) (es : List Entry) → w.clock ≤ (world_after rules w es).clock
  clock_after w [] = omega arith
  clock_after w (e ∷ es) =
      omega (arith, clock_after (call rules w e.caller e.request).0 es, (stays_call rules w e.caller e.request).clock)

  no_draw : (b t r : Bool) → not b || r ≡ true → not b && t ≡ false → (r ≡ true → t ≡ false) → t ≡ false
  no_draw true t true e f g = g refl
  no_draw true t false e f g = absurd cc
  no_draw false t r e f g = f

  read_draws_none : (n : ℕ) (r : Request) → is_read r ≡ true → is_take_for n r ≡ false
  read_draws_none n (request.Read name x) e = refl
  read_draws_none n (request.Take p k) e = absurd cc
  read_draws_none n (request.TakeFor k) e = absurd cc
  read_draws_none n (request.Write a b c) e = absurd cc
  read_draws_none n (request.Apply a) e = absurd cc
  read_draws_none n (request.Dispose a) e = absurd cc

  record LastStays (n : ℕ) (w after : World P) : Type 0 where
    pub last : last_of after n ≡ last_of w n
    pub long : length w.lasts ≤ length after.lasts

  last_after : (number n : ℕ) (w : World P) (es : List Entry) → AreOthersOrReads number es → IsOnlyTaker number n es
      → LastStays n w (world_after rules w es)
  last_after number n w [] a b = record { last = refl; long = omega arith }
  last_after number n w (e ∷ es) a b =
      let none = no_draw (e.caller == number) (is_take_for n e.request) (is_read e.request) a.0 b.0
      (read_draws_none n e.request) in
      let one = stays_call rules w e.caller e.request in
      let more = last_after number n (call rules w e.caller e.request).0 es a.1 b.1 in
      record { last = more.last ∙ one.lasts n none; long = omega (arith, more.long, one.watchers) }

  pub only_taker_parts : (number n : ℕ) (a b : List Entry) → IsOnlyTaker number n (a ++ b)
      → IsOnlyTaker number n a × IsOnlyTaker number n b
  only_taker_parts number n [] b h = (tt, h)
  only_taker_parts number n (e ∷ a) b h = let r = only_taker_parts number n a b h.1 in ((h.0, r.0), r.1)

  pub both_others_or_reads : (number : ℕ) (a b : List Entry) → AreOthersOrReads number a → AreOthersOrReads number b
      → AreOthersOrReads number (a ++ b)
  both_others_or_reads number [] b h k = k
  both_others_or_reads number (e ∷ a) b h k = (h.0, both_others_or_reads number a b h.1 k)

  -- A world that is possible after a longer history.
  pub now_on : (opens opens' : World P → Type 0) (log log' more : List Entry) (w : World P)
      → ((o : World P) → opens o → opens' o) → ((o : World P) → opens o → IsLegal rules o log → IsLegal rules o log')
      → log' ≡ log ++ more →
      IsPossibleWorld rules opens log w → IsPossibleWorld rules opens' log' (world_after rules w more)
  now_on opens opens' log log' more w opens_on legal_on is n = record {
    opening = n.opening;
    is_opening = opens_on n.opening n.is_opening;
    valid = n.valid;
    legal = legal_on n.opening n.is_opening n.legal;
    is = ap (λ (v : World P). world_after rules v more) n.is ∙ sym (after_append n.opening log more)
        ∙ ap (λ (l : List Entry). world_after rules n.opening l) (sym is);
  }

  -- The map stays the same over other callers' calls and own reads.
  pub sees_over : KeepsTypes rules
      → (opens opens' : World P → Type 0) (log log' more : List Entry) (number : ℕ) (opened : Option ℕ) (m : Map)
      → ((o : World P) → opens o → opens' o) → ((o : World P) → opens o → IsLegal rules o log → IsLegal rules o log')
      → log' ≡ log ++ more →
      AreOthersOrReads number more → SeesMap rules opens log number opened m → SeesMap rules opens' log' number opened m
  sees_over keeps opens opens' log log' more number None m opens_on legal_on is others_or_reads h = absurd h.mine
  sees_over keeps opens opens' log log' more number (Some name) m opens_on legal_on is others_or_reads h =
      let same = snapshot_after keeps number name h.world more (valid_now keeps opens log h.world h.now) h.mine
      others_or_reads in
      record {
        world = world_after rules h.world more;
        now = now_on opens opens' log log' more h.world opens_on legal_on is h.now;
        mine = mine_on number name h.world (world_after rules h.world more) same h.mine;
        shows = h.shows ∙ ap (λ (s : Snapshot). s.view) (sym same);
        full = h.full ∙ ap (λ (os : List (Object P)). length os) (sym (objects_after h.world more));
      }

  pub lasts_over : KeepsTypes rules
      → (opens opens' : World P → Type 0) (log log' more : List Entry) (number n : ℕ) (types : List Ty) (l : Option Map)
      → ((o : World P) → opens o → opens' o) → ((o : World P) → opens o → IsLegal rules o log → IsLegal rules o log')
      → log' ≡ log ++ more →
      AreOthersOrReads number more → IsOnlyTaker number n log' → Lasts rules (IsPossibleWorld rules opens log) n types l
      → Lasts rules (IsPossibleWorld rules opens' log') n types l
  lasts_over keeps opens opens' log log' more number n types l opens_on legal_on is others_or_reads alone h =
      let on = last_after number n h.world more others_or_reads
      (only_taker_parts number n log more (subst (λ (s : List Entry). IsOnlyTaker number n s) is alone)).1 in
      record {
        world = world_after rules h.world more;
        stands_for = now_on opens opens' log log' more h.world opens_on legal_on is h.stands_for;
        valid = valid_after keeps h.world more h.valid;
        known = omega (arith, h.known, on.long);
        is = on.last ∙ h.is;
        types_are = ap (λ (os : List (Object P)). map (λ o. o.ty) os) (objects_after h.world more) ∙ h.types_are;
      }

  long_after : (w : World P) (es : List Entry) → length w.lasts ≤ length (world_after rules w es).lasts
  long_after w [] = omega arith
  long_after w (e ∷ es) =
      omega (arith, long_after (call rules w e.caller e.request).0 es, (stays_call rules w e.caller e.request).watchers)

  -- The watcher still exists, whatever its last map is then.
  pub known_over : KeepsTypes rules
      → (opens : World P → Type 0) (log log' more : List Entry) (n : ℕ) (types : List Ty) (l : Option Map)
      → ((o : World P) → opens o → IsLegal rules o log → IsLegal rules o log') → log' ≡ log ++ more →
      Lasts rules (IsPossibleWorld rules opens log) n types l
      → (l' : Option Map) × Lasts rules (IsPossibleWorld rules opens log') n types l'
  known_over keeps opens log log' more n types l legal_on is h = (
    last_of (world_after rules h.world more) n,
    record {
      world = world_after rules h.world more;
      stands_for = now_on opens opens log log' more h.world (λ o p. p) legal_on is h.stands_for;
      valid = valid_after keeps h.world more h.valid;
      known = omega (arith, h.known, long_after h.world more);
      is = refl;
      types_are = ap (λ (os : List (Object P)). map (λ o. o.ty) os) (objects_after h.world more) ∙ h.types_are;
    },
  )

  pub clock_over : (opens opens' : World P → Type 0) (log log' more : List Entry) (k : ℕ)
      → ((o : World P) → opens o → opens' o) → ((o : World P) → opens o → IsLegal rules o log → IsLegal rules o log')
      → log' ≡ log ++ more →
      ClockIsAtLeast rules opens log k → ClockIsAtLeast rules opens' log' k
  clock_over opens opens' log log' more k opens_on legal_on is h = record {
    world = world_after rules h.world more;
    now = now_on opens opens' log log' more h.world opens_on legal_on is h.now;
    reached = omega (arith, h.reached, clock_after h.world more);
  }

module _ {P : Type 0} {rules : Rules P} {opens opens' : World P → Type 0} {seen seen' : List Entry} {number number' : ℕ}
    {opened opened' : Option ℕ} (k : SeatAfterReads rules opens opens' seen seen' number number' opened opened') where
  pub kept_sees : KeepsTypes rules → (m : Map) → SeesMap rules opens seen number opened m
      → SeesMap rules opens' seen' number' opened' m
  kept_sees keeps m h = rw (k.same_number, k.same_name)
      (sees_over rules keeps opens opens' seen seen' k.more number opened m k.opens_on k.legal_on k.is k.others_or_reads
      h)

  pub kept_lasts : KeepsTypes rules → (n : ℕ) (types : List Ty) (l : Option Map) → IsOnlyTaker number' n seen'
      → Lasts rules (IsPossibleWorld rules opens seen) n types l
      → Lasts rules (IsPossibleWorld rules opens' seen') n types l
  kept_lasts keeps n types l alone h = lasts_over rules keeps opens opens' seen seen' k.more number n types l k.opens_on
      k.legal_on k.is k.others_or_reads (subst (λ (i : ℕ). IsOnlyTaker i n seen') k.same_number alone) h

  pub kept_clock : (n : ℕ) → ClockIsAtLeast rules opens seen n → ClockIsAtLeast rules opens' seen' n
  kept_clock n h = clock_over rules opens opens' seen seen' k.more n k.opens_on k.legal_on k.is h

  pub only_taker_before : (n : ℕ) → IsOnlyTaker number' n seen' → IsOnlyTaker number n seen
  only_taker_before n alone = (only_taker_parts rules number n seen k.more
      (subst (λ (s : List Entry). IsOnlyTaker number n s) k.is
      (subst (λ (i : ℕ). IsOnlyTaker i n seen') k.same_number alone))).0

  pub further_of : SeesFurther rules opens seen seen'
  further_of = record { begins = (k.more, k.is); legal = k.legal_on }

  pub asked_of : AskedAndLogged (objects_read (own_calls number seen)) (objects_read (own_calls number' seen'))
      (Some (own_calls number seen)) (Some (own_calls number' seen')) number opened
  asked_of = record { more = k.read; asks = k.asks; tells = k.tells }

  pub grows_of : Extends (objects_read (own_calls number seen)) (objects_read (own_calls number' seen'))
  grows_of = record { more = k.read; is = k.asks }

  pub legal_of : AreLegal rules (λ w. ⊥) (Some (own_calls number seen)) (Some (own_calls number' seen'))
  legal_of = by opened k.tells where
    by : (o : Option ℕ) → LogsReadsIn (Some (own_calls number seen)) (Some (own_calls number' seen')) number o k.read
        → AreLegal rules (λ w. ⊥) (Some (own_calls number seen)) (Some (own_calls number' seen'))
    by None t = record {
      more = [];
      log_is = t.0 ∙ ap (λ (l : List Entry). Some l) (sym (append-nil (own_calls number seen)));
      legal = λ w b. absurd b;
      leaves = λ w b. absurd b;
    }
    by (Some name) t = record { more = t.more; log_is = t.log_is; legal = λ w b. absurd b; leaves = λ w b. absurd b }

-- What a seat has seen goes on twice.
pub further_on : {W P : Type 0} {rules : Rules P} (stands : W → World P → Type 0) {one other : W} {a b c : List Entry}
    → other ≡ one → SeesFurther rules (stands one) a b → SeesFurther rules (stands other) b c
    → SeesFurther rules (stands one) a c
further_on {W} {P} {rules} stands {one} {other} {a} {b} {c} same h k = record {
  begins = (
    h.begins.0 ++ k.begins.0,
    k.begins.1 ∙ ap (λ (l : List Entry). l ++ k.begins.0) h.begins.1
        ∙ append_assoc a h.begins.0 k.begins.0,
  );
  legal = λ o p l. k.legal o (subst (λ (w : W). stands w o) (sym same) p) (h.legal o p l);
}

-- A desk without a call in between.
pub keeps_itself : {P : Type 0} (rules : Rules P) (opens : World P → Type 0) (seen : List Entry) (number : ℕ)
    (opened : Option ℕ) → SeatAfterReads rules opens opens seen seen number number opened opened
keeps_itself rules opens seen number opened = record {
  opens_on = λ o h. h;
  legal_on = λ o h l. l;
  more = [];
  others_or_reads = tt;
  is = sym (append-nil seen);
  same_number = refl;
  same_name = refl;
  read = [];
  asks = sym (append-nil (objects_read (own_calls number seen)));
  tells = tells_none (Some (own_calls number seen)) number opened;
}

map_append : {A B : Type 0} (f : A → B) (xs ys : List A) → map f (xs ++ ys) ≡ map f xs ++ map f ys
map_append f [] ys = refl
map_append f (x ∷ xs) ys = ap (λ l. f x ∷ l) (map_append f xs ys)

logged_on : (h k : List Entry) (new : Option (List Entry)) (caller name : ℕ) (xs ys : List ℕ)
    → ReadsLogged h (Some k) caller name xs → ReadsLogged k new caller name ys
    → ReadsLogged h new caller name (xs ++ ys)
logged_on h k new caller name xs ys t u =
    let same : k ≡ h ++ t.more = cc in
    record {
      more = t.more ++ u.more;
      log_is = u.log_is ∙ ap (λ (l : List Entry). Some (l ++ u.more)) same
          ∙ ap (λ (l : List Entry). Some l) (append_assoc h t.more u.more);
      reads = map_append call_of t.more u.more ∙ ap (λ l. l ++ map call_of u.more) t.reads
          ∙ ap (λ l. reads_of caller name xs ++ l) u.reads
          ∙ sym (map_append (λ x. (caller, request.Read name x)) xs ys);
    }

logs_on : (h k : List Entry) (new : Option (List Entry)) (caller : ℕ) (opened : Option ℕ) (xs ys : List ℕ)
    → LogsReadsIn (Some h) (Some k) caller opened xs → LogsReadsIn (Some k) new caller opened ys
    → LogsReadsIn (Some h) new caller opened (xs ++ ys)
logs_on h k new caller None xs ys t u = (u.0 ∙ t.0, rw (t.1) u.1)
logs_on h k new caller (Some name) xs ys t u = logged_on h k new caller name xs ys t u

pub keeps_on : {P : Type 0} {rules : Rules P} {r s t : World P → Type 0} {a b c : List Entry} {i j k : ℕ}
    {x y z : Option ℕ} → SeatAfterReads rules r s a b i j x y → SeatAfterReads rules s t b c j k y z
    → SeatAfterReads rules r t a c i k x z
keeps_on {rules = rules} {a = a} {b = b} {c = c} {i = i} {j = j} {k = k} {x = x} f g = record {
  opens_on = λ o h. g.opens_on o (f.opens_on o h);
  legal_on = λ o h l. g.legal_on o (f.opens_on o h) (f.legal_on o h l);
  more = f.more ++ g.more;
  others_or_reads = both_others_or_reads rules i f.more g.more f.others_or_reads
      (subst (λ (n : ℕ). AreOthersOrReads n g.more) f.same_number g.others_or_reads);
  is = g.is ∙ ap (λ (l : List Entry). l ++ g.more) f.is ∙ append_assoc a f.more g.more;
  same_number = g.same_number ∙ f.same_number;
  same_name = g.same_name ∙ f.same_name;
  read = f.read ++ g.read;
  asks = g.asks ∙ ap (λ (l : List ℕ). l ++ g.read) f.asks ∙ append_assoc (objects_read (own_calls i a)) f.read g.read;
  tells = logs_on (own_calls i a) (own_calls j b) (Some (own_calls k c)) i x f.read g.read f.tells
      (subst (λ (n : ℕ). LogsReadsIn (Some (own_calls j b)) (Some (own_calls k c)) n x g.read) f.same_number
      (subst (λ (o : Option ℕ). LogsReadsIn (Some (own_calls j b)) (Some (own_calls k c)) j o g.read) f.same_name
      g.tells));
}
