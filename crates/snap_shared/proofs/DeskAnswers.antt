-- The clauses of the calls of a seat's desk.
use Rattle.std.proofs.Common.{ℕ, List, ◌≡◌, ◌++◌, ◌∷◌, [], refl, sym, ap, ◌∙◌, subst, Option, Some, false, true, Bool, cond, append_assoc, append-nil, Err}
use Rattle.rt_values.specs.Maps.{Map, value_at}
use Rattle.rt_values.specs.Values.{no_value}
use Rattle.rt_values.specs.Views.{Grew}
use Rattle.rt_values.specs.declared.value.Ty.{Ty}
use Rattle.rt_values.specs.declared.value.Value.{Value}
use Rattle.snap_policy.specs.Rules.{Rules, KeepsTypes}
use Rattle.snap_api.specs.Calls.{Logs, IsOwn, is_no_memory}
use Rattle.snap_api.specs.Desks.{Lasts, Taken, TakesForWatcher, ShowsTyped, SpentAtEnd}
use Rattle.snap_api.specs.World.{World, world_after, clock_limit}
use Rattle.snap_api.specs.declared.data.Entry.{Entry}
use Rattle.snap_api.specs.declared.data.Refusal.{Refusal}
use Rattle.snap_api.specs.declared.data.Refusal.TheVariants as refusal
use Rattle.snap_api.specs.declared.data.Reply.{Reply}
use Rattle.snap_api.specs.declared.data.Reply.TheVariants as reply
use Rattle.snap_api.specs.declared.data.Request.{Request}
use Rattle.snap_api.specs.declared.data.Request.TheVariants as request
use Rattle.snap_shared.specs.SharedCalls.{own_calls, entries_added, SeesOwnCall}
use Rattle.snap_shared.specs.HistoryEffects.{kept_sees}
use Rattle.snap_shared.specs.SeatDesk.{IsOnlyTaker, IsPossibleWorld, SeesMap, ClockIsAtLeast, SeesFurther, SeatAfterReads, objects_of_read, objects_read}
use Rattle.snap_shared.proofs.OwnCalls.{entry, own_new, objects_read-append, logs_own}
use Rattle.snap_shared.proofs.DeskCalls.{alone_old, keeps_read, asked_one, asked_part, value_got, value_unknown, took_good, took_shown, took_bad, spent_good, spent_bad, refused_lasts, refused_sees, disposed_last, own_seen}

module _ {W P : Type 0} (rules : Rules P) (keeps : KeepsTypes rules) (stands : W → World P → Type 0) (key : W)
    (number number' : ℕ) (old new : List Entry) (name x : ℕ) (r : Reply)
    (c : SeesOwnCall rules stands key number old new (request.Read name x) r) (same : number' ≡ number)
    (opened : Option ℕ) (is : opened ≡ Some name) where
  pub view_keeps : SeatAfterReads rules (stands key) (stands key) old new number number' opened opened
  view_keeps = subst (λ (o : Option ℕ). SeatAfterReads rules (stands key) (stands key) old new number number' o o)
      (sym is) (keeps_read rules stands key number old new name x r c number' same)

  pub view_same : (m : Map) → SeesMap rules (stands key) old number opened m
      → SeesMap rules (stands key) new number' opened m
  view_same m h = kept_sees view_keeps keeps m h

  pub view_asks : is_no_memory r ≡ false
      → objects_read (own_calls number' new) ≡ objects_read (own_calls number old) ++ x ∷ []
  view_asks other =
      ap (λ (n : ℕ). objects_read (own_calls n new)) same ∙ asked_one rules stands key number old new name x r c other

  pub view_part : Grew (objects_read (own_calls number old)) (objects_read (own_calls number' new)) (x ∷ [])
  view_part = subst (λ (n : ℕ). Grew (objects_read (own_calls number old)) (objects_read (own_calls n new)) (x ∷ []))
      (sym same) (asked_part rules stands key number old new name x r c)

  pub view_got : (m : Map) → SeesMap rules (stands key) old number opened m → (v : Value) → r ≡ reply.Got v
      → v ≡ value_at m x
  view_got m h v e = value_got rules keeps stands key number old new name x r c m
      (subst (λ (o : Option ℕ). SeesMap rules (stands key) old number o m) is h) v e

  pub view_unknown : (m : Map) → SeesMap rules (stands key) old number opened m
      → r ≡ reply.Refused refusal.UnknownObject → no_value ≡ value_at m x
  view_unknown m h e = value_unknown rules keeps stands key number old new name x r c m
      (subst (λ (o : Option ℕ). SeesMap rules (stands key) old number o m) is h) e

module _ {W P : Type 0} (rules : Rules P) (keeps : KeepsTypes rules) (stands : W → World P → Type 0) (key : W)
    (number number' : ℕ) (old new : List Entry) (same : number' ≡ number) where
  -- A call that is not a read keeps the list of objects read.
  pub asks_none : (q : Request) (r : Reply) → SeesOwnCall rules stands key number old new q r → objects_of_read q ≡ []
      → objects_read (own_calls number' new) ≡ objects_read (own_calls number old)
  asks_none q r c none =
      ap (λ (n : ℕ). objects_read (own_calls n new)) same ∙ ap objects_read (own_new number q r old new c.continues)
      ∙ objects_read-append (own_calls number old) (entries_added number q r)
      ∙ ap (λ l. objects_read (own_calls number old) ++ l) (by (is_no_memory r))
      ∙ append-nil (objects_read (own_calls number old)) where
        by : (b : Bool) → objects_read (cond b [] (entry number q r ∷ [])) ≡ []
        by true = refl
        by false = append-nil (objects_of_read q) ∙ none

  pub view_further : (q : Request) (r : Reply) → SeesOwnCall rules stands key number old new q r
      → SeesFurther rules (stands key) old new
  view_further q r c =
      record {
        begins = (
          c.continues.between ++ entries_added number q r,
          c.continues.is
              ∙ append_assoc old c.continues.between (entries_added number q r),
        );
        legal = λ o h l. c.legal o h;
      }

  pub view_log : (q : Request) (r : Reply) → SeesOwnCall rules stands key number old new q r
      → Logs (Some (own_calls number old)) (Some (own_calls number' new)) number q r
  view_log q r c = subst (λ (n : ℕ). Logs (Some (own_calls number old)) (Some (own_calls n new)) number q r) (sym same)
      (logs_own number q r old new c.continues)

  pub view_alone : (q : Request) (r : Reply) → SeesOwnCall rules stands key number old new q r → (n : ℕ)
      → IsOnlyTaker number' n new → IsOnlyTaker number n old
  view_alone q r c n alone =
      alone_old rules stands key number old new q r c n (subst (λ (i : ℕ). IsOnlyTaker i n new) same alone)

  pub view_still : (q : Request) (e : Refusal) → SeesOwnCall rules stands key number old new q (reply.Refused e)
      → (opened : Option ℕ) (m : Map) → SeesMap rules (stands key) old number opened m
      → SeesMap rules (stands key) new number' opened m
  view_still q e c opened m h = subst (λ (n : ℕ). SeesMap rules (stands key) new n opened m) (sym same)
      (refused_sees rules stands key number old new q (reply.Refused e) c keeps e refl opened m h)

  module _ (watcher : ℕ) where
    pub view_took : (name : ℕ) (changed : List ℕ) (types : List Ty) (l : Option Map)
        → SeesOwnCall rules stands key number old new (request.TakeFor watcher) (reply.TakenFor name changed)
        → Lasts rules (IsPossibleWorld rules (stands key) old) watcher types l → IsOnlyTaker number' watcher new →
        Taken (λ m. SeesMap rules (stands key) new number' (Some name) m)
        (λ l'. Lasts rules (IsPossibleWorld rules (stands key) new) watcher types l') types l name changed
    view_took name changed types l c h alone =
        subst (λ (n : ℕ). Taken (λ m. SeesMap rules (stands key) new n (Some name) m)
        (λ l'. Lasts rules (IsPossibleWorld rules (stands key) new) watcher types l') types l name changed)
        (sym same)
        (took_good rules keeps stands key number old new watcher name changed types l c h
        (subst (λ (i : ℕ). IsOnlyTaker i watcher new) same alone))

    pub view_shown : (name : ℕ) (changed : List ℕ) (types : List Ty) (l : Option Map)
        → SeesOwnCall rules stands key number old new (request.TakeFor watcher) (reply.TakenFor name changed)
        → Lasts rules (IsPossibleWorld rules (stands key) old) watcher types l →
        ShowsTyped (λ m. SeesMap rules (stands key) new number' (Some name) m) types
    view_shown name changed types l c h =
        subst (λ (n : ℕ). ShowsTyped (λ m. SeesMap rules (stands key) new n (Some name) m) types) (sym same)
        (took_shown rules keeps stands key number old new watcher name changed types l c h)

    pub view_refused : (shows : Map → Type 0) (e : Refusal) (types : List Ty) (l : Option Map)
        → SeesOwnCall rules stands key number old new (request.TakeFor watcher) (reply.Refused e)
        → Lasts rules (IsPossibleWorld rules (stands key) old) watcher types l → IsOnlyTaker number' watcher new →
        TakesForWatcher shows (λ l'. Lasts rules (IsPossibleWorld rules (stands key) new) watcher types l') types l
        (Err e)
    view_refused shows e types l c h alone = took_bad rules keeps stands key number old new watcher shows e types l c h
        (subst (λ (i : ℕ). IsOnlyTaker i watcher new) same alone)

    pub view_spent : (name : ℕ) (changed : List ℕ) (k : ℕ)
        → SeesOwnCall rules stands key number old new (request.TakeFor watcher) (reply.TakenFor name changed)
        → ClockIsAtLeast rules (stands key) old k → k ≡ clock_limit → ⊥
    view_spent name changed k c h e = spent_good rules keeps stands key number old new watcher name changed k c h e

    pub view_spent_bad : (e : Refusal) (k : ℕ)
        → SeesOwnCall rules stands key number old new (request.TakeFor watcher) (reply.Refused e)
        → ClockIsAtLeast rules (stands key) old k → SpentAtEnd (λ n. ClockIsAtLeast rules (stands key) new n) k (Err e)
    view_spent_bad e k c h = spent_bad rules keeps stands key number old new watcher e k c h

  module _ (name : ℕ) where
    pub view_last : (n : ℕ) (types : List Ty) (l : Option Map)
        → SeesOwnCall rules stands key number old new (request.Dispose name) reply.Disposed
        → Lasts rules (IsPossibleWorld rules (stands key) old) n types l → IsOnlyTaker number' n new
        → Lasts rules (IsPossibleWorld rules (stands key) new) n types l
    view_last n types l c h alone = disposed_last rules keeps stands key number old new name n types l c h
        (subst (λ (i : ℕ). IsOnlyTaker i n new) same alone)

    pub view_last_bad : (e : Refusal) (n : ℕ) (types : List Ty) (l : Option Map)
        → SeesOwnCall rules stands key number old new (request.Dispose name) (reply.Refused e)
        → Lasts rules (IsPossibleWorld rules (stands key) old) n types l → IsOnlyTaker number' n new
        → Lasts rules (IsPossibleWorld rules (stands key) new) n types l
    view_last_bad e n types l c h alone = refused_lasts rules stands key number old new (request.Dispose name)
        (reply.Refused e) c keeps e refl n types l (subst (λ (i : ℕ). IsOnlyTaker i n new) same alone) h

    pub view_own : (opened : Option ℕ) → opened ≡ Some name → (m : Map) → SeesMap rules (stands key) old number opened m
        → (o : World P) × stands key o × IsOwn (world_after rules o old) number name
    view_own opened is m h = own_seen rules keeps stands key number old new name m
        (subst (λ (o : Option ℕ). SeesMap rules (stands key) old number o m) is h)
