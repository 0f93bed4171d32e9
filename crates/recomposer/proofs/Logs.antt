-- The log and the world after a frame.
use Rattle.std.proofs.Common.{◌≡◌, ℕ, ◌<◌, List, [], ◌∷◌, ◌++◌, inl, inr, refl, sym, ap, ◌∙◌, subst, Option, Some, None, Result, Ok, Err, IsOk, OnOk, append_assoc}
use Rattle.std.proofs.lemmas.List.{append_cancel_left}
use Rattle.snap_policy.specs.Rules.{Rules}
use Rattle.snap_api.proofs.Takes.{call-TakeFor}
use Rattle.snap_api.specs.Calls.{Calls, Logs, dispose_reply}
use Rattle.snap_api.specs.DeskReads.{AskedAndLogged, LogsReads, LogsReadsIn}
use Rattle.snap_api.specs.World.{World, call}
use Rattle.snap_api.specs.declared.data.Entry.{Entry}
use Rattle.snap_api.specs.declared.data.Refusal.{Refusal}
use Rattle.snap_api.specs.declared.data.Reply.TheVariants as reply
use Rattle.snap_api.specs.declared.data.Request.TheVariants as request
use Rattle.rt_values.specs.Maps.{Map}
use Rattle.rt_groups.specs.Frames.{LastFrame}
use Rattle.lang_ast.specs.declared.program.Program.{Program}
use Rattle.rt_values.specs.Views.{Grew}
use Rattle.recomposer.specs.declared.composition.FrameStop.{FrameStop}
use Rattle.recomposer.specs.declared.composition.FrameStop.TheVariants.{TooManyGroups, ApplierFault, Spent, NoMemory}
use Rattle.recomposer.specs.Compositions.{EndsFrame, EndsPart, ClosesFrame, LogsBegunFrame, LogsFrame, LogsNoFrame, MakesReads, PartOfFrame, refused_take, world_of_frame}

-- The dispose after reads always succeeds, because reads change no world.
pub always_disposed : {P U : Type 0} (rules : Rules P) (before mid after : World P → Type 0) (caller later name : ℕ)
    (r : Result U Refusal) → ((w : World P) → before w → mid w) → later ≡ caller → IsOk r →
    Calls rules mid after later (request.Dispose name) (dispose_reply r) → (w : World P) → before w
    → (reply.Disposed ≡ (call rules w caller (request.Dispose name)).1)
    × after (call rules w caller (request.Dispose name)).0
always_disposed rules before mid after caller later name (Ok u) kept same good does w h =
    subst (λ n. (reply.Disposed ≡ (call rules w n (request.Dispose name)).1)
    × after (call rules w n (request.Dispose name)).0) same (does w (kept w h))
always_disposed rules before mid after caller later name (Err e) kept same good does w h = absurd cc

-- The log after reads and the dispose.
ends : (old mid new : Option (List Entry)) (caller name : ℕ) (xs : List ℕ) → LogsReads old mid caller name xs
    → Logs mid new caller (request.Dispose name) reply.Disposed → EndsFrame old new caller name xs
ends None None new caller name xs told logs = logs
ends None (Some h) new caller name xs told logs = absurd cc
ends (Some h) None new caller name xs told logs = absurd cc
ends (Some h) (Some k) new caller name xs told logs =
    let same : k ≡ h ++ told.more = cc in
    record {
      more = told.more;
      log_is = logs
          ∙ ap (λ (l : List Entry). Some (l
          ++ record { caller = caller; request = request.Dispose name; reply = reply.Disposed } ∷ [])) same;
      reads = told.reads;
    }

-- The log after reads of all objects and the dispose.
pub ends_of : (old mid new : Option (List Entry)) (asked asked' xs : List ℕ) (caller later name : ℕ) (opened : Option ℕ)
    → AskedAndLogged asked asked' old mid caller opened → opened ≡ Some name → asked' ≡ asked ++ xs → later ≡ caller →
    Logs mid new later (request.Dispose name) reply.Disposed → EndsFrame old new caller name xs
ends_of old mid new asked asked' xs caller later name opened a is all same logs =
    let exact : a.more ≡ xs = append_cancel_left asked a.more xs (sym a.asks ∙ all) in
    let tells : LogsReads old mid caller name xs =
    subst (λ ys. LogsReadsIn old mid caller (Some name) ys) exact
    (subst (λ o. LogsReadsIn old mid caller o a.more) is a.tells) in
    ends old mid new caller name xs tells (subst (λ n. Logs mid new n (request.Dispose name) reply.Disposed) same logs)

pub is_disposed : {U : Type 0} (r : Result U Refusal) → IsOk r → dispose_reply r ≡ reply.Disposed
is_disposed (Ok u) good = refl
is_disposed (Err e) good = absurd cc

-- The log after reads and a dispose with any reply.
pub closes : {T U : Type 0} (shows : Map → Type 0) (old mid new : Option (List Entry)) (asked asked' last : List ℕ)
    (caller later name : ℕ) (opened : Option ℕ) (r : Result U Refusal) (result : Result T FrameStop)
    → AskedAndLogged asked asked' old mid caller opened →
    opened ≡ Some name → last ≡ asked' → later ≡ caller → Logs mid new later (request.Dispose name) (dispose_reply r)
    → OnOk result (dispose_reply r ≡ reply.Disposed) → ((m : Map) → shows m → 0 < name → IsOk r)
    → ClosesFrame shows asked last old new caller name result
closes shows old mid new asked asked' last caller later name opened r result a is same called logs good shown = record {
  xs = a.more;
  asks = same ∙ a.asks;
  after_reads = mid;
  reads = subst (λ o. LogsReadsIn old mid caller o a.more) is a.tells;
  answer = dispose_reply r;
  closes = subst (λ n. Logs mid new n (request.Dispose name) (dispose_reply r)) called logs;
  good = good;
  shown = λ m s inner. is_disposed r (shown m s inner);
}

-- The log after a first part of the reads and the dispose.
pub ends_part : {U : Type 0} (old mid new : Option (List Entry)) (asked asked' all : List ℕ) (caller later name : ℕ)
    (opened : Option ℕ) (r : Result U Refusal) → AskedAndLogged asked asked' old mid caller opened → opened ≡ Some name
    → Grew asked asked' all → later ≡ caller →
    IsOk r → Logs mid new later (request.Dispose name) (dispose_reply r) → EndsPart old new caller name all
ends_part old mid new asked asked' all caller later name opened r a is grew same good logs = record {
  xs = a.more;
  rest = grew.rest;
  is = append_cancel_left asked (a.more ++ grew.rest) all
      (sym (append_assoc asked a.more grew.rest) ∙ ap (λ l. l ++ grew.rest) (sym a.asks) ∙ grew.is);
  ends = ends_of old mid new asked asked' a.more caller later name opened a is a.asks same
      (subst (λ y. Logs mid new later (request.Dispose name) y) (is_disposed r good) logs);
}

-- The log after the whole frame.
pub whole_frame : (old mid new : Option (List Entry)) (caller later watcher name : ℕ) (changed xs : List ℕ)
    → Logs old mid caller (request.TakeFor watcher) (reply.TakenFor name changed) → later ≡ caller
    → EndsFrame mid new later name xs → LogsFrame old new caller watcher xs
whole_frame None None new caller later watcher name changed xs logs same h = h
whole_frame None (Some k) new caller later watcher name changed xs logs same h = absurd cc
whole_frame (Some h) None new caller later watcher name changed xs logs same e = absurd cc
whole_frame (Some h) (Some k) new caller later watcher name changed xs logs same e =
    let begun : k ≡ h ++ record { caller = caller; request = request.TakeFor watcher; reply = reply.TakenFor name changed } ∷ [] = cc in
    record {
      name = name;
      changed = changed;
      rest = subst (λ l. EndsFrame (Some l) new caller name xs) begun
          (subst (λ n. EndsFrame (Some k) new n name xs) same e);
    }

-- The log after the whole frame, with a first part of the reads.
pub part_of_frame : (old mid new : Option (List Entry)) (caller later watcher name : ℕ) (changed all : List ℕ)
    → Logs old mid caller (request.TakeFor watcher) (reply.TakenFor name changed) → later ≡ caller
    → EndsPart mid new later name all → PartOfFrame old new caller watcher all
part_of_frame old mid new caller later watcher name changed all logs same e =
    record {
      xs = e.xs;
      rest = e.rest;
      is = e.is;
      logs = whole_frame old mid new caller later watcher name changed e.xs logs same e.ends;
    }

-- The log after a frame that has begun, and after one that has not.
module _ (p : Program) (k : LastFrame) (old new : Option (List Entry)) (caller watcher : ℕ) where
  pub log_begun : (stop : FrameStop) (last : Option Map) → (stop ≡ Spent → ⊥)
      → LogsBegunFrame p k old new caller watcher last → LogsNoFrame p k old new caller watcher stop last
  log_begun TooManyGroups last not_spent h = h
  log_begun ApplierFault last not_spent h = h
  log_begun Spent last not_spent h = absurd (not_spent refl)
  log_begun NoMemory last not_spent h = inr h

  pub log_not_begun : (stop : FrameStop) (last : Option Map) → (stop ≡ TooManyGroups → ⊥)
      → (stop ≡ ApplierFault → ⊥) → Logs old new caller (request.TakeFor watcher) (refused_take stop)
      → LogsNoFrame p k old new caller watcher stop last
  log_not_begun TooManyGroups last few no_fault h = absurd (few refl)
  log_not_begun ApplierFault last few no_fault h = absurd (no_fault refl)
  log_not_begun Spent last few no_fault h = h
  log_not_begun NoMemory last few no_fault h = inl h

-- The log after a good frame, with what was read.
pub makes_reads : {T : Type 0} (shows : Map → Type 0) (old mid new : Option (List Entry)) (asked asked' last : List ℕ)
    (caller later watcher name : ℕ) (changed : List ℕ) (x : T)
    → Logs old mid caller (request.TakeFor watcher) (reply.TakenFor name changed) → later ≡ caller →
    asked' ≡ asked → ClosesFrame shows asked' last mid new later name (Ok x)
    → MakesReads asked last old new caller watcher
makes_reads shows old mid new asked asked' last caller later watcher name changed x logs same asks e = record {
  xs = e.xs;
  asks = e.asks ∙ ap (λ l. l ++ e.xs) asks;
  logs = whole_frame old mid new caller later watcher name changed e.xs logs same
      (ends mid e.after_reads new later name e.xs e.reads
      (subst (λ y. Logs e.after_reads new later (request.Dispose name) y) e.good e.closes));
}

-- The world after the whole frame.
pub frame_world : {P : Type 0} (rules : Rules P) (before mid after : World P → Type 0) (caller later watcher name : ℕ)
    (changed : List ℕ) (w : World P) →
    Calls rules before mid caller (request.TakeFor watcher) (reply.TakenFor name changed) → later ≡ caller
    → Calls rules mid after later (request.Dispose name) reply.Disposed → before w
    → after (world_of_frame rules w caller watcher)
frame_world rules before mid after caller later watcher name changed w takes same disposes h =
    let told = takes w h in
    let named = (call-TakeFor rules w caller watcher name changed told.0).named in
    let open_world : World _ = (call rules w caller (request.TakeFor watcher)).0 in
    subst (λ n. after (call rules open_world caller (request.Dispose n)).0) named
    (subst (λ n. after (call rules open_world n (request.Dispose name)).0) same (disposes open_world told.1).1)
