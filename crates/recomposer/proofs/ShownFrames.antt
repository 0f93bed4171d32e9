-- The contract of a frame in the shown map, from what it composed.
use Rattle.std.proofs.Common.{◌≡◌, ℕ, ◌<◌, List, [], ◌++◌, refl, ap, ◌∙◌, subst, append-nil, Option, Some, None, Result, Ok, Err, IfOk, OnOk, IsOk}
use Rattle.rt_values.specs.Maps.{Map}
use Rattle.rt_values.specs.Views.{Grew}
use Rattle.rt_groups.specs.declared.report.Report.{Report}
use Rattle.rt_groups.specs.Frames.{LastFrame}
use Rattle.compose_model.specs.Frame.{kept_after}
use Rattle.composer.specs.FrameDrafts.{DraftGroups}
use Rattle.node_tree.specs.NodeTrees.{CursorTree}
use Rattle.snap_api.specs.Calls.{Logs, dispose_reply}
use Rattle.snap_api.specs.DeskReads.{AskedAndLogged}
use Rattle.snap_api.specs.declared.data.Entry.{Entry}
use Rattle.snap_api.specs.declared.data.Refusal.{Refusal}
use Rattle.snap_api.specs.declared.data.Reply.{Reply}
use Rattle.snap_api.specs.declared.data.Reply.TheVariants as reply
use Rattle.snap_api.specs.declared.data.Request.TheVariants as request
use Rattle.recomposer.specs.declared.composition.Composition.{Composition}
use Rattle.recomposer.specs.declared.composition.FrameStop.{FrameStop}
use Rattle.recomposer.specs.declared.composition.FrameStop.TheVariants.{TooManyGroups, ApplierFault, Spent}
use Rattle.recomposer.specs.AppliedFrames.{OwesNothing}
use Rattle.recomposer.specs.Composed.{IsComposed}
use Rattle.recomposer.specs.Compositions.{IsAt, frame_reads, EndsFrame, EndsPart, OwesNoCall, seen_again}
use Rattle.recomposer.specs.FrameContracts.{frame_result, InShownFrames, KeepsSettings, ComposesShown, LeavesApplier, DrivesApplier, AsksOwed, LogsEnd, IsSameDesk}
use Rattle.recomposer.specs.FrameEnds.{AsksComposed, KeepsGroups, IsReport, EndsComposed}
use Rattle.recomposer.proofs.Draws.{grows_finish}
use Rattle.recomposer.proofs.Frames.{grew_in_all}
use Rattle.recomposer.proofs.Logs.{closes, ends_of, ends_part, is_disposed}
use Rattle.recomposer.proofs.QuietFrames.{quiet_at, quiet_reads, quiet_kept}
use Rattle.recomposer.proofs.Stops.{stops, goods, on_ok, on_err, on_good, same_stop, good_not_err, unless_fault, no_cause}

-- The reads of a frame.
module _ (c : Composition) (shows : Map → Type 0) (asked asked' : List ℕ) where
  pub asks_all : {U : Type 0} (E : Type 0) (u : U)
      → InShownFrames c shows (λ k m. asked' ≡ asked ++ frame_reads c.program.now k m)
      → AsksComposed c shows asked asked' (goods E u)
  asks_all E u all = record {
    asks = all;
    part = λ k m h s. tt;
    quiet = λ k m h s q. quiet_reads c.program.now k m (quiet_at c k m h q) asked asked' (all k m h s);
  }

  pub asks_part : {E : Type 0} (U : Type 0) (e : E)
      → InShownFrames c shows (λ k m. Grew asked asked' (frame_reads c.program.now k m))
      → AsksComposed c shows asked asked' (stops U e)
  asks_part U e part = record { asks = λ k m h s. tt; part = part; quiet = λ k m h s q. tt }

  -- After the reads of a good frame, with any result.
  pub asks_on : {U E V : Type 0} (u : U) (r : Result V FrameStop) → AsksComposed c shows asked asked' (goods E u)
      → AsksOwed c shows asked asked' r
  asks_on u r a = record {
    asks = λ k m h s. on_ok r (a.asks k m h s);
    part = λ k m h s.
        let all : Grew asked asked' (frame_reads c.program.now k m) =
        record { rest = []; is = append-nil asked' ∙ a.asks k m h s } in
        on_err r all;
    fault = λ k m h s e. a.asks k m h s;
    quiet = λ k m h s q. on_ok r (a.quiet k m h s q);
  }

  -- The reads of a frame that stopped before its applier was called, with the reason of a later step.
  pub asks_refused : {U E : Type 0} (V : Type 0) (e : E) (f : FrameStop) → (f ≡ ApplierFault → ⊥)
      → AsksComposed c shows asked asked' (stops U e) → AsksOwed c shows asked asked' (stops V f)
  asks_refused V e f no_fault a = record {
    asks = λ k m h s. tt;
    part = a.part;
    fault = λ k m h s stop. absurd (no_fault (same_stop stop));
    quiet = λ k m h s q. tt;
  }

  -- The reads of a frame, after a step that reads nothing and may stop.
  pub asks_then : {U E F : Type 0} (X : Type 0) (last : List ℕ) (r : Result U E) (r' : Result U F) → last ≡ asked'
      → IfOk r' (λ u. (r ≡ Ok u) × X) → AsksComposed c shows asked asked' r → AsksComposed c shows asked last r'
  asks_then X last r (Ok u) same is a = record {
    asks = λ k m h s. same ∙ on_good r u is.0 (a.asks k m h s);
    part = λ k m h s. tt;
    quiet = λ k m h s q. same ∙ on_good r u is.0 (a.quiet k m h s q);
  }
  asks_then X last r (Err e) same is a = record {
    asks = λ k m h s. tt;
    part = λ k m h s. grew_in_all r asked asked' last (frame_reads c.program.now k m) same (a.asks k m h s)
        (a.part k m h s);
    quiet = λ k m h s q. tt;
  }

-- What a composition has kept after a frame.
module _ (c c' : Composition) (shows : Map → Type 0) where
  quiet_stays : {U : Type 0} (r : Result U FrameStop) (k : LastFrame) (m : Map) → IsAt c k (Some m) → OwesNoCall k m
      → OnOk r (IsAt c' (kept_after k (frame_result c.program.now k m)) (Some m))
      → OnOk r (IsAt c' (seen_again k m) (Some m))
  quiet_stays (Ok u) k m h q good = quiet_kept c.program.now k m (quiet_at c k m h q) c' good
  quiet_stays (Err e) k m h q good = tt

  pub shown_composed : (composed : Option DraftGroups) (result : Result Report FrameStop)
      {tree tree' : Option CursorTree} {faults faults' : ℕ} {untouched : Type 0}
      → InShownFrames c shows (λ k m. IsComposed c k m composed)
      → EndsComposed c c' composed tree tree' faults faults' untouched result → ComposesShown c c' shows result
  shown_composed composed result made ends = record {
    good = λ k m h s. ends.good k m h (made k m h s);
    report = λ k m h s. ends.report k m h (made k m h s);
    many = λ k m h s e. absurd (ends.few e);
    fault = λ k m h s e. ends.fault k m h (made k m h s) e;
    made = λ k m h s. ends.made k m h (made k m h s);
    detached = λ k m h s e. ends.detached k m h (made k m h s) e;
    quiet = λ k m h s q. quiet_stays result k m h q (ends.good k m h (made k m h s));
    err = ends.err;
    not_spent = ends.not_spent;
    settings = ends.settings;
  }

  pub shown_kept : (composed : Option DraftGroups) (report : Report)
      → InShownFrames c shows (λ k m. IsComposed c k m composed) → KeepsSettings c c' → KeepsGroups c composed c'
      → IsReport c composed report → ComposesShown c c' shows (Ok report)
  shown_kept composed report made settings good told = record {
    good = λ k m h s. good k m h (made k m h s);
    report = λ k m h s. told k m h (made k m h s);
    many = λ k m h s e. good_not_err e;
    fault = λ k m h s e. good_not_err e;
    made = λ k m h s e. good_not_err e;
    detached = λ k m h s e. good_not_err e;
    quiet = λ k m h s q. quiet_kept c.program.now k m (quiet_at c k m h q) c' (good k m h (made k m h s));
    err = tt;
    not_spent = λ e. good_not_err e;
    settings = settings;
  }

-- A frame that stopped before it was composed.
pub shown_refused : (c : Composition) (shows : Map → Type 0) (stop : FrameStop)
    → InShownFrames c shows (λ k m. stop ≡ TooManyGroups → frame_result c.program.now k m ≡ None)
    → (stop ≡ Spent → ⊥) → (stop ≡ ApplierFault → ⊥) → ComposesShown c c shows (Err stop)
shown_refused c shows stop many not_spent no_fault = record {
  good = λ k m h s. tt;
  report = λ k m h s. tt;
  many = λ k m h s e. many k m h s (same_stop e);
  fault = λ k m h s e. absurd (no_fault (same_stop e));
  made = λ k m h s e. absurd (no_fault (same_stop e));
  detached = λ k m h s e. absurd (no_fault (same_stop e));
  quiet = λ k m h s q. tt;
  err = unless_fault {U = Report} {X = c ≡ c} (Err stop) refl;
  not_spent = λ e. not_spent (same_stop e);
  settings = record { program = refl; watcher = refl };
}

-- The applier of a frame.
module _ {A : Type 0} (tree : A → Option CursorTree) (faults : A → ℕ) where
  pub applier_driven : (old new : A) (c c' : Composition) (shows : Map → Type 0) (composed : Option DraftGroups)
      (result : Result Report FrameStop) → InShownFrames c shows (λ k m. IsComposed c k m composed)
      → (OwesNothing c → composed ≡ None)
      → EndsComposed c c' composed (tree old) (tree new) (faults old) (faults new) (new ≡ old) result
      → DrivesApplier tree faults old new c c' shows result
  applier_driven old new c c' shows composed result made none ends = record {
    applied = λ k m h s. ends.applied k m h (made k m h s);
    quiet = λ k m h s q. ends.unchanged k m h (made k m h s) (quiet_at c k m h q).calls_none;
    idle = λ nothing. ends.idle (none nothing);
    leaves = record { uncalled = ends.uncalled; still = ends.still; cause = ends.cause; lent = ends.lent };
  }

  -- A frame that stopped before it called the applier.
  pub applier_left : (a : A) (c c' : Composition) (stop : FrameStop) → c'.ops ≡ c.ops → (stop ≡ ApplierFault → ⊥)
      → LeavesApplier tree faults a a c c' (Err stop)
  applier_left a c c' stop lent no_fault = record {
    uncalled = tt;
    still = unless_fault {U = Report} {X = tree a ≡ tree a} (Err stop) refl;
    cause = no_cause (faults a) (Err stop) (λ e. no_fault (same_stop e));
    lent = lent;
  }

  pub applier_untouched : (a : A) (c : Composition) (shows : Map → Type 0) (stop : FrameStop)
      → (stop ≡ ApplierFault → ⊥) → DrivesApplier tree faults a a c c shows (Err stop)
  applier_untouched a c shows stop no_fault = record {
    applied = λ k m h s. tt;
    quiet = λ k m h s q. (refl, tt);
    idle = λ nothing. (refl, tt);
    leaves = applier_left a c c stop refl no_fault;
  }

  -- The applier of a frame that began with a composition of the same calls.
  pub applier_since : (old new : A) (c mid c' : Composition) (result : Result Report FrameStop) → mid.ops ≡ c.ops
      → LeavesApplier tree faults old new mid c' result → LeavesApplier tree faults old new c c' result
  applier_since old new c mid c' (Ok u) same left =
      record { uncalled = left.uncalled; still = left.still; cause = left.cause; lent = tt }
  applier_since old new c mid c' (Err e) same left =
      record { uncalled = left.uncalled; still = left.still; cause = left.cause; lent = left.lent ∙ same }

-- The log after the reads of a frame and the dispose.
module _ {U E V : Type 0} (c : Composition) (shows : Map → Type 0) (old mid new : Option (List Entry))
    (asked asked' last : List ℕ) (caller later name : ℕ) (opened : Option ℕ) (r : Result U E) (d : Result V Refusal)
    (a : AskedAndLogged asked asked' old mid caller opened) (is : opened ≡ Some name) (same : last ≡ asked')
    (called : later ≡ caller) (reads : AsksComposed c shows asked asked' r)
    (logs : Logs mid new later (request.Dispose name) (dispose_reply d))
    (good : (m : Map) → shows m → 0 < name → IsOk d) where
  disposed : (q : Result U FrameStop) → IfOk q (λ u. (r ≡ Ok u) × IsOk d) → OnOk q (dispose_reply d ≡ reply.Disposed)
  disposed (Ok u) both = is_disposed d both.1
  disposed (Err e) both = tt

  logged : (k : LastFrame) (m : Map) → IsAt c k (Some m) → shows m → (q : Result U FrameStop)
      → IfOk q (λ u. (r ≡ Ok u) × IsOk d) → OnOk q (EndsFrame old new caller name (frame_reads c.program.now k m))
  logged k m h s (Ok u) both =
      ends_of old mid new asked asked' (frame_reads c.program.now k m) caller later name opened a is
      (on_good r u both.0 (reads.asks k m h s)) called
      (subst (λ (y : Reply). Logs mid new later (request.Dispose name) y) (is_disposed d both.1) logs)
  logged k m h s (Err e) both = tt

  pub logs_end : (q : Result U FrameStop) → IfOk q (λ u. (r ≡ Ok u) × IsOk d) → (q ≡ Err ApplierFault → ⊥)
      → LogsEnd c shows asked last old new (caller, name) q
  logs_end q both no_fault = record {
    log = λ k m h s. logged k m h s q both;
    refused = λ k m h s inner. on_err q (ends_part old mid new asked asked' (frame_reads c.program.now k m) caller later
        name opened d a is
        (grew_in_all r asked asked' asked' (frame_reads c.program.now k m) refl (reads.asks k m h s) (reads.part k m h s))
        called (good m s inner) logs);
    fault = λ k m h s e. absurd (no_fault e);
    closed = closes shows old mid new asked asked' last caller later name opened d q a is same called logs
        (disposed q both) good;
    draws = λ n. grows_finish n old mid new asked asked' caller later name opened (dispose_reply d) a logs;
  }

-- The log after a later step, which adds nothing.
module _ (c : Composition) (shows : Map → Type 0) (asked asked' : List ℕ) (old new : Option (List Entry))
    (snapshot : ℕ × ℕ) where
  pub logs_on : {U T : Type 0} (u : U) (result : Result T FrameStop)
      → LogsEnd c shows asked asked' old new snapshot (goods FrameStop u)
      → LogsEnd c shows asked asked' old new snapshot result
  logs_on u result l = record {
    log = λ k m h s. on_ok result (l.log k m h s);
    refused = λ k m h s inner.
        let all : EndsPart old new snapshot.0 snapshot.1 (frame_reads c.program.now k m) = record {
          xs = frame_reads c.program.now k m;
          rest = [];
          is = append-nil (frame_reads c.program.now k m);
          ends = l.log k m h s;
        } in
        on_err result all;
    fault = λ k m h s e. l.log k m h s;
    closed = record {
      xs = l.closed.xs;
      asks = l.closed.asks;
      after_reads = l.closed.after_reads;
      reads = l.closed.reads;
      answer = l.closed.answer;
      closes = l.closed.closes;
      good = on_ok result l.closed.good;
      shown = l.closed.shown;
    };
    draws = l.draws;
  }

  same_reason : {U T : Type 0} {a b : FrameStop} → stops T a ≡ Err b → stops U a ≡ Err b
  same_reason e = ap Err (same_stop e)

  pub logs_refused : {U : Type 0} (T : Type 0) (stop : FrameStop)
      → LogsEnd c shows asked asked' old new snapshot (stops U stop)
      → LogsEnd c shows asked asked' old new snapshot (stops T stop)
  logs_refused T stop l = record {
    log = λ k m h s. tt;
    refused = l.refused;
    fault = λ k m h s e. l.fault k m h s (same_reason e);
    closed = record {
      xs = l.closed.xs;
      asks = l.closed.asks;
      after_reads = l.closed.after_reads;
      reads = l.closed.reads;
      answer = l.closed.answer;
      closes = l.closed.closes;
      good = tt;
      shown = l.closed.shown;
    };
    draws = l.draws;
  }

-- A desk stays the same through two calls, and so do the settings of a composition.

pub same_desk : {D : Type 0} (lends : D → D → Type 0) (alone : D → ℕ → Type 0) (caller : D → ℕ) (old mid new : D)
    → ((r s t : D) → lends r s → lends s t → lends r t) → IsSameDesk lends alone caller old mid
    → IsSameDesk lends alone caller mid new → IsSameDesk lends alone caller old new
same_desk lends alone caller old mid new on first second = record {
  lends = on old mid new first.lends second.lends;
  alone = λ n free. first.alone n (second.alone n free);
  caller = second.caller ∙ first.caller;
}

pub same_settings : (c mid c' : Composition) → KeepsSettings c mid → KeepsSettings mid c' → KeepsSettings c c'
same_settings c mid c' first second = record {
  program = second.program ∙ first.program;
  watcher = second.watcher ∙ first.watcher;
}
