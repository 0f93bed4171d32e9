-- What the calls of a run add to the log of its world.
use Rattle.std.proofs.Common.{◌≡◌, inl, inr, ℕ, ◌==◌, not, List, [], ◌∷◌, ◌++◌, map, All, Bool, true, false, cond, Option, Some, None, Result, Ok, Err, OnOk, IfOk, refl, sym, ap, ◌∙◌, subst, append_assoc, append-nil}
use Rattle.std.proofs.lemmas.Bool.Decides.{eqb_tells}
use Rattle.std.proofs.lemmas.List.Elements.{All-nil, All-cons}
use Rattle.std.proofs.lemmas.List.{append_cancel_left}
use Rattle.std.specs.List.{filter}
use Rattle.std.specs.Option.{option_map}
use Rattle.rt_values.specs.Maps.{Map, contains}
use Rattle.rt_values.specs.Views.{Grew}
use Rattle.rt_groups.specs.Frames.{LastFrame}
use Rattle.rt_groups.specs.declared.report.Report.{Report}
use Rattle.lang_ast.specs.Terms.{Func}
use Rattle.lang_ast.specs.declared.program.State.{State}
use Rattle.compose_model.specs.Frame.{FrameResult, frame, kept_after}
use Rattle.snap_policy.specs.declared.policy.BuiltIn.{BuiltIn}
use Rattle.snap_policy.specs.Table.{table}
use Rattle.snap_api.specs.Calls.{Logs, is_no_memory}
use Rattle.snap_api.specs.DeskReads.{LogsReadsIn, AreLegal, call_of, reads_of}
use Rattle.snap_api.specs.World.{World, History, IsLegal, call, world_after, snapshot_of}
use Rattle.snap_api.specs.declared.data.Entry.{Entry}
use Rattle.snap_api.specs.declared.data.Refusal.{Refusal}
use Rattle.snap_api.specs.declared.data.Refusal.TheVariants as refusal
use Rattle.snap_api.specs.declared.data.Reply.{Reply}
use Rattle.snap_api.specs.declared.data.Reply.TheVariants as reply
use Rattle.snap_api.specs.declared.data.Request.{Request}
use Rattle.snap_api.specs.declared.data.Request.TheVariants as request
use Rattle.recomposer.proofs.Draws.{read_first}
use Rattle.lang_script.specs.StepCalls.{ActorPart, request_of, notes_after, entry, sequential}
use Rattle.script_lang.specs.Lines.{Titles, Standing, next, ends_frame, frame_at, frame_taken, name_in}
use Rattle.script_lang.specs.PrintedCalls.{reads_frame, frames_after, printed_calls}
use Rattle.play_run.specs.RunLog.{frames_in, owed_reads, ReadsForResult, ReadsOwed, LogsRun}
use Rattle.play_run.specs.RunOutput.{Run, first_run, run_after_request, parts_after}
use Rattle.play_run.specs.RunState.{HasAsked, LogSoFar, IsLogged, AddsEntry, FrameReadsLogged, LogsFrameReads}

-- A call that had memory is added to the log.
adds_refused : (old new : Option (List Entry)) (caller : ℕ) (q : Request) (e : Refusal)
    → is_no_memory (reply.Refused e) ≡ false → Logs old new caller q (reply.Refused e)
    → AddsEntry old new (record { caller = caller; request = q; reply = reply.Refused e })
adds_refused None new caller q e had logs = logs
adds_refused (Some h) new caller q refusal.NoMemory had logs = absurd cc
adds_refused (Some h) new caller q refusal.Spent had logs = logs
adds_refused (Some h) new caller q (refusal.Closed n) had logs = logs
adds_refused (Some h) new caller q refusal.Global had logs = logs
adds_refused (Some h) new caller q (refusal.NotYours n) had logs = logs
adds_refused (Some h) new caller q refusal.UnknownObject had logs = logs
adds_refused (Some h) new caller q refusal.UnknownWatcher had logs = logs
adds_refused (Some h) new caller q refusal.ReadOnly had logs = logs
adds_refused (Some h) new caller q (refusal.WrongType t) had logs = logs
adds_refused (Some h) new caller q refusal.BadPolicy had logs = logs
adds_refused (Some h) new caller q refusal.ParentClosed had logs = logs
adds_refused (Some h) new caller q (refusal.Conflict x) had logs = logs

adds : (old new : Option (List Entry)) (caller : ℕ) (q : Request) (y : Reply) → is_no_memory y ≡ false
    → Logs old new caller q y → AddsEntry old new (record { caller = caller; request = q; reply = y })
adds None new caller q y had logs = logs
adds (Some h) new caller q (reply.Refused e) had logs = adds_refused (Some h) new caller q e had logs
adds (Some h) new caller q (reply.Taken n) had logs = logs
adds (Some h) new caller q (reply.TakenFor n c) had logs = logs
adds (Some h) new caller q (reply.Got v) had logs = logs
adds (Some h) new caller q (reply.Wrote b) had logs = logs
adds (Some h) new caller q reply.Applied had logs = logs
adds (Some h) new caller q reply.Disposed had logs = logs

pub adds_entry : (old new : Option (List Entry)) (w : World BuiltIn) (caller : ℕ) (q : Request) (y : Reply)
    → is_no_memory y ≡ false → Logs old new caller q y → y ≡ (call table w caller q).1
    → AddsEntry old new (entry w caller q)
adds_entry old new w caller q y had logs is = subst (λ z. AddsEntry old new
    (record { caller = caller; request = q; reply = z })) is (adds old new caller q y had logs)

pub legal_append : (w : World BuiltIn) (a b : History) → IsLegal table w a → IsLegal table (world_after table w a) b
    → IsLegal table w (a ++ b)
legal_append w [] b one two = two
legal_append w (e ∷ es) b one two = (one.0, legal_append (call table w e.caller e.request).0 es b one.1 two)

-- The reads of a frame are not printed.
pub unprinted : (frames : List ℕ) (caller name : ℕ) → contains name frames ≡ true → (more rest : History) (xs : List ℕ)
    → map call_of more ≡ reads_of caller name xs → printed_calls frames (more ++ rest) ≡ printed_calls frames rest
unprinted frames caller name inside [] rest xs is = refl
unprinted frames caller name inside (x ∷ more) rest [] is = absurd cc
unprinted frames caller name inside (x ∷ more) rest (o ∷ xs) is =
    let first = read_first caller name o xs x more is in
    ap (λ q. cond (reads_frame frames q) (printed_calls frames (more ++ rest))
    (x ∷ printed_calls (frames_after frames x) (more ++ rest))) first.0
    ∙ ap (λ b. cond b (printed_calls frames (more ++ rest)) (x ∷ printed_calls (frames_after frames x) (more ++ rest)))
    inside
    ∙ unprinted frames caller name inside more rest xs first.1

module _ (functions : List Func) where
  collected : (s : Standing) (caller name : ℕ) → contains name s.frames ≡ true → (more rest : History) (ys xs : List ℕ)
      → map call_of more ≡ reads_of caller name xs
      → frames_in functions s ys (more ++ rest) ≡ frames_in functions s (ys ++ xs) rest
  collected s caller name inside [] rest ys [] is = ap (λ l. frames_in functions s l rest) (sym (append-nil ys))
  collected s caller name inside [] rest ys (o ∷ xs) is = absurd cc
  collected s caller name inside (x ∷ more) rest ys [] is = absurd cc
  collected s caller name inside (x ∷ more) rest ys (o ∷ xs) is =
      let first = read_first caller name o xs x more is in
      let here : frames_in functions s ys ((x ∷ more) ++ rest) ≡ frames_in functions s (ys ++ o ∷ []) (more ++ rest) =
      rw first.0 (rw inside refl) in
      here ∙ collected s caller name inside more rest (ys ++ o ∷ []) xs first.1
      ∙ ap (λ l. frames_in functions s l rest) (append_assoc ys (o ∷ []) xs)

  -- The walk after one call.
  pub next_world : (s : Standing) (e : Entry) → (next functions s e).world ≡ (call table s.world e.caller e.request).0
  next_world s e = by (ends_frame s.frames e.request)
    where
      by : (b : Bool) → (cond {A = Standing} b
          (record {
            world = (call table s.world e.caller e.request).0;
            kept = kept_after s.kept (frame_at functions s e);
            frames = filter (λ n. not (n == name_in e.request)) s.frames;
          })
          (record {
            world = (call table s.world e.caller e.request).0;
            kept = s.kept;
            frames = s.frames ++ frame_taken e.request e.reply;
          })).world ≡ (call table s.world e.caller e.request).0
      by true = refl
      by false = refl

  pub next_frames : (s : Standing) (e : Entry) → (next functions s e).frames ≡ frames_after s.frames e
  next_frames s e = by (ends_frame s.frames e.request)
    where
      by : (b : Bool) → (cond {A = Standing} b
          (record {
            world = (call table s.world e.caller e.request).0;
            kept = kept_after s.kept (frame_at functions s e);
            frames = filter (λ n. not (n == name_in e.request)) s.frames;
          })
          (record {
            world = (call table s.world e.caller e.request).0;
            kept = s.kept;
            frames = s.frames ++ frame_taken e.request e.reply;
          })).frames
          ≡ cond b (filter (λ n. not (n == name_in e.request)) s.frames) (s.frames ++ frame_taken e.request e.reply)
      by true = refl
      by false = refl

  -- A history that a call begins.
  legal_from : (w : World BuiltIn) (s : Standing) (actor : ℕ) (q : Request) (es : History) → w ≡ s.world
      → IsLegal table (next functions s (entry s.world actor q)).world es → IsLegal table w (entry s.world actor q ∷ es)
  legal_from w s actor q es is legal =
      subst (λ v. IsLegal table v (entry s.world actor q ∷ es)) (sym is)
      (refl, subst (λ v. IsLegal table v es) (next_world s (entry s.world actor q)) legal)

  printed_first : (s : Standing) (e : Entry) (es made : History) → reads_frame s.frames e.request ≡ false
      → made ++ printed_calls s.frames (e ∷ es) ≡ (made ++ e ∷ []) ++ printed_calls (next functions s e).frames es
  printed_first s e es made unread =
      ap (λ b. made ++ cond b (printed_calls s.frames es) (e ∷ printed_calls (frames_after s.frames e) es)) unread
      ∙ ap (λ f. made ++ (e ∷ printed_calls f es)) (sym (next_frames s e))
      ∙ sym (append_assoc made (e ∷ []) (printed_calls (next functions s e).frames es))

  module _ (r : Run) (p : ActorPart) (q : Request) where
    abbrev made_entry : Entry
    made_entry = entry r.standing.world p.actor q

    abbrev run' : Run
    run' = run_after_request functions r p (Some q)

    -- The log after a call that neither reads nor ends a frame.
    logged_some : (o : List Entry) (now now' : Option (List Entry)) → reads_frame r.standing.frames q ≡ false
        → ends_frame r.standing.frames q ≡ false → LogSoFar functions r o now → AddsEntry now now' made_entry
        → LogSoFar functions run' o now'
    logged_some o now now' unread unended h adds =
        let e = made_entry in
        let added : now' ≡ Some ((o ++ h.more) ++ e ∷ []) = subst (λ l. AddsEntry l now' e) h.log_is adds in
        record {
          more = h.more ++ e ∷ [];
          log_is = added ∙ ap (λ (l : List Entry). Some l) (append_assoc o h.more (e ∷ []));
          legal = λ es legal. subst (λ l. IsLegal table r.first.world l) (sym (append_assoc h.more (e ∷ []) es))
              (h.legal (e ∷ es) (legal_from r.standing.world r.standing p.actor q es refl legal));
          printed_is = λ es. ap (printed_calls r.first.frames) (append_assoc h.more (e ∷ []) es) ∙ h.printed_is (e ∷ es)
              ∙ printed_first r.standing e es r.made unread;
          frames_read = λ es all.
              let same : frames_in functions r.standing [] (e ∷ es) ≡ frames_in functions (next functions r.standing e) [] es = rw unread (rw unended refl) in
              subst (λ l. All (ReadsOwed functions) (frames_in functions r.first [] l))
              (sym (append_assoc h.more (e ∷ []) es))
              (h.frames_read (e ∷ es) (subst (λ l. All (ReadsOwed functions) l) (sym same) all));
        }

    pub logged_call : (old now now' : Option (List Entry)) → reads_frame r.standing.frames q ≡ false
        → ends_frame r.standing.frames q ≡ false → IsLogged functions r old now → AddsEntry now now' made_entry
        → IsLogged functions run' old now'
    logged_call None None now' unread unended h adds = adds
    logged_call None (Some k) now' unread unended h adds = absurd cc
    logged_call (Some o) now now' unread unended h adds = logged_some o now now' unread unended h adds

  pub itself : (n : ℕ) → (n == n) ≡ true
  itself n = elim (eqb_tells n n) [ inl e ↦ e.0 | inr e ↦ absurd (e.1 refl) ]

  -- The log after the reads of a frame and its dispose.
  module _ (r : Run) (p : ActorPart) (name : ℕ) (stands : World BuiltIn → Type 0) (stood : stands r.standing.world)
      (is_open : r.standing.frames ≡ name ∷ []) where
    abbrev closing : Entry
    closing = entry r.standing.world p.actor (request.Dispose name)

    abbrev run'' : Run
    run'' = run_after_request functions r p (Some (request.Dispose name))

    inside : contains name r.standing.frames ≡ true
    inside = rw is_open (rw (itself name) refl)

    ended_some : (o : List Entry) (now mid now' : Option (List Entry)) → LogSoFar functions r o now
        → LogsFrameReads functions stands p.actor name r.standing.kept (snapshot_of r.standing.world name).view now mid
        → AddsEntry mid now' closing → LogSoFar functions run'' o now'
    ended_some o now mid now' h reads adds =
        let w = r.standing.world in
        let m = (snapshot_of w name).view in
        let e = closing in
        let f : FrameReadsLogged functions stands p.actor name r.standing.kept m (o ++ h.more) mid =
        subst (λ l. LogsFrameReads functions stands p.actor name r.standing.kept m l mid) h.log_is reads in
        let added : now' ≡ Some (((o ++ h.more) ++ f.more) ++ e ∷ []) = subst (λ l. AddsEntry l now' e) f.log_is adds in
        let split : (es : History) → (h.more ++ (f.more ++ e ∷ [])) ++ es ≡ h.more ++ (f.more ++ (e ∷ es)) =
        λ es. append_assoc h.more (f.more ++ e ∷ []) es ∙ ap (λ l. h.more ++ l) (append_assoc f.more (e ∷ []) es) in
        record {
          more = h.more ++ (f.more ++ e ∷ []);
          log_is = added ∙ ap (λ (l : List Entry). Some l)
              (append_assoc (o ++ h.more) f.more (e ∷ []) ∙ append_assoc o h.more (f.more ++ e ∷ []));
          legal = λ es legal. subst (λ l. IsLegal table r.first.world l) (sym (split es))
              (h.legal (f.more ++ (e ∷ es))
              (legal_append w f.more (e ∷ es) (f.legal w stood)
              (legal_from (world_after table w f.more) r.standing p.actor (request.Dispose name) es
              (f.leaves w stood) legal)));
          printed_is = λ es. ap (printed_calls r.first.frames) (split es) ∙ h.printed_is (f.more ++ (e ∷ es))
              ∙ ap (λ l. r.made ++ l) (unprinted r.standing.frames p.actor name inside f.more (e ∷ es) f.xs f.reads)
              ∙ printed_first r.standing e es r.made refl;
          frames_read = λ es all.
              let last : frames_in functions r.standing f.xs (e ∷ es) ≡ record { kept = r.standing.kept; map = m; reads = f.xs } ∷ frames_in functions (next functions r.standing e) [] es = rw inside refl in
              let same = collected r.standing p.actor name inside f.more (e ∷ es) [] f.xs f.reads ∙ last in
              subst (λ l. All (ReadsOwed functions) (frames_in functions r.first [] l)) (sym (split es))
              (h.frames_read (f.more ++ (e ∷ es))
              (subst (λ l. All (ReadsOwed functions) l) (sym same)
              (All-cons (ReadsOwed functions) _ _ f.owed all)));
        }

    pub logged_end : (old now mid now' : Option (List Entry)) → IsLogged functions r old now
        → LogsFrameReads functions stands p.actor name r.standing.kept (snapshot_of r.standing.world name).view now mid
        → AddsEntry mid now' closing → IsLogged functions run'' old now'
    logged_end None None None now' h reads adds = adds
    logged_end None None (Some l) now' h reads adds = absurd cc
    logged_end None (Some k) mid now' h reads adds = absurd cc
    logged_end (Some o) now mid now' h reads adds = ended_some o now mid now' h reads adds

  -- What parts keep of a run, and the calls that they print.
  pub first_kept : (r : Run) (ps : List ActorPart)
      → ((parts_after functions r ps).first ≡ r.first) × ((parts_after functions r ps).log ≡ r.log)
  first_kept r [] = (refl, refl)
  first_kept r (p ∷ ps) = by (request_of r.notes p.part) (λ s. first_kept s ps)
    where
      by : (o : Option Request) → ((s : Run)
          → ((parts_after functions s ps).first ≡ s.first) × ((parts_after functions s ps).log ≡ s.log)) →
          ((parts_after functions (run_after_request functions r p o) ps).first ≡ r.first)
          × ((parts_after functions (run_after_request functions r p o) ps).log ≡ r.log)
      by None rest = rest r
      by (Some q) rest = rest (run_after_request functions r p (Some q))

  pub made_is : (r : Run) (ps : List ActorPart)
      → (parts_after functions r ps).made ≡ r.made ++ sequential r.standing.world r.notes ps
  made_is r [] = sym (append-nil r.made)
  made_is r (p ∷ ps) = by (request_of r.notes p.part) (λ s. made_is s ps)
    where
      by : (o : Option Request) → ((s : Run)
          → (parts_after functions s ps).made ≡ s.made ++ sequential s.standing.world s.notes ps)
          → (parts_after functions (run_after_request functions r p o) ps).made
          ≡ r.made ++ (elim o [
            | None ↦ sequential r.standing.world r.notes ps
            | Some q ↦ entry r.standing.world p.actor
                q ∷ sequential (call table r.standing.world p.actor q).0 (notes_after r.notes p.part
                (call table r.standing.world p.actor q).1) ps
          ])
      by None rest = rest r
      by (Some q) rest =
          let e = entry r.standing.world p.actor q in
          let notes = notes_after r.notes p.part (call table r.standing.world p.actor q).1 in
          rest (run_after_request functions r p (Some q))
          ∙ ap (λ w. (r.made ++ e ∷ []) ++ sequential w notes ps) (next_world r.standing e)
          ∙ append_assoc r.made (e ∷ []) (sequential (call table r.standing.world p.actor q).0 notes ps)

-- Before the first call nothing is logged.
pub logged_first : (functions : List Func) (states : List State) (log : Option (List Entry))
    → IsLogged functions (first_run states log) log log
logged_first functions states None = refl
logged_first functions states (Some o) = record {
  more = [];
  log_is = ap (λ (l : List Entry). Some l) (sym (append-nil o));
  legal = λ es h. h;
  printed_is = λ es. refl;
  frames_read = λ es h. h;
}

-- The log after the last call.
logged_last : (t : Titles) (functions : List Func) (ps : List ActorPart) (old now : Option (List Entry)) (r : Run)
    → r.first ≡ (first_run t.states old).first
    → r.made ≡ [] ++ sequential (first_run t.states old).standing.world (first_run t.states old).notes ps
    → IsLogged functions r old now → LogsRun t functions ps old now
logged_last t functions ps None now r first made h = h
logged_last t functions ps (Some o) now r first made h = record {
  more = h.more;
  log_is = h.log_is;
  legal = subst (λ l. IsLegal table _ l) (append-nil h.more)
      (subst (λ (s : Standing). IsLegal table s.world (h.more ++ [])) first (h.legal [] tt));
  printed_is = ap (printed_calls []) (sym (append-nil h.more))
      ∙ ap (λ (s : Standing). printed_calls s.frames (h.more ++ [])) (sym first) ∙ h.printed_is [] ∙ append-nil r.made
      ∙ made;
  frames_read = subst (λ l. All (ReadsOwed functions) (frames_in functions _ [] l)) (append-nil h.more)
      (subst (λ (s : Standing). All (ReadsOwed functions) (frames_in functions s [] (h.more ++ []))) first
      (h.frames_read [] (All-nil (ReadsOwed functions))));
}

pub run_logged : (t : Titles) (functions : List Func) (ps : List ActorPart) (old now : Option (List Entry))
    → IsLogged functions (parts_after functions (first_run t.states old) ps)
    (parts_after functions (first_run t.states old) ps).log now → LogsRun t functions ps old now
run_logged t functions ps old now h =
    let kept = first_kept functions (first_run t.states old) ps in
    logged_last t functions ps old now (parts_after functions (first_run t.states old) ps) kept.0
    (made_is functions (first_run t.states old) ps)
    (subst (λ l. IsLogged functions (parts_after functions (first_run t.states old) ps) l now) kept.1 h)

-- The reads of a frame, as its view tells them.
owed_good : (o : Option FrameResult) (told : Report) (all xs : List ℕ) → Some told ≡ option_map (λ g. g.told) o
    → xs ≡ all → ReadsForResult o all xs
owed_good None told all xs is same = absurd cc
owed_good (Some good) told all xs is same = same

owed_part : (o : Option FrameResult) (all xs rest : List ℕ) → o ≡ None → xs ++ rest ≡ all → ReadsForResult o all xs
owed_part o all xs rest is same = subst (λ p. ReadsForResult p all xs) (sym is) (rest, same)

-- A frame without a report was refused.
no_frame : (o : Option FrameResult) → None ≡ option_map (λ g. g.told) o → o ≡ None
no_frame None is = refl
no_frame (Some good) is = absurd cc

module _ (functions : List Func) (stands : World BuiltIn → Type 0) (caller name : ℕ) (k : LastFrame) (m : Map) where
  reads_logged : (old new : Option (List Entry)) (xs : List ℕ) → LogsReadsIn old new caller (Some name) xs
      → AreLegal table stands old new → ReadsOwed functions (record { kept = k; map = m; reads = xs })
      → LogsFrameReads functions stands caller name k m old new
  reads_logged None new xs told legal owed = told
  reads_logged (Some o) new xs told legal owed =
      let same : legal.more ≡ told.more =
      append_cancel_left o legal.more told.more
      (let e : Some (o ++ legal.more) ≡ Some (o ++ told.more) = sym legal.log_is ∙ told.log_is in cc) in
      record {
        more = told.more;
        log_is = told.log_is;
        xs = xs;
        reads = told.reads;
        legal = λ w stood. subst (λ l. IsLegal table w l) same (legal.legal w stood);
        leaves = λ w stood. ap (λ l. world_after table w l) (sym same) ∙ legal.leaves w stood;
        owed = owed;
      }

  -- The reads of a good frame.
  good_logged : (old new : Option (List Entry)) (asked asked' xs : List ℕ) (told : Report) → asked' ≡ asked ++ xs
      → LogsReadsIn old new caller (Some name) xs → AreLegal table stands old new
      → asked' ≡ asked ++ owed_reads functions k m → Some told ≡ option_map (λ g. g.told) (frame functions k m) →
      LogsFrameReads functions stands caller name k m old new
  good_logged old new asked asked' xs told asks logs legal all is =
      reads_logged old new xs logs legal
      (owed_good (frame functions k m) told (owed_reads functions k m) xs is
      (append_cancel_left asked xs (owed_reads functions k m) (sym asks ∙ all)))

  -- The reads of a refused frame.
  part_logged : (old new : Option (List Entry)) (asked asked' xs : List ℕ) → asked' ≡ asked ++ xs
      → LogsReadsIn old new caller (Some name) xs → AreLegal table stands old new
      → Grew asked asked' (owed_reads functions k m) → frame functions k m ≡ None →
      LogsFrameReads functions stands caller name k m old new
  part_logged old new asked asked' xs asks logs legal grew is =
      reads_logged old new xs logs legal (owed_part (frame functions k m) (owed_reads functions k m) xs grew.rest is
      (append_cancel_left asked (xs ++ grew.rest) (owed_reads functions k m)
      (sym (append_assoc asked xs grew.rest) ∙ ap (λ l. l ++ grew.rest) (sym asks) ∙ grew.is)))

  -- The reads of a frame, by its result.
  pub result_logged : {E : Type 0} (r : Result (Option Report) E) (old new : Option (List Entry))
      (asked asked' xs : List ℕ) → asked' ≡ asked ++ xs → LogsReadsIn old new caller (Some name) xs
      → AreLegal table stands old new →
      IfOk r (HasAsked asked asked' (owed_reads functions k m))
      → IfOk r (λ o. o ≡ option_map (λ g. g.told) (frame functions k m))
      → OnOk r (LogsFrameReads functions stands caller name k m old new)
  result_logged (Ok (Some told)) old new asked asked' xs asks logs legal all is =
      good_logged old new asked asked' xs told asks logs legal all is
  result_logged (Ok None) old new asked asked' xs asks logs legal part is =
      part_logged old new asked asked' xs asks logs legal part (no_frame (frame functions k m) is)
  result_logged (Err e) old new asked asked' xs asks logs legal all is = tt

-- What follows from the state after good steps.
pub logged_after : {A B : Type 0} → (A → B) → {T E : Type 0} (result : Result T E) → OnOk result A → OnOk result B
logged_after f (Ok x) a = f a
logged_after f (Err e) a = tt
