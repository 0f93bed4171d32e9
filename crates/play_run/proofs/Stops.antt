-- What the log and the bytes of a run are when it stops before its end.
use Rattle.std.proofs.Common.{◌≡◌, ◌≤◌, inl, inr, length, ℕ, List, [], ◌∷◌, ◌++◌, true, Option, Some, None, Result, Ok, Err, OnErr, refl, sym, ap, ◌∙◌, subst, arith, append_assoc, append-nil}
use Rattle.std.proofs.lemmas.List.{append_cancel_left}
use Rattle.std.proofs.lemmas.Grind.{flat_map-append}
use Rattle.std.specs.Io.KnownBytes.{Appends}
use Rattle.std.proofs.KnownBytes.{Appends-trans}
use Rattle.rt_streams.specs.Streams.{AppendsPart}
use Rattle.rt_values.specs.Maps.{contains}
use Rattle.lang_ast.specs.Terms.{Func}
use Rattle.snap_policy.specs.declared.policy.BuiltIn.{BuiltIn}
use Rattle.snap_policy.specs.Table.{table}
use Rattle.snap_api.specs.Calls.{Logs, is_no_memory}
use Rattle.snap_api.specs.DeskReads.{LogsReadsIn, AreLegal, ReadsLogged, ReadsAreLegal}
use Rattle.snap_api.specs.World.{World, IsLegal, world_after}
use Rattle.snap_api.specs.declared.data.Entry.{Entry}
use Rattle.snap_api.specs.declared.data.Refusal.TheVariants as refusal
use Rattle.snap_api.specs.declared.data.Reply.{Reply}
use Rattle.snap_api.specs.declared.data.Reply.TheVariants as reply
use Rattle.snap_api.specs.declared.data.Request.{Request}
use Rattle.snap_api.specs.declared.data.Request.TheVariants as request
use Rattle.lang_script.specs.StepCalls.{ActorPart, entry, sequential, no_notes, opening_world}
use Rattle.script_lang.specs.Lines.{LineStyle, Standing, initial_standing, run_text}
use Rattle.script_lang.specs.PrintedCalls.{printed_calls}
use Rattle.play_run.specs.RunLog.{StopsRun}
use Rattle.play_run.specs.RunOutput.{Run, first_run, run_after_request, part_after, parts_lines, parts_after}
use Rattle.play_run.specs.RunPromise.{WritesAtLeast}
use Rattle.play_run.specs.RunState.{LogSoFar, IsLogged, LogAtStop, IsLoggedAtStop, AddsEntry, MayAddEntry, StopsAt, flat}
use Rattle.play_run.proofs.RunLines.{run_text_is, lines_append, after_append}
use Rattle.play_run.proofs.RunLogs.{first_kept, made_is, legal_append, unprinted, itself}
use Rattle.play_run.proofs.Written.{appends_same}

-- A call that is out of memory is not logged.
no_entry : (old new : Option (List Entry)) (caller : ℕ) (q : Request) (y : Reply) → is_no_memory y ≡ true
    → Logs old new caller q y → new ≡ old
no_entry None new caller q y out logs = logs
no_entry (Some h) new caller q (reply.Refused refusal.NoMemory) out logs = logs
no_entry (Some h) new caller q (reply.Refused refusal.Spent) out logs = absurd cc
no_entry (Some h) new caller q (reply.Refused (refusal.Closed n)) out logs = absurd cc
no_entry (Some h) new caller q (reply.Refused refusal.Global) out logs = absurd cc
no_entry (Some h) new caller q (reply.Refused (refusal.NotYours n)) out logs = absurd cc
no_entry (Some h) new caller q (reply.Refused refusal.UnknownObject) out logs = absurd cc
no_entry (Some h) new caller q (reply.Refused refusal.UnknownWatcher) out logs = absurd cc
no_entry (Some h) new caller q (reply.Refused refusal.ReadOnly) out logs = absurd cc
no_entry (Some h) new caller q (reply.Refused (refusal.WrongType t)) out logs = absurd cc
no_entry (Some h) new caller q (reply.Refused refusal.BadPolicy) out logs = absurd cc
no_entry (Some h) new caller q (reply.Refused refusal.ParentClosed) out logs = absurd cc
no_entry (Some h) new caller q (reply.Refused (refusal.Conflict x)) out logs = absurd cc
no_entry (Some h) new caller q (reply.Taken n) out logs = absurd cc
no_entry (Some h) new caller q (reply.TakenFor n c) out logs = absurd cc
no_entry (Some h) new caller q (reply.Got v) out logs = absurd cc
no_entry (Some h) new caller q (reply.Wrote b) out logs = absurd cc
no_entry (Some h) new caller q reply.Applied out logs = absurd cc
no_entry (Some h) new caller q reply.Disposed out logs = absurd cc

pub may_add_none : (old new : Option (List Entry)) (caller : ℕ) (q : Request) (y : Reply) (e : Entry)
    → is_no_memory y ≡ true → Logs old new caller q y → MayAddEntry old new e
may_add_none old new caller q y e out logs = inl (no_entry old new caller q y out logs)

-- The log of a run, when it stops.
pub at_stop : (functions : List Func) (r : Run) (old now : Option (List Entry)) → IsLogged functions r old now
    → IsLoggedAtStop r old now
at_stop functions r None now h = h
at_stop functions r (Some o) now h = record {
  more = h.more;
  log_is = h.log_is;
  legal = subst (λ l. IsLegal table r.first.world l) (append-nil h.more) (h.legal [] tt);
  printed_is = ap (printed_calls r.first.frames) (sym (append-nil h.more)) ∙ h.printed_is [] ∙ append-nil r.made;
}

-- The run of a part stopped before its call was logged.
pub stops_unmade : (t : LineStyle) (functions : List Func) (r : Run) (ps : List ActorPart) (now : Option (List Entry))
    (written written' : Option (List ℕ)) (bytes : List ℕ) →
    IsLoggedAtStop r r.log now → AppendsPart written written' bytes → StopsAt t functions ps now written written' r
stops_unmade t functions r ps now written written' bytes h part = record {
  whole = [];
  last = [];
  rest = ps;
  split = refl;
  one = omega arith;
  logged = h;
  wrote = (part.0, part.3);
}

-- The run of a part stopped after its call was logged.
pub stops_made : (t : LineStyle) (functions : List Func) (r : Run) (p : ActorPart) (now : Option (List Entry))
    (written written' : Option (List ℕ)) (bytes : List ℕ) →
    IsLoggedAtStop (part_after functions r p) r.log now → AppendsPart written written' bytes
    → StopsAt t functions (p ∷ []) now written written' r
stops_made t functions r p now written written' bytes h part = record {
  whole = [];
  last = p ∷ [];
  rest = [];
  split = refl;
  one = omega arith;
  logged = h;
  wrote = (part.0, part.3);
}

-- The run of a part stopped at its call.
pub stops_at_call : (t : LineStyle) (functions : List Func) (r : Run) (p : ActorPart) (e : Entry)
    (now now' : Option (List Entry)) (written written' : Option (List ℕ)) (bytes : List ℕ) →
    IsLogged functions r r.log now
    → (AddsEntry now now' e → IsLogged functions (part_after functions r p) (part_after functions r p).log now')
    → MayAddEntry now now' e → AppendsPart written written' bytes →
    StopsAt t functions (p ∷ []) now' written written' r
stops_at_call t functions r p e now now' written written' bytes h made (inl same) part =
    stops_unmade t functions r (p ∷ []) now' written written' bytes
    (subst (λ l. IsLoggedAtStop r r.log l) (sym same) (at_stop functions r r.log now h)) part
stops_at_call t functions r p e now now' written written' bytes h made (inr adds) part =
    stops_made t functions r p now' written written' bytes
    (subst (λ l. IsLoggedAtStop (part_after functions r p) l now')
    (first_kept functions r (p ∷ [])).1 (at_stop functions (part_after functions r p)
    (part_after functions r p).log now' (made adds))) part

-- The lines of two lists of parts, as bytes.
lines_flat : (t : LineStyle) (functions : List Func) (r : Run) (ps qs : List ActorPart)
    → flat (parts_lines t functions r ps) ++ flat (parts_lines t functions (parts_after functions r ps) qs)
    ≡ flat (parts_lines t functions r (ps ++ qs))
lines_flat t functions r ps qs = sym (flat_map-append (λ l. l) (parts_lines t functions r ps)
    (parts_lines t functions (parts_after functions r ps) qs)) ∙ ap flat (sym (lines_append t functions r ps qs))

module _ (t : LineStyle) (functions : List Func) (r : Run) (ps qs : List ActorPart) (now : Option (List Entry)) where
  -- Parts were run, and the run of more parts stopped.
  stops_later : (written written' written'' : Option (List ℕ))
      → Appends written written' (flat (parts_lines t functions r ps)) →
      StopsAt t functions qs now written' written'' (parts_after functions r ps)
      → StopsAt t functions (ps ++ qs) now written written'' r
  stops_later written written' written'' done at =
      let first = flat (parts_lines t functions r ps) in
      let second = flat (parts_lines t functions (parts_after functions r ps) at.whole) in
      record {
        whole = ps ++ at.whole;
        last = at.last;
        rest = at.rest;
        split = append_assoc ps at.whole (at.last ++ at.rest) ∙ ap (λ l. ps ++ l) at.split;
        one = at.one;
        logged =
            subst (λ l. IsLoggedAtStop (parts_after functions r l) r.log now) (sym (append_assoc ps at.whole at.last))
            (subst (λ (s : Run). IsLoggedAtStop s r.log now) (sym (after_append t functions r ps (at.whole ++ at.last)))
            (subst (λ l. IsLoggedAtStop (parts_after functions (parts_after functions r ps) (at.whole ++ at.last)) l
            now) (first_kept functions r ps).1 at.logged));
        wrote = (
          at.wrote.0,
          appends_same written written'' _ _
              (sym (append_assoc first second at.wrote.0)
              ∙ ap (λ l. l ++ at.wrote.0) (lines_flat t functions r ps at.whole))
              (Appends-trans written written' written'' first (second ++ at.wrote.0) done at.wrote.1),
        );
      }

  pub stops_then : {U E : Type 0} (result : Result U E) (written written' written'' : Option (List ℕ))
      → Appends written written' (flat (parts_lines t functions r ps)) →
      OnErr result (StopsAt t functions qs now written' written'' (parts_after functions r ps))
      → OnErr result (StopsAt t functions (ps ++ qs) now written written'' r)
  stops_then (Ok x) written written' written'' done at = tt
  stops_then (Err e) written written' written'' done at = stops_later written written' written'' done at

  -- The run stopped before more parts.
  pub stops_front : (written written' : Option (List ℕ)) → StopsAt t functions ps now written written' r
      → StopsAt t functions (ps ++ qs) now written written' r
  stops_front written written' at = record {
    whole = at.whole;
    last = at.last;
    rest = at.rest ++ qs;
    split = ap (λ l. at.whole ++ l) (sym (append_assoc at.last at.rest qs))
        ∙ sym (append_assoc at.whole (at.last ++ at.rest) qs) ∙ ap (λ l. l ++ qs) at.split;
    one = at.one;
    logged = at.logged;
    wrote = at.wrote;
  }

-- A frame stopped: its reads are logged, and perhaps its dispose.
module _ (functions : List Func) (r : Run) (p : ActorPart) (name : ℕ) (stands : World BuiltIn → Type 0)
    (stood : stands r.standing.world) (is_open : r.standing.frames ≡ name ∷ []) where
  abbrev closing : Entry
  closing = entry r.standing.world p.actor (request.Dispose name)

  abbrev closed_run : Run
  closed_run = run_after_request functions r p (Some (request.Dispose name))

  inside : contains name r.standing.frames ≡ true
  inside = rw is_open (rw (itself functions name) refl)

  module _ (xs : List ℕ) (o : List Entry) (now mid now' : Option (List Entry)) (h : LogSoFar functions r o now)
      (reads : LogsReadsIn now mid p.actor (Some name) xs) (legal : AreLegal table stands now mid) where
    told : ReadsLogged (o ++ h.more) mid p.actor name xs
    told = subst (λ l. LogsReadsIn l mid p.actor (Some name) xs) h.log_is reads

    kept : ReadsAreLegal table stands (o ++ h.more) mid
    kept = subst (λ l. AreLegal table stands l mid) h.log_is legal

    same_reads : kept.more ≡ told.more
    same_reads = append_cancel_left (o ++ h.more) kept.more told.more
        (let e : Some ((o ++ h.more) ++ kept.more) ≡ Some ((o ++ h.more) ++ told.more) = sym kept.log_is
        ∙ told.log_is in cc)

    legal_reads : IsLegal table r.standing.world told.more
    legal_reads = subst (λ l. IsLegal table r.standing.world l) same_reads (kept.legal r.standing.world stood)

    leaves_world : world_after table r.standing.world told.more ≡ r.standing.world
    leaves_world = ap (λ l. world_after table r.standing.world l) (sym same_reads) ∙ kept.leaves r.standing.world stood

    -- The dispose is not logged.
    read_some : now' ≡ mid → LogAtStop r o now'
    read_some same = record {
      more = h.more ++ told.more;
      log_is = same ∙ told.log_is ∙ ap (λ (l : List Entry). Some l) (append_assoc o h.more told.more);
      legal = h.legal told.more legal_reads;
      printed_is = h.printed_is told.more
          ∙ ap (λ l. r.made ++ l) (ap (printed_calls r.standing.frames) (sym (append-nil told.more))
          ∙ unprinted r.standing.frames p.actor name inside told.more [] xs told.reads) ∙ append-nil r.made;
    }

    -- The dispose is logged.
    closed_some : AddsEntry mid now' closing → LogAtStop closed_run o now'
    closed_some adds =
        let e = closing in
        let added : now' ≡ Some (((o ++ h.more) ++ told.more) ++ e ∷ []) =
        subst (λ l. AddsEntry l now' e) told.log_is adds in
        record {
          more = h.more ++ (told.more ++ e ∷ []);
          log_is = added ∙ ap (λ (l : List Entry). Some l)
              (append_assoc (o ++ h.more) told.more (e ∷ []) ∙ append_assoc o h.more (told.more ++ e ∷ []));
          legal = h.legal (told.more ++ e ∷ [])
              (legal_append r.standing.world told.more (e ∷ []) legal_reads
              (subst (λ w. IsLegal table w (e ∷ [])) (sym leaves_world) (refl, tt)));
          printed_is = h.printed_is (told.more ++ e ∷ [])
              ∙ ap (λ l. r.made ++ l) (unprinted r.standing.frames p.actor name inside told.more (e ∷ []) xs
              told.reads);
        }

  frame_read : (xs : List ℕ) (old now mid now' : Option (List Entry)) → IsLogged functions r old now
      → LogsReadsIn now mid p.actor (Some name) xs → AreLegal table stands now mid → now' ≡ mid
      → IsLoggedAtStop r old now'
  frame_read xs None None mid now' h reads legal same = same ∙ reads
  frame_read xs None (Some k) mid now' h reads legal same = absurd cc
  frame_read xs (Some o) now mid now' h reads legal same = read_some xs o now mid now' h reads legal same

  frame_closed : (xs : List ℕ) (old now mid now' : Option (List Entry)) → IsLogged functions r old now
      → LogsReadsIn now mid p.actor (Some name) xs → AreLegal table stands now mid → AddsEntry mid now' closing
      → IsLoggedAtStop closed_run old now'
  frame_closed xs None None None now' h reads legal adds = adds
  frame_closed xs None None (Some l) now' h reads legal adds = absurd cc
  frame_closed xs None (Some k) mid now' h reads legal adds = absurd cc
  frame_closed xs (Some o) now mid now' h reads legal adds = closed_some xs o now mid now' h reads legal adds

  -- The run of the part that ends a frame stopped.
  pub stops_in_frame : (t : LineStyle) (xs : List ℕ) (now mid now' : Option (List Entry))
      (written written' : Option (List ℕ)) (bytes : List ℕ) → part_after functions r p ≡ closed_run →
      IsLogged functions r r.log now → LogsReadsIn now mid p.actor (Some name) xs → AreLegal table stands now mid
      → MayAddEntry mid now' closing → AppendsPart written written' bytes →
      StopsAt t functions (p ∷ []) now' written written' r
  stops_in_frame t xs now mid now' written written' bytes after h reads legal (inl same) part =
      stops_unmade t functions r (p ∷ []) now' written written' bytes
      (frame_read xs r.log now mid now' h reads legal same) part
  stops_in_frame t xs now mid now' written written' bytes after h reads legal (inr adds) part =
      stops_made t functions r p now' written written' bytes
      (subst (λ (s : Run). IsLoggedAtStop s r.log now') (sym after)
      (frame_closed xs r.log now mid now' h reads legal adds)) part

-- The log of a script that stopped.
stopped_script : (t : LineStyle) (functions : List Func) (ps : List ActorPart) (old now : Option (List Entry))
    (written written' : Option (List ℕ)) (whole last rest : List ActorPart) (r : Run)
    → r.first ≡ initial_standing t.titles.states
    → r.made ≡ sequential (opening_world t.titles.states) no_notes (whole ++ last) →
    whole ++ (last ++ rest) ≡ ps → length last ≤ 1 → WritesAtLeast written written' (run_text t functions whole)
    → IsLoggedAtStop r old now → StopsRun t functions ps old now written written'
stopped_script t functions ps None now written written' whole last rest r first made split one wrote h = h
stopped_script t functions ps (Some o) now written written' whole last rest r first made split one wrote h =
    inr (record {
      whole = whole;
      last = last;
      rest = rest;
      split = split;
      one = one;
      more = h.more;
      log_is = h.log_is;
      legal = subst (λ (s : Standing). IsLegal table s.world h.more) first h.legal;
      printed_is = ap (λ (s : Standing). printed_calls s.frames h.more) (sym first) ∙ h.printed_is ∙ made;
      wrote = wrote;
    })

pub script_stopped : (t : LineStyle) (functions : List Func) (ps : List ActorPart) (old now : Option (List Entry))
    (written written' : Option (List ℕ)) → StopsAt t functions ps now written written' (first_run t.titles.states old)
    → StopsRun t functions ps old now written written'
script_stopped t functions ps old now written written' at =
    let r = first_run t.titles.states old in
    stopped_script t functions ps old now written written' at.whole at.last at.rest
    (parts_after functions r (at.whole ++ at.last))
    (first_kept functions r (at.whole ++ at.last)).0 (made_is functions r (at.whole ++ at.last)) at.split at.one (
      at.wrote.0,
      appends_same written written' _ _
          (ap (λ l. l ++ at.wrote.0) (sym (run_text_is t functions old at.whole))) at.wrote.1,
    ) at.logged

-- Nothing was logged.
pub unlogged_stop : (t : LineStyle) (functions : List Func) (ps : List ActorPart) (old now : Option (List Entry))
    (written written' : Option (List ℕ)) → now ≡ old → StopsRun t functions ps old now written written'
unlogged_stop t functions ps None now written written' same = same
unlogged_stop t functions ps (Some o) now written written' same = inl same
