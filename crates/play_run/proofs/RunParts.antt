-- The state after a part that neither begins nor ends a frame.
use Rattle.std.proofs.Common.{◌≡◌, ◌≢◌, ◌⊎◌, inl, inr, ℕ, ◌==◌, ◌<◌, List, [], ◌∷◌, ◌++◌, ◌||◌, length, refl, sym, ap, ◌∙◌, subst, Option, Some, None, Ok, Err, OnOk, OnErr, Bool, true, false, cond, arith, append-nil, ℤ}
use Rattle.std.proofs.lemmas.Bool.Decides.{eqb_tells}
use Rattle.std.specs.declared.result.Result.{Result}
use Rattle.std.specs.Io.KnownBytes.{Appends}
use Rattle.std.specs.Option.{unwrap_or}
use Rattle.std.specs.Str.{bytes_eq}
use Rattle.std.proofs.lemmas.Bool.{ne_eqb as other_number}
use Rattle.rt_values.specs.declared.value.Value.{Value}
use Rattle.rt_values.specs.declared.value.Value.TheVariants as value
use Rattle.rt_values.specs.Operators.{sum_of}
use Rattle.lang_ast.specs.Terms.{Func}
use Rattle.lang_ast.specs.declared.script.SnapshotRef.{SnapshotRef}
use Rattle.lang_ast.specs.declared.script.SnapshotRef.TheVariants.{Global, Named}
use Rattle.snap_policy.specs.declared.policy.BuiltIn.{BuiltIn}
use Rattle.snap_policy.specs.Table.{table}
use Rattle.snap_policy.specs.TableLaws.{table_merge_keeps_type}
use Rattle.snap_api.proofs.ValidCalls.{valid_call}
use Rattle.snap_api.specs.World.{World, call, is_mutable}
use Rattle.snap_api.specs.declared.data.Reply.{Reply}
use Rattle.snap_api.specs.declared.data.Request.{Request}
use Rattle.snap_api.specs.declared.data.Request.TheVariants as request
use Rattle.snap_api.specs.declared.data.Entry.{Entry}
use Rattle.snap_api.specs.declared.data.Snapshot.{Snapshot}
use Rattle.lang_script.specs.SnapshotNames.{NamedNumber, latest, snapshot_number, never_taken}
use Rattle.lang_script.specs.StepCalls.{Part, Take, Read, Write, WriteSum, Apply, Dispose, BeginFrame, EndFrame, of_actor, Notes, request_of, sum_request, notes_after, number_taken, entry, watcher_number}
use Rattle.script_lang.specs.Lines.{LineStyle, entry_line, ends_frame, frame_taken}
use Rattle.recomposer.specs.Compositions.{IsAt}
use Rattle.play_run.specs.RunOutput.{Run, request_lines, run_after_request, part_lines, part_after, parts_lines}
use Rattle.script_lang.specs.PrintedCalls.{reads_frame}
use Rattle.play_run.specs.RunState.{IsAtFrame, RunFacts, IsRun, IsLogged, AddsEntry, MayAddEntry, IsPlain, KeepsNames, RunsAt, StopsAt, flat}
use Rattle.play_run.specs.RunPromise.{WritesBytes}
use Rattle.recomposer.specs.declared.composition.Composition.{Composition}
use Rattle.play_run.specs.declared.memory.RunMemory.{RunMemory}
use Rattle.play_run.specs.declared.write_lines.Stop.{Stop}
use Rattle.lang_script.specs.NamesInMemory.{Holds, number_in}
use Rattle.rt_streams.specs.Streams.{AppendsPart}
use Rattle.rt_values.specs.declared.names.Kind.{Kind}
use Rattle.play_run.proofs.OpenFrames.{IsPlainCall, Avoids, same_last, few_after, grown, same_snapshot, taken, own_after, within}
use Rattle.play_run.proofs.RunLogs.{logged_call}
use Rattle.play_run.proofs.Stops.{stops_at_call}
use Rattle.play_run.proofs.Written.{says_same}
use Rattle.play_run.proofs.PrintedCalls.{reads_none}

-- A part that keeps the names neither begins nor ends a frame.
pub is_plain : (p : Part) → KeepsNames p → IsPlain p
is_plain (Read s x) h = tt
is_plain (Write s x v) h = tt
is_plain (WriteSum s x a) h = tt
is_plain (Apply s) h = tt
is_plain (Dispose s) h = tt
is_plain (Take name kind parent) h = absurd h
is_plain BeginFrame h = absurd h
is_plain EndFrame h = absurd h

-- The number of a snapshot that is not the frame's.
number_apart : (names : List NamedNumber) (name : ℕ) (s : SnapshotRef) → (name == 0) ≡ false → name < never_taken
    → ((other : List ℕ) (n : ℕ) → latest names other ≡ Some n → n ≢ name) → snapshot_number names s ≢ name
number_apart names name Global inner below apart e =
    let zero : (0 == 0) ≡ false = ap (λ n. n == 0) e ∙ inner in absurd cc
number_apart names name (Named other) inner below apart e = by (latest names other.text) refl
  where
    by : (o : Option ℕ) → latest names other.text ≡ o → ⊥
    by None is =
        let same : never_taken ≡ name = ap (λ o. unwrap_or o never_taken) (sym is) ∙ e in omega (arith, below, same)
    by (Some n) is = apart other.text n is (ap (λ o. unwrap_or o never_taken) (sym is) ∙ e)

-- A plain part makes a plain call, which avoids the snapshot of the open frame.
sum_call : (name n x : ℕ) (a : ℤ) (o : Option Value) (q : Request) → sum_request n x a o ≡ Some q
    → IsPlainCall q × Avoids name q
sum_call name n x a (Some (value.Int z)) q is =
    let e : request.Write n x (value.Int (sum_of z a)) ≡ q = cc in subst (λ r. IsPlainCall r × Avoids name r) e (tt, tt)
sum_call name n x a (Some (value.Bool b)) q is = absurd cc
sum_call name n x a (Some (value.Text t)) q is = absurd cc
sum_call name n x a (Some (value.Ints l)) q is = absurd cc
sum_call name n x a None q is = absurd cc

plain_call : (n : Notes) (p : Part) (q : Request) → IsPlain p → request_of n p ≡ Some q → (name : ℕ)
    → ((s : SnapshotRef) → snapshot_number n.names s ≢ name) → IsPlainCall q × Avoids name q
plain_call n (Take other kind parent) q plain is name apart =
    let e : request.Take (snapshot_number n.names parent) kind ≡ q = cc in
    subst (λ r. IsPlainCall r × Avoids name r) e (tt, tt)
plain_call n (Read s x) q plain is name apart =
    let e : request.Read (snapshot_number n.names s) x ≡ q = cc in subst (λ r. IsPlainCall r × Avoids name r) e (tt, tt)
plain_call n (Write s x v) q plain is name apart = let e : request.Write (snapshot_number n.names s) x v ≡ q = cc in
    subst (λ r. IsPlainCall r × Avoids name r) e (tt, tt)
plain_call n (WriteSum s x a) q plain is name apart = sum_call name (snapshot_number n.names s) x a n.value q is
plain_call n (Apply s) q plain is name apart =
    let e : request.Apply (snapshot_number n.names s) ≡ q = cc in subst (λ r. IsPlainCall r × Avoids name r) e (tt, tt)
plain_call n (Dispose s) q plain is name apart = let e : request.Dispose (snapshot_number n.names s) ≡ q = cc in
    subst (λ r. IsPlainCall r × Avoids name r) e (tt, apart s)
plain_call n BeginFrame q plain is name apart = absurd plain
plain_call n EndFrame q plain is name apart = absurd plain

plain_sum : (n x : ℕ) (a : ℤ) (o : Option Value) (q : Request) → sum_request n x a o ≡ Some q → IsPlainCall q
plain_sum n x a (Some (value.Int z)) q is =
    let e : request.Write n x (value.Int (sum_of z a)) ≡ q = cc in subst IsPlainCall e tt
plain_sum n x a (Some (value.Bool b)) q is = absurd cc
plain_sum n x a (Some (value.Text t)) q is = absurd cc
plain_sum n x a (Some (value.Ints l)) q is = absurd cc
plain_sum n x a None q is = absurd cc

pub is_plain_call : (n : Notes) (p : Part) (q : Request) → IsPlain p → request_of n p ≡ Some q → IsPlainCall q
is_plain_call n (Take other kind parent) q plain is =
    let e : request.Take (snapshot_number n.names parent) kind ≡ q = cc in subst IsPlainCall e tt
is_plain_call n (Read s x) q plain is =
    let e : request.Read (snapshot_number n.names s) x ≡ q = cc in subst IsPlainCall e tt
is_plain_call n (Write s x v) q plain is =
    let e : request.Write (snapshot_number n.names s) x v ≡ q = cc in subst IsPlainCall e tt
is_plain_call n (WriteSum s x a) q plain is = plain_sum (snapshot_number n.names s) x a n.value q is
is_plain_call n (Apply s) q plain is =
    let e : request.Apply (snapshot_number n.names s) ≡ q = cc in subst IsPlainCall e tt
is_plain_call n (Dispose s) q plain is =
    let e : request.Dispose (snapshot_number n.names s) ≡ q = cc in subst IsPlainCall e tt
is_plain_call n BeginFrame q plain is = absurd plain
is_plain_call n EndFrame q plain is = absurd plain

-- A call ends no frame if none is open, or if it avoids the snapshot of the open frame.
pub ends_none : (q : Request) → ends_frame [] q ≡ false
ends_none (request.Take parent kind) = refl
ends_none (request.TakeFor watcher) = refl
ends_none (request.Read n x) = refl
ends_none (request.Write n x v) = refl
ends_none (request.Apply n) = refl
ends_none (request.Dispose n) = refl

ends_no_other : (name : ℕ) (q : Request) → Avoids name q → ends_frame (name ∷ []) q ≡ false
ends_no_other name (request.Take parent kind) avoids = refl
ends_no_other name (request.TakeFor watcher) avoids = refl
ends_no_other name (request.Read n x) avoids = refl
ends_no_other name (request.Write n x v) avoids = refl
ends_no_other name (request.Apply n) avoids = refl
ends_no_other name (request.Dispose n) avoids = ap (λ b. b || false) (other_number name n (λ e. avoids (sym e)))

sum_unread : (fs : List ℕ) (n x : ℕ) (a : ℤ) (o : Option Value) (q : Request) → sum_request n x a o ≡ Some q
    → reads_frame fs q ≡ false
sum_unread fs n x a (Some (value.Int z)) q is =
    let e : request.Write n x (value.Int (sum_of z a)) ≡ q = cc in subst (λ r. reads_frame fs r ≡ false) e refl
sum_unread fs n x a (Some (value.Bool b)) q is = absurd cc
sum_unread fs n x a (Some (value.Text t)) q is = absurd cc
sum_unread fs n x a (Some (value.Ints l)) q is = absurd cc
sum_unread fs n x a None q is = absurd cc

unread_call : (n : Notes) (p : Part) (q : Request) → IsPlain p → request_of n p ≡ Some q → (name : ℕ)
    → ((s : SnapshotRef) → snapshot_number n.names s ≢ name) → reads_frame (name ∷ []) q ≡ false
unread_call n (Take other kind parent) q plain is name apart =
    let e : request.Take (snapshot_number n.names parent) kind ≡ q = cc in
    subst (λ r. reads_frame (name ∷ []) r ≡ false) e refl
unread_call n (Read s x) q plain is name apart =
    let e : request.Read (snapshot_number n.names s) x ≡ q = cc in
    subst (λ r. reads_frame (name ∷ []) r ≡ false) e
    (ap (λ b. b || false) (other_number name (snapshot_number n.names s) (λ e. apart s (sym e))))
unread_call n (Write s x v) q plain is name apart = let e : request.Write (snapshot_number n.names s) x v ≡ q = cc in
    subst (λ r. reads_frame (name ∷ []) r ≡ false) e refl
unread_call n (WriteSum s x a) q plain is name apart =
    sum_unread (name ∷ []) (snapshot_number n.names s) x a n.value q is
unread_call n (Apply s) q plain is name apart =
    let e : request.Apply (snapshot_number n.names s) ≡ q = cc in subst (λ r. reads_frame (name ∷ []) r ≡ false) e refl
unread_call n (Dispose s) q plain is name apart = let e : request.Dispose (snapshot_number n.names s) ≡ q = cc in
    subst (λ r. reads_frame (name ∷ []) r ≡ false) e refl
unread_call n BeginFrame q plain is name apart = absurd plain
unread_call n EndFrame q plain is name apart = absurd plain

takes_no_frame : (q : Request) (y : Reply) → IsPlainCall q → frame_taken q y ≡ []
takes_no_frame (request.Take parent kind) y plain = refl
takes_no_frame (request.TakeFor watcher) y plain = absurd plain
takes_no_frame (request.Read n x) y plain = refl
takes_no_frame (request.Write n x v) y plain = refl
takes_no_frame (request.Apply n) y plain = refl
takes_no_frame (request.Dispose n) y plain = refl

-- A plain part changes the names only by a take, and keeps the frame.
pub same_names : (n : Notes) (p : Part) (y : Reply) → KeepsNames p → (notes_after n p y).names ≡ n.names
same_names n (Read s x) y h = refl
same_names n (Write s x v) y h = refl
same_names n (WriteSum s x a) y h = refl
same_names n (Apply s) y h = refl
same_names n (Dispose s) y h = refl
same_names n (Take name kind parent) y h = absurd h
same_names n BeginFrame y h = absurd h
same_names n EndFrame y h = absurd h

same_frame : (n : Notes) (p : Part) (y : Reply) → IsPlain p → (notes_after n p y).frame ≡ n.frame
same_frame n (Take name kind parent) y plain = refl
same_frame n (Read s x) y plain = refl
same_frame n (Write s x v) y plain = refl
same_frame n (WriteSum s x a) y plain = refl
same_frame n (Apply s) y plain = refl
same_frame n (Dispose s) y plain = refl
same_frame n BeginFrame y plain = absurd plain
same_frame n EndFrame y plain = absurd plain

-- What is true of each number of the names and of the number of a take is true of each number after the part.
names_after : (P : ℕ → Type 0) (n : Notes) (p : Part) (y : Reply) → IsPlain p
    → ((other : List ℕ) (k : ℕ) → latest n.names other ≡ Some k → P k) → P (number_taken y) →
    (other : List ℕ) (k : ℕ) → latest (notes_after n p y).names other ≡ Some k → P k
names_after P n (Take name kind parent) y plain old new other k is = by (bytes_eq name other) refl
  where
    by : (b : Bool) → bytes_eq name other ≡ b → P k
    by true e = let same : number_taken y ≡ k =
        (let i : Some (number_taken y)
        ≡ Some k = ap (λ b. cond b (Some (number_taken y)) (latest n.names other)) (sym e) ∙ is in cc) in
        subst P same new
    by false e = old other k (ap (λ b. cond b (Some (number_taken y)) (latest n.names other)) (sym e) ∙ is)
names_after P n (Read s x) y plain old new other k is = old other k is
names_after P n (Write s x v) y plain old new other k is = old other k is
names_after P n (WriteSum s x a) y plain old new other k is = old other k is
names_after P n (Apply s) y plain old new other k is = old other k is
names_after P n (Dispose s) y plain old new other k is = old other k is
names_after P n BeginFrame y plain old new other k is = absurd plain
names_after P n EndFrame y plain old new other k is = absurd plain

module _ (t : LineStyle) (functions : List Func) (r : Run) (actor : ℕ) (p : Part) (q : Request) where
  abbrev after_call : World BuiltIn
  after_call = (call table r.standing.world actor q).0

  abbrev answer : Reply
  answer = (call table r.standing.world actor q).1

  -- The state after a call that ends no frame and takes none.
  abbrev quiet : Run
  quiet = record {
    standing = record { world = after_call; kept = r.standing.kept; frames = r.standing.frames };
    notes = notes_after r.notes p answer;
    made = r.made ++ entry r.standing.world actor q ∷ [];
    first = r.first;
    log = r.log;
  }

  pub quiet_lines : request_of r.notes p ≡ Some q → ends_frame r.standing.frames q ≡ false
      → part_lines t functions r (of_actor actor p) ≡ entry_line t.titles (entry r.standing.world actor q) ∷ []
  quiet_lines is none = ap (request_lines t functions r actor) is ∙ rw none refl

  quiet_after : request_of r.notes p ≡ Some q → ends_frame r.standing.frames q ≡ false → frame_taken q answer ≡ []
      → part_after functions r (of_actor actor p) ≡ quiet
  quiet_after is none untaken =
      ap (run_after_request functions r (of_actor actor p)) is
      ∙ rw none (ap (λ (fs : List ℕ). record {
        standing = record {
          world = after_call;
          kept = r.standing.kept;
          frames = fs;
        };
        notes = notes_after r.notes p answer;
        made = r.made ++ entry r.standing.world actor q ∷ [];
        first = r.first;
        log = r.log;
      }) (ap (λ l. r.standing.frames ++ l) untaken ∙ append-nil r.standing.frames))

  -- The notes after the part.
  pub plain_notes : request_of r.notes p ≡ Some q
      → (part_after functions r (of_actor actor p)).notes ≡ notes_after r.notes p answer
  plain_notes is = ap (λ o. (run_after_request functions r (of_actor actor p) o).notes) is

  module _ {V : Type 0} {stands : V → World BuiltIn → Type 0} {world : V} {kept : Composition} (plain : IsPlain p)
      (is : request_of r.notes p ≡ Some q) where
    -- What does not depend on the frame.
    facts_with : {world' : V} (frame : Option ℕ) → RunFacts functions stands world kept actor frame r
        → stands world' after_call → IsAtFrame actor frame quiet
        → RunFacts functions stands world' kept actor frame quiet
    facts_with frame h stood at =
        let pl = is_plain_call r.notes p q plain is in
        let more = grown r.standing.world actor q in
        record {
          world_stands = stood;
          valid = valid_call h.valid table_merge_keeps_type actor q;
          few = few_after r.standing.world actor q h.few;
          known = names_after (λ k. (k < length after_call.snapshots) ⊎ (k ≡ never_taken)) r.notes p answer plain
              (λ other k found. elim (h.known other k found) [
                | inl lt ↦ inl (omega (arith, lt, more))
                | inr never ↦ inr never
              ])
              (elim (taken r.standing.world actor q pl) [
                | inl new ↦ inl (omega (arith, new.0, new.1))
                | inr never ↦ inr never
              ]);
          is_at = subst (λ o. IsAt kept r.standing.kept o) (sym (same_last r.standing.world actor q watcher_number pl))
              h.is_at;
          same_program = h.same_program;
          noted = same_frame r.notes p answer plain ∙ h.noted;
          at_frame = at;
        }

    -- The part ends no frame.
    plain_quiet : (frame : Option ℕ) → RunFacts functions stands world kept actor frame r
        → ends_frame r.standing.frames q ≡ false
    plain_quiet None h = ap (λ fs. ends_frame fs q) h.at_frame ∙ ends_none q
    plain_quiet (Some name) h =
        let f = h.at_frame in
        let in_w = within r.standing.world actor name h.valid h.few f.own in
        let pl = plain_call r.notes p q plain is name
        (λ s. number_apart r.notes.names name s f.own.inner in_w.1 f.apart) in
        ap (λ fs. ends_frame fs q) f.frames ∙ ends_no_other name q pl.1

    -- The part does not read the snapshot of the open frame.
    plain_unread : (frame : Option ℕ) → RunFacts functions stands world kept actor frame r
        → reads_frame r.standing.frames q ≡ false
    plain_unread None h = ap (λ fs. reads_frame fs q) h.at_frame ∙ reads_none q
    plain_unread (Some name) h =
        let f = h.at_frame in
        let in_w = within r.standing.world actor name h.valid h.few f.own in
        ap (λ fs. reads_frame fs q) f.frames
        ∙ unread_call r.notes p q plain is name (λ s. number_apart r.notes.names name s f.own.inner in_w.1 f.apart)

    -- The log after the part.
    pub plain_logged : (frame : Option ℕ) (now now' : Option (List Entry))
        → RunFacts functions stands world kept actor frame r → IsLogged functions r r.log now
        → AddsEntry now now' (entry r.standing.world actor q) →
        IsLogged functions (part_after functions r (of_actor actor p))
        (part_after functions r (of_actor actor p)).log now'
    plain_logged frame now now' h logged adds =
        subst (λ o. IsLogged functions (run_after_request functions r (of_actor actor p) o)
        (run_after_request functions r (of_actor actor p) o).log now') (sym is)
        (logged_call functions r (of_actor actor p) q r.log now now' (plain_unread frame h) (plain_quiet frame h) logged
        adds)

    -- The run of the part stopped.
    pub plain_stops : (frame : Option ℕ) (now now' : Option (List Entry)) (written written' : Option (List ℕ))
        {bytes : List ℕ} → RunFacts functions stands world kept actor frame r → IsLogged functions r r.log now →
        MayAddEntry now now' (entry r.standing.world actor q) → AppendsPart written written' bytes
        → StopsAt t functions (of_actor actor p ∷ []) now' written written' r
    plain_stops frame now now' written written' {bytes} h logged may part =
        stops_at_call t functions r (of_actor actor p) (entry r.standing.world actor q) now now' written written' bytes
        logged (plain_logged frame now now' h logged) may part

    plain_frame : (frame : Option ℕ) → RunFacts functions stands world kept actor frame r → IsAtFrame actor frame quiet
    plain_frame None h = h.at_frame
    plain_frame (Some name) h =
        let f = h.at_frame in
        let w = r.standing.world in
        let in_w = within w actor name h.valid h.few f.own in
        let pl = plain_call r.notes p q plain is name
        (λ s. number_apart r.notes.names name s f.own.inner in_w.1 f.apart) in
        let same = same_snapshot w actor q h.valid name in_w.0 f.fixed pl.1 in
        record {
          frames = f.frames;
          own = own_after w after_call actor name same f.own;
          fixed = ap (λ (s : Snapshot). is_mutable s.kind) same ∙ f.fixed;
          last = same_last w actor q watcher_number pl.0 ∙ f.last ∙ ap (λ (s : Snapshot). Some s.view) (sym same);
          apart = names_after (λ k. k ≢ name) r.notes p answer plain f.apart
              (λ e. elim (taken w actor q pl.0) [
                | inl new ↦ omega (arith, new.0, e, in_w.0)
                | inr never ↦ omega (arith, never, e, in_w.1)
              ]);
        }

    pub plain_facts : {world' : V} (frame : Option ℕ) → RunFacts functions stands world kept actor frame r
        → stands world' after_call →
        RunFacts functions stands world' kept actor frame (part_after functions r (of_actor actor p))
    plain_facts {world'} frame h stood =
        subst (RunFacts functions stands world' kept actor frame)
        (sym (quiet_after is (plain_quiet frame h) (takes_no_frame q answer (is_plain_call r.notes p q plain is))))
        (facts_with frame h stood (plain_frame frame h))

    -- The line of the part.
    pub plain_line : (frame : Option ℕ) → RunFacts functions stands world kept actor frame r →
        flat (parts_lines t functions r (of_actor actor p ∷ [])) ≡ entry_line t.titles (entry r.standing.world actor q)
    plain_line frame h = ap (λ ls. flat (ls ++ [])) (quiet_lines is (plain_quiet frame h))
        ∙ append-nil (entry_line t.titles (entry r.standing.world actor q))

-- A single call was made and its line was written. The part keeps the names.
pub ran_single : {T : Type 0} {V : Type 0} {stands : V → World BuiltIn → Type 0} {log : V → Option (List Entry)}
    {world world' : V} {memory memory' : RunMemory} (t : LineStyle) (functions : List Func) (actor : ℕ)
    (frame : Option ℕ) (r : Run) (p : Part) (q : Request) (written written' : Option (List ℕ))
    (result : Result T Stop) →
    KeepsNames p → IsRun functions stands log world memory actor frame r → request_of r.notes p ≡ Some q →
    WritesBytes written written' (entry_line t.titles (entry r.standing.world actor q)) result →
    OnOk result (stands world' (call table r.standing.world actor q).0)
    → OnOk result (AddsEntry (log world) (log world') (entry r.standing.world actor q))
    → OnErr result (MayAddEntry (log world) (log world') (entry r.standing.world actor q))
    → memory'.composition ≡ memory.composition → memory'.names ≡ memory.names →
    RunsAt {T = T} t functions stands log actor (of_actor actor p ∷ []) world' memory' frame written written' r result
ran_single {stands = stands} {log = log} {world = world} {world' = world'} {memory = memory} {memory' = memory'} t functions actor frame r p q written written' (Ok x) keeps h is says stood adds may kept names =
    let facts = plain_facts t functions r actor p q {stands = stands} {world = world} {kept = memory.composition}
    (is_plain p keeps) is frame h.facts stood in
    record {
      says = says_same (Ok x) written written' _ _
          (sym (plain_line t functions r actor p q {stands = stands} {world = world} {kept = memory.composition}
          (is_plain p keeps) is frame h.facts)) says;
      left = record {
        facts = subst (λ k. RunFacts functions stands world' k actor frame (part_after functions r (of_actor actor p)))
            (sym kept) facts;
        named = subst (λ m. Holds m (part_after functions r (of_actor actor p)).notes.names) (sym names)
            (subst (Holds memory.names) (sym (ap (λ (n : Notes). n.names) (plain_notes t functions r actor p q is)
            ∙ same_names r.notes p _ keeps)) h.named);
        logged = plain_logged t functions r actor p q {stands = stands} {world = world} {kept = memory.composition}
            (is_plain p keeps) is frame (log world) (log world') h.facts h.logged adds;
      };
      stops = tt;
    }
ran_single {stands = stands} {log = log} {world = world} {world' = world'} {memory = memory} t functions actor frame r p q written written' (Err e) keeps h is says stood adds may kept names = record {
  says = says_same (Err e) written written' _ _
      (sym (plain_line t functions r actor p q {stands = stands} {world = world} {kept = memory.composition}
      (is_plain p keeps) is frame h.facts)) says;
  left = tt;
  stops = plain_stops t functions r actor p q {stands = stands} {world = world} {kept = memory.composition}
      (is_plain p keeps) is frame (log world) (log world') written written' h.facts h.logged may says.part;
}

-- A take was made, its line was written, and its number was noted.
pub ran_take : {T : Type 0} {V : Type 0} {stands : V → World BuiltIn → Type 0} {log : V → Option (List Entry)}
    {world world' : V} {memory memory' : RunMemory} (t : LineStyle) (functions : List Func) (actor : ℕ)
    (frame : Option ℕ) (r : Run) (name : List ℕ) (kind : Kind) (parent : SnapshotRef) (q : Request) (y : Reply)
    (written written' : Option (List ℕ)) (x : T) →
    IsRun functions stands log world memory actor frame r → request_of r.notes (Take name kind parent) ≡ Some q →
    Appends written written' (entry_line t.titles (entry r.standing.world actor q))
    → y ≡ (call table r.standing.world actor q).1 →
    stands world' (call table r.standing.world actor q).0
    → AddsEntry (log world) (log world') (entry r.standing.world actor q)
    → memory'.composition ≡ memory.composition →
    ((other : List ℕ) → number_in memory'.names other
    ≡ cond (bytes_eq name other) (Some (number_taken y)) (number_in memory.names other)) →
    RunsAt {T = T} t functions stands log actor (of_actor actor (Take name kind parent) ∷ []) world' memory' frame
    written written' r (Ok x)
ran_take {stands = stands} {log = log} {world = world} {world' = world'} {memory = memory} {memory' = memory'} t functions actor frame r name kind parent q y written written' x h is wrote told stood adds kept put =
    let p = Take name kind parent in
    let facts = plain_facts t functions r actor p q {stands = stands} {world = world} {kept = memory.composition} tt is
    frame h.facts stood in
    let names = ap (λ (n : Notes). n.names) (plain_notes t functions r actor p q is) in
    record {
      says = says_same {E = Stop} (Ok x) written written' _ _
          (sym (plain_line t functions r actor p q {stands = stands} {world = world} {kept = memory.composition} tt is
          frame h.facts)) (record { all = wrote; part = tt });
      left = record {
        facts = subst (λ k. RunFacts functions stands world' k actor frame (part_after functions r (of_actor actor p)))
            (sym kept) facts;
        named = subst (Holds memory'.names) (sym names)
            (λ other. put other ∙ ap (λ (z : Reply). cond (bytes_eq name other) (Some (number_taken z))
            (number_in memory.names other)) told
            ∙ ap (λ o. cond (bytes_eq name other) (Some (number_taken (call table r.standing.world actor q).1)) o)
            (h.named other));
        logged = plain_logged t functions r actor p q {stands = stands} {world = world} {kept = memory.composition} tt
            is frame (log world) (log world') h.facts h.logged adds;
      };
      stops = tt;
    }

-- A take's line was written up to an error.
pub stopped_take : {T : Type 0} {V : Type 0} {stands : V → World BuiltIn → Type 0} {log : V → Option (List Entry)}
    {world world' : V} {memory memory' : RunMemory} (t : LineStyle) (functions : List Func) (actor : ℕ)
    (frame : Option ℕ) (r : Run) (name : List ℕ) (kind : Kind) (parent : SnapshotRef) (q : Request)
    (written written' : Option (List ℕ)) (e : Stop) →
    IsRun functions stands log world memory actor frame r → request_of r.notes (Take name kind parent) ≡ Some q →
    AppendsPart written written' (entry_line t.titles (entry r.standing.world actor q))
    → MayAddEntry (log world) (log world') (entry r.standing.world actor q) →
    RunsAt {T = T} t functions stands log actor (of_actor actor (Take name kind parent) ∷ []) world' memory' frame
    written written' r (Err e)
stopped_take {T = T} {stands = stands} {log = log} {world = world} {world' = world'} {memory = memory} t functions actor frame r name kind parent q written written' e h is wrote may = record {
  says = says_same {T = T} (Err e) written written' _ _
      (sym (plain_line t functions r actor (Take name kind parent) q {stands = stands} {world = world}
      {kept = memory.composition} tt is frame h.facts)) (record { all = tt; part = wrote });
  left = tt;
  stops = plain_stops t functions r actor (Take name kind parent) q {stands = stands} {world = world}
      {kept = memory.composition} tt is frame (log world) (log world') written written' h.facts h.logged may wrote;
}

-- Nothing is written of a sum that is not made.
pub no_sum : {T : Type 0} {V : Type 0} {stands : V → World BuiltIn → Type 0} {log : V → Option (List Entry)} {world : V}
    {memory : RunMemory} (t : LineStyle) (functions : List Func) (actor : ℕ) (frame : Option ℕ) (r : Run) (p : Part)
    (written : Option (List ℕ)) (x : T) →
    IsRun functions stands log world memory actor frame r → request_of r.notes p ≡ None
    → WritesBytes {T = T} {E = Stop} written written [] (Ok x) →
    RunsAt {T = T} t functions stands log actor (of_actor actor p ∷ []) world memory frame written written r (Ok x)
no_sum {stands = stands} {log = log} {world = world} {memory = memory} t functions actor frame r p written x h is says =
    record {
      says = says_same {E = Stop} (Ok x) written written [] _
          (ap (λ o. flat (request_lines t functions r actor o ++ [])) (sym is)) says;
      left = subst (IsRun functions stands log world memory actor frame)
          (sym (ap (run_after_request functions r (of_actor actor p)) is)) h;
      stops = tt;
    }
