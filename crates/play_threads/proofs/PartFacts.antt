-- What the call of a part leaves of an actor's names and of its open frame.
use Rattle.std.proofs.Common.{◌≡◌, ◌≢◌, ◌⊎◌, inl, inr, ℕ, ◌==◌, ◌<◌, List, [], ◌∷◌, ◌++◌, ◌||◌, Bool, true, false, not, cond, length, refl, sym, ap, ◌∙◌, subst, Option, Some, None, arith, append-nil, eq-eqb, ℤ}
use Rattle.std.specs.Option.{unwrap_or}
use Rattle.std.specs.Str.{bytes_eq}
use Rattle.std.specs.List.{filter}
use Rattle.std.proofs.lemmas.Bool.{ne_eqb as other_number}
use Rattle.std.proofs.lemmas.Option.{same_Some as some_same}
use Rattle.rt_values.specs.declared.value.Value.{Value}
use Rattle.rt_values.specs.declared.value.Value.TheVariants as value
use Rattle.rt_values.specs.Maps.{contains}
use Rattle.lang_ast.specs.declared.script.SnapshotRef.{SnapshotRef}
use Rattle.lang_ast.specs.declared.script.SnapshotRef.TheVariants.{Global, Named}
use Rattle.snap_policy.specs.declared.policy.BuiltIn.{BuiltIn}
use Rattle.snap_policy.specs.Table.{table}
use Rattle.snap_api.proofs.LawsCases.{did}
use Rattle.snap_api.proofs.LawsNames.{named_by}
use Rattle.snap_api.specs.Laws.{name_handed_out}
use Rattle.snap_api.specs.World.{World, call}
use Rattle.snap_api.specs.declared.data.Entry.{Entry}
use Rattle.snap_api.specs.declared.data.Reply.{Reply}
use Rattle.snap_api.specs.declared.data.Reply.TheVariants as reply
use Rattle.snap_api.specs.declared.data.Request.{Request}
use Rattle.snap_api.specs.declared.data.Request.TheVariants as request
use Rattle.script_lang.specs.Lines.{ends_frame, frame_taken, name_in}
use Rattle.script_lang.specs.PrintedCalls.{reads_frame, frames_after}
use Rattle.lang_script.specs.SnapshotNames.{NamedNumber, latest, snapshot_number, never_taken}
use Rattle.lang_script.specs.StepCalls.{Part, Take, Read, Write, WriteSum, Apply, Dispose, BeginFrame, EndFrame, Notes, request_of, sum_request, end_request, notes_after, number_taken, frame_begun, watcher_number}
use Rattle.play_run.proofs.OpenFrames.{grown, taken}
use Rattle.play_run.specs.RunState.{AreKnown}
use Rattle.play_threads.specs.ActorSteps.{CountsSnapshots, IsApart, FrameIsApart, frame_list}
use Rattle.play_threads.proofs.Worlds.{known_on, apart_on}

-- Before a frame begins no frame is open.
abbrev pub MayMake : Part → Option ℕ → Type 0
MayMake BeginFrame frame = frame ≡ None
MayMake _ frame = Unit {0}

-- The notes and the open frame after the call of a part, in the world after it.
pub record PartDone (n : Notes) (p : Part) (e : Entry) (w : World BuiltIn) : Type 0 where
  pub unread : reads_frame (frame_list n.frame) e.request ≡ false
  pub frames : frames_after (frame_list n.frame) e ≡ frame_list (notes_after n p e.reply).frame
  pub known : AreKnown w (notes_after n p e.reply).names
  pub apart : FrameIsApart w (notes_after n p e.reply).names (notes_after n p e.reply).frame

-- No step names the snapshot of the open frame.
unnamed : (w : World BuiltIn) (names : List NamedNumber) (frame : Option ℕ) (s : SnapshotRef)
    → FrameIsApart w names frame → contains (snapshot_number names s) (frame_list frame) ≡ false
unnamed w names None s h = refl
unnamed w names (Some f) Global h = ap (λ b. b || false) h.inner
unnamed w names (Some f) (Named other) h = by (latest names other.text) refl where
  by : (o : Option ℕ) → latest names other.text ≡ o → contains (unwrap_or o never_taken) (f ∷ []) ≡ false
  by None is = let below = h.below in ap (λ b. b || false) (other_number f never_taken (λ e. omega (arith, below, e)))
  by (Some n) is = ap (λ b. b || false) (other_number f n (λ e. h.apart other.text n is (sym e)))

-- A call that neither reads, begins nor ends a frame.
record IsQuiet (fs : List ℕ) (q : Request) (r : Reply) : Type 0 where
  unread : reads_frame fs q ≡ false
  unended : ends_frame fs q ≡ false
  untaken : frame_taken q r ≡ []

sum_quiet : (fs : List ℕ) (k x : ℕ) (a : ℤ) (o : Option Value) (q : Request) (r : Reply) → sum_request k x a o ≡ Some q
    → IsQuiet fs q r
sum_quiet fs k x a (Some (value.Int z)) q r is =
    subst (λ c. IsQuiet fs c r) (some_same _ _ is) (record { unread = refl; unended = refl; untaken = refl })
sum_quiet fs k x a (Some (value.Bool b)) q r is = absurd cc
sum_quiet fs k x a (Some (value.Text t)) q r is = absurd cc
sum_quiet fs k x a (Some (value.Ints l)) q r is = absurd cc
sum_quiet fs k x a None q r is = absurd cc

-- The frames after a quiet call.
quiet_frames : (fs : List ℕ) (a : ℕ) (q : Request) (r : Reply) → IsQuiet fs q r
    → frames_after fs (record { caller = a; request = q; reply = r }) ≡ fs
quiet_frames fs a q r h =
    ap (λ b. cond b (filter (λ n. not (n == name_in q)) fs) (fs ++ frame_taken q r)) h.unended
    ∙ ap (λ l. fs ++ l) h.untaken ∙ append-nil fs

begun_list : (watcher : ℕ) (r : Reply) → frame_taken (request.TakeFor watcher) r ≡ frame_list (frame_begun r)
begun_list watcher (reply.Taken name) = refl
begun_list watcher (reply.TakenFor name changed) = refl
begun_list watcher (reply.Got v) = refl
begun_list watcher (reply.Wrote changed) = refl
begun_list watcher reply.Applied = refl
begun_list watcher reply.Disposed = refl
begun_list watcher (reply.Refused refusal) = refl

module _ (w : World BuiltIn) (a : ℕ) (n : Notes) (counts : CountsSnapshots w) (known : AreKnown w n.names)
    (apart : FrameIsApart w n.names n.frame) where
  abbrev after_call : Request → World BuiltIn
  after_call q = (call table w a q).0

  abbrev entry_of : Request → Reply → Entry
  entry_of q r = record { caller = a; request = q; reply = r }

  -- A quiet call of a part that keeps the names and the frame.
  kept : (p : Part) (q : Request) (r : Reply) → (notes_after n p r).names ≡ n.names
      → (notes_after n p r).frame ≡ n.frame → IsQuiet (frame_list n.frame) q r
      → PartDone n p (entry_of q r) (after_call q)
  kept p q r names frame quiet = record {
    unread = quiet.unread;
    frames = quiet_frames (frame_list n.frame) a q r quiet ∙ ap frame_list (sym frame);
    known = subst (λ l. AreKnown (after_call q) l) (sym names) (known_on w (after_call q) n.names (grown w a q) known);
    apart = subst (λ f. FrameIsApart (after_call q) (notes_after n p r).names f) (sym frame)
        (subst (λ l. FrameIsApart (after_call q) l n.frame) (sym names)
        (apart_on w (after_call q) n.names n.frame (grown w a q) apart));
  }

  -- The number of a take is that of a snapshot, or no snapshot has it.
  module _ (name : List ℕ) (q : Request) (r : Reply)
      (fresh : ((number_taken r ≡ length w.snapshots) × (length w.snapshots < length (after_call q).snapshots))
      ⊎ (number_taken r ≡ never_taken)) where
    abbrev with_name : List NamedNumber
    with_name = record { name = name; number = number_taken r } ∷ n.names

    named_known : AreKnown (after_call q) with_name
    named_known other k found = by (bytes_eq name other) refl where
      by : (b : Bool) → bytes_eq name other ≡ b → (k < length (after_call q).snapshots) ⊎ (k ≡ never_taken)
      by true e =
          let same : number_taken r ≡ k =
          some_same _ _ (ap (λ b. cond b (Some (number_taken r)) (latest n.names other)) (sym e) ∙ found) in
          elim fresh [ inl new ↦ inl (omega (arith, new.0, new.1, same)) | inr never ↦ inr (sym same ∙ never) ]
      by false e = known_on w (after_call q) n.names (grown w a q) known other k
          (ap (λ b. cond b (Some (number_taken r)) (latest n.names other)) (sym e) ∙ found)

    named_apart : (f : ℕ) → IsApart w n.names f → IsApart (after_call q) with_name f
    named_apart f h = record {
      inner = h.inner;
      within = omega (arith, h.within, grown w a q);
      below = h.below;
      apart = λ other k found. by other k found (bytes_eq name other) refl;
    } where
      by : (other : List ℕ) (k : ℕ) → latest with_name other ≡ Some k → (b : Bool) → bytes_eq name other ≡ b → k ≢ f
      by other k found true e is =
          let same : number_taken r ≡ k =
          some_same _ _ (ap (λ b. cond b (Some (number_taken r)) (latest n.names other)) (sym e) ∙ found) in
          let within = h.within in
          let below = h.below in
          elim fresh [
            | inl new ↦ absurd (omega (arith, new.0, same, is, within))
            | inr never ↦ absurd (omega (arith, never, same, is, below))
          ]
      by other k found false e is =
          h.apart other k (ap (λ b. cond b (Some (number_taken r)) (latest n.names other)) (sym e) ∙ found) is

    named_frame : (frame : Option ℕ) → FrameIsApart w n.names frame → FrameIsApart (after_call q) with_name frame
    named_frame None h = tt
    named_frame (Some f) h = named_apart f h

  take_done : (name : List ℕ) (parent : SnapshotRef) (k : ℕ) (kind : _) (r : Reply)
      → (call table w a (request.Take k kind)).1 ≡ r
      → PartDone n (Take name kind parent) (entry_of (request.Take k kind) r) (after_call (request.Take k kind))
  take_done name parent k kind r told =
      let q = request.Take k kind in
      let fresh = subst (λ y. ((number_taken y ≡ length w.snapshots)
      × (length w.snapshots < length (after_call q).snapshots)) ⊎ (number_taken y ≡ never_taken)) told
      (taken w a q tt) in
      record {
        unread = refl;
        frames = quiet_frames (frame_list n.frame) a q r (record { unread = refl; unended = refl; untaken = refl });
        known = named_known name q r fresh;
        apart = named_frame name q r fresh n.frame apart;
      }

  -- The snapshot of a new frame has a number that no name has.
  begun_apart : (q : Request) (r : Reply) → (call table w a q).1 ≡ r
      → FrameIsApart (after_call q) n.names (frame_begun r)
  begun_apart q (reply.TakenFor name changed) told =
      let new = named_by table w a q _ (did table w a q) name (ap name_handed_out told) in
      let few = counts.few in
      let time = counts.valid.in_time in
      let some = counts.some in
      let below : name < never_taken = omega (arith, new.0, few, time) in
      record {
        inner = other_number name 0 (λ e. omega (arith, e, new.0, some));
        within = new.1;
        below = below;
        apart = λ other k found is. elim (known other k found) [
          | inl under ↦ absurd (omega (arith, under, is, new.0))
          | inr never ↦ absurd (omega (arith, never, is, below))
        ];
      }
  begun_apart q (reply.Taken name) told = tt
  begun_apart q (reply.Got v) told = tt
  begun_apart q (reply.Wrote changed) told = tt
  begun_apart q reply.Applied told = tt
  begun_apart q reply.Disposed told = tt
  begun_apart q (reply.Refused refusal) told = tt

  begin_done : (r : Reply) → n.frame ≡ None → (call table w a (request.TakeFor watcher_number)).1 ≡ r
      → PartDone n BeginFrame (entry_of (request.TakeFor watcher_number) r)
      (after_call (request.TakeFor watcher_number))
  begin_done r none told =
      let q = request.TakeFor watcher_number in
      record {
        unread = refl;
        frames = ap (λ f. frames_after (frame_list f) (entry_of q r)) none ∙ begun_list watcher_number r;
        known = known_on w (after_call q) n.names (grown w a q) known;
        apart = begun_apart q r told;
      }

  end_done : (f : ℕ) (r : Reply) → n.frame ≡ Some f
      → PartDone n EndFrame (entry_of (request.Dispose f) r) (after_call (request.Dispose f))
  end_done f r open_frame =
      let q = request.Dispose f in
      let itself : (f == f) ≡ true = eq-eqb f f refl in
      record {
        unread = refl;
        frames = ap (λ o. frames_after (frame_list o) (entry_of q r)) open_frame ∙ rw itself refl;
        known = known_on w (after_call q) n.names (grown w a q) known;
        apart = tt;
      }

  -- The call of a part that may be made.
  pub part_done : (p : Part) (q : Request) (r : Reply) → MayMake p n.frame → request_of n p ≡ Some q
      → (call table w a q).1 ≡ r → PartDone n p (entry_of q r) (after_call q)
  part_done (Take name kind parent) q r may is told = at q (some_same _ _ is) told where
    at : (q : Request) → request.Take (snapshot_number n.names parent) kind ≡ q → (call table w a q).1 ≡ r
        → PartDone n (Take name kind parent) (entry_of q r) (after_call q)
    at q e told =
        subst (λ c. PartDone n (Take name kind parent) (entry_of c r) (after_call c)) e
        (take_done name parent (snapshot_number n.names parent) kind r (ap (λ c. (call table w a c).1) e ∙ told))
  part_done (Read s x) q r may is told =
      kept (Read s x) q r refl refl
      (subst (λ c. IsQuiet (frame_list n.frame) c r) (some_same _ _ is)
      (record { unread = unnamed w n.names n.frame s apart; unended = refl; untaken = refl }))
  part_done (Write s x v) q r may is told =
      kept (Write s x v) q r refl refl
      (subst (λ c. IsQuiet (frame_list n.frame) c r) (some_same _ _ is)
      (record { unread = refl; unended = refl; untaken = refl }))
  part_done (WriteSum s x z) q r may is told = kept (WriteSum s x z) q r refl refl
      (sum_quiet (frame_list n.frame) (snapshot_number n.names s) x z n.value q r is)
  part_done (Apply s) q r may is told =
      kept (Apply s) q r refl refl
      (subst (λ c. IsQuiet (frame_list n.frame) c r) (some_same _ _ is)
      (record { unread = refl; unended = refl; untaken = refl }))
  part_done (Dispose s) q r may is told =
      kept (Dispose s) q r refl refl
      (subst (λ c. IsQuiet (frame_list n.frame) c r) (some_same _ _ is)
      (record { unread = refl; unended = unnamed w n.names n.frame s apart; untaken = refl }))
  part_done BeginFrame q r may is told =
      subst (λ c. PartDone n BeginFrame (entry_of c r) (after_call c)) (some_same _ _ is)
      (begin_done r may (ap (λ c. (call table w a c).1) (some_same _ _ is) ∙ told))
  part_done EndFrame q r may is told = by n.frame refl is where
    by : (o : Option ℕ) → n.frame ≡ o → end_request o ≡ Some q → PartDone n EndFrame (entry_of q r) (after_call q)
    by None e is = absurd cc
    by (Some f) e is =
        subst (λ c. PartDone n EndFrame (entry_of c r) (after_call c)) (some_same _ _ is) (end_done f r e)
