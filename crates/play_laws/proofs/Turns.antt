-- Legal and woven histories are in turn if only one actor has frames: at most one frame is open at a time, and the
-- actor that began it ends it.
use Rattle.std.proofs.Common.{◌≡◌, ◌≢◌, ◌⊎◌, ℕ, ◌+◌, ◌<◌, ◌≤◌, ◌==◌, ◌||◌, Bool, true, false, ℤ, List, [], ◌∷◌, length, refl, sym, ap, ◌∙◌, subst, cond, Option, Some, None, inl, inr, arith}
use Rattle.std.proofs.lemmas.Bool.Decides.{eqb_tells}
use Rattle.std.specs.Option.{unwrap_or}
use Rattle.std.specs.Str.{bytes_eq}
use Rattle.lang_ast.specs.declared.script.SnapshotRef.{SnapshotRef}
use Rattle.lang_ast.specs.declared.script.SnapshotRef.TheVariants.{Global, Named}
use Rattle.rt_values.specs.declared.value.Value.{Value}
use Rattle.rt_values.specs.declared.value.Value.TheVariants as value
use Rattle.rt_values.specs.Operators.{sum_of}
use Rattle.snap_policy.specs.declared.policy.BuiltIn.{BuiltIn}
use Rattle.snap_policy.specs.Table.{table}
use Rattle.snap_policy.specs.TableLaws.{table_merge_keeps_type}
use Rattle.snap_api.proofs.LawsCases.{Did, did, refused, took, took_for, got, left, wrote, joined, gone, closed}
use Rattle.snap_api.proofs.LawsNames.{grows_by, named_by}
use Rattle.snap_api.proofs.ValidCalls.{valid_call}
use Rattle.snap_api.specs.declared.data.Entry.{Entry}
use Rattle.snap_api.specs.declared.data.Reply.{Reply}
use Rattle.snap_api.specs.declared.data.Reply.TheVariants as reply
use Rattle.snap_api.specs.declared.data.Request.{Request}
use Rattle.snap_api.specs.declared.data.Request.TheVariants as request
use Rattle.snap_api.specs.declared.data.Snapshot.{Snapshot}
use Rattle.snap_api.specs.Laws.{name_handed_out}
use Rattle.snap_api.specs.Valid.{IsValid}
use Rattle.snap_api.specs.World.{World, History, IsLegal, call, child_of, snapshot_of}
use Rattle.rt_values.specs.declared.names.Kind.TheVariants.{Readonly}
use Rattle.std.proofs.Common.{length-append, length-set}
use Rattle.snap_shared.proofs.OwnCalls.{itself}
use Rattle.snap_shared.specs.SharedCalls.{own_calls}
use Rattle.lang_script.specs.SnapshotNames.{NamedNumber, latest, never_taken, snapshot_number}
use Rattle.lang_script.specs.StepCalls.{Notes, Part, Take, Read, Write, WriteSum, Apply, Dispose, BeginFrame, EndFrame, ActorPart, of_actor, request_of, notes_after, sum_request, end_request, number_taken, watcher_number}
use Rattle.lang_script.specs.StepLaws.{BeginsWith, Spells}
use Rattle.script_lang.specs.Lines.{ends_frame, frame_taken}
use Rattle.play_laws.specs.Woven.{ActorState, IsWoven}
use Rattle.play_laws.specs.FirstParts.{state_given}
use Rattle.play_laws.specs.FramesInTurn.{OpenFrame, frame_opened, AreInTurn}
use Rattle.play_laws.specs.PartTurns.{Alternates}
use Rattle.play_laws.proofs.Steps.{state_at_part, state_after_reply}
use Rattle.play_laws.proofs.Weaves.{within, first_call, later, next_actors}

abbrev pub HasNoFrame : Part → Type 0
HasNoFrame BeginFrame = ⊥
HasNoFrame EndFrame = ⊥
HasNoFrame _ = Unit {0}

abbrev pub HaveNoFrame : List ActorPart → Type 0
HaveNoFrame [] = Unit {0}
HaveNoFrame (p ∷ ps) = HasNoFrame p.part × HaveNoFrame ps

-- What is true of actor `a` with these notes and parts left. `count` is the number of snapshots, `open` the snapshot of
-- the open frame, and `own` the same if the frame is this actor's. Actor `f` is the only one with frames.
pub record Fits (f count : ℕ) (frame_open own : Option ℕ) (a : ℕ) (n : Notes) (parts : List ActorPart) : Type 0 where
  pub known : (x : List ℕ) (k : ℕ) → latest n.names x ≡ Some k → (k < count) ⊎ (k ≡ never_taken)
  pub apart : (x : List ℕ) (k : ℕ) → latest n.names x ≡ Some k → frame_open ≢ Some k
  pub frame : n.frame ≡ own
  pub inside : Bool
  pub turn : Alternates parts inside
  pub within : (k : ℕ) → own ≡ Some k → inside ≡ true
  pub only : a ≢ f → HaveNoFrame parts

-- The number of a snapshot that was taken for a frame.
pub record IsNumber (count k : ℕ) : Type 0 where
  pub inner : 0 < k
  pub there : k < count
  pub taken : k < never_taken

module _ (f count : ℕ) (frame_open own : Option ℕ) (a : ℕ) (n : Notes) where
  -- A part that makes no call is passed.
  part_passed : (b : ℕ) (p : Part) (ps : List ActorPart) → Fits f count frame_open own a n (of_actor b p ∷ ps)
      → request_of n p ≡ None → Fits f count frame_open own a n ps
  part_passed b (Take name kind parent) ps h none = absurd cc
  part_passed b (Read s x) ps h none = absurd cc
  part_passed b (Write s x v) ps h none = absurd cc
  part_passed b (WriteSum s x d) ps h none = record {
    known = h.known;
    apart = h.apart;
    frame = h.frame;
    inside = h.inside;
    turn = h.turn;
    within = h.within;
    only = λ ne. (h.only ne).1;
  }
  part_passed b (Apply s) ps h none = absurd cc
  part_passed b (Dispose s) ps h none = absurd cc
  part_passed b BeginFrame ps h none = absurd cc
  part_passed b EndFrame ps h none =
      let closed : end_request own ≡ None = ap end_request (sym h.frame) ∙ none in record {
        known = h.known;
        apart = h.apart;
        frame = h.frame;
        inside = false;
        turn = h.turn;
        within = λ k e. (let not : Some (request.Dispose k) ≡ None = ap end_request (sym e) ∙ closed in absurd cc);
        only = λ ne. (h.only ne).1;
      }

  -- The same of a state in which parts without a call are passed.
  abbrev FitsAt : ActorState → Type 0
  FitsAt s = Fits f count frame_open own a s.notes s.left

  state_passed : (parts : List ActorPart) → Fits f count frame_open own a n parts → FitsAt (state_given n parts [])
  state_passed [] h = h
  state_passed (p ∷ ps) h = by (request_of n p.part) refl (state_passed ps) where
    by : (o : Option Request) → request_of n p.part ≡ o
        → (Fits f count frame_open own a n ps → FitsAt (state_given n ps [])) → FitsAt (state_at_part n p ps o)
    by None e rest = rest (part_passed p.actor p.part ps h e)
    by (Some q) e rest = h

-- The snapshot that a call takes for a frame.
abbrev opened_by : List ℕ → Option ℕ
opened_by [] = None
opened_by (name ∷ more) = Some name

-- The call of a part outside of frames takes none, and ends none if it disposes another snapshot.
untaken_sum : (m x : ℕ) (d : ℤ) (o : Option Value) (q : Request) → sum_request m x d o ≡ Some q → (r : Reply)
    → frame_taken q r ≡ []
untaken_sum m x d (Some (value.Int z)) q is r =
    let e : request.Write m x (value.Int (sum_of z d)) ≡ q = cc in subst (λ (t : Request). frame_taken t r ≡ []) e refl
untaken_sum m x d (Some (value.Bool b)) q is r = absurd cc
untaken_sum m x d (Some (value.Text t)) q is r = absurd cc
untaken_sum m x d (Some (value.Ints l)) q is r = absurd cc
untaken_sum m x d None q is r = absurd cc

untaken : (n : Notes) (p : Part) (q : Request) → HasNoFrame p → request_of n p ≡ Some q → (r : Reply)
    → frame_taken q r ≡ []
untaken n (Take name kind parent) q plain is r = let e : request.Take (snapshot_number n.names parent) kind ≡ q = cc in
    subst (λ (t : Request). frame_taken t r ≡ []) e refl
untaken n (Read s x) q plain is r =
    let e : request.Read (snapshot_number n.names s) x ≡ q = cc in subst (λ (t : Request). frame_taken t r ≡ []) e refl
untaken n (Write s x v) q plain is r = let e : request.Write (snapshot_number n.names s) x v ≡ q = cc in
    subst (λ (t : Request). frame_taken t r ≡ []) e refl
untaken n (WriteSum s x d) q plain is r = untaken_sum (snapshot_number n.names s) x d n.value q is r
untaken n (Apply s) q plain is r =
    let e : request.Apply (snapshot_number n.names s) ≡ q = cc in subst (λ (t : Request). frame_taken t r ≡ []) e refl
untaken n (Dispose s) q plain is r =
    let e : request.Dispose (snapshot_number n.names s) ≡ q = cc in subst (λ (t : Request). frame_taken t r ≡ []) e refl
untaken n BeginFrame q plain is r = absurd plain
untaken n EndFrame q plain is r = absurd plain

unended_sum : (k m x : ℕ) (d : ℤ) (o : Option Value) (q : Request) → sum_request m x d o ≡ Some q
    → ends_frame (k ∷ []) q ≡ false
unended_sum k m x d (Some (value.Int z)) q is = let e : request.Write m x (value.Int (sum_of z d)) ≡ q = cc in
    subst (λ (t : Request). ends_frame (k ∷ []) t ≡ false) e refl
unended_sum k m x d (Some (value.Bool b)) q is = absurd cc
unended_sum k m x d (Some (value.Text t)) q is = absurd cc
unended_sum k m x d (Some (value.Ints l)) q is = absurd cc
unended_sum k m x d None q is = absurd cc

other_number : (k m : ℕ) → m ≢ k → ends_frame (k ∷ []) (request.Dispose m) ≡ false
other_number k m ne = elim (eqb_tells k m) [ inl e ↦ absurd (ne (sym e.1)) | inr e ↦ ap (λ b. b || false) e.0 ]

unended : (k : ℕ) (n : Notes) (p : Part) (q : Request) → HasNoFrame p → request_of n p ≡ Some q
    → ((s : SnapshotRef) → snapshot_number n.names s ≢ k) → ends_frame (k ∷ []) q ≡ false
unended k n (Take name kind parent) q plain is ne = let e : request.Take (snapshot_number n.names parent) kind ≡ q =
    cc in subst (λ (t : Request). ends_frame (k ∷ []) t ≡ false) e refl
unended k n (Read s x) q plain is ne = let e : request.Read (snapshot_number n.names s) x ≡ q = cc in
    subst (λ (t : Request). ends_frame (k ∷ []) t ≡ false) e refl
unended k n (Write s x v) q plain is ne = let e : request.Write (snapshot_number n.names s) x v ≡ q = cc in
    subst (λ (t : Request). ends_frame (k ∷ []) t ≡ false) e refl
unended k n (WriteSum s x d) q plain is ne = unended_sum k (snapshot_number n.names s) x d n.value q is
unended k n (Apply s) q plain is ne = let e : request.Apply (snapshot_number n.names s) ≡ q = cc in
    subst (λ (t : Request). ends_frame (k ∷ []) t ≡ false) e refl
unended k n (Dispose s) q plain is ne = let e : request.Dispose (snapshot_number n.names s) ≡ q = cc in
    subst (λ (t : Request). ends_frame (k ∷ []) t ≡ false) e (other_number k (snapshot_number n.names s) (ne s))
unended k n BeginFrame q plain is ne = absurd plain
unended k n EndFrame q plain is ne = absurd plain

-- No name represents the open frame's snapshot.
name_apart : (names : List NamedNumber) (k : ℕ) (s : SnapshotRef) → 0 < k → k < never_taken
    → ((x : List ℕ) (j : ℕ) → latest names x ≡ Some j → Some k ≢ Some j) → snapshot_number names s ≢ k
name_apart names k Global inner taken apart e = omega (arith, inner, e)
name_apart names k (Named name) inner taken apart e = by (latest names name.text) refl where
  by : (o : Option ℕ) → latest names name.text ≡ o → ⊥
  by None is = let same : never_taken ≡ k = ap (λ o. unwrap_or o never_taken) (sym is) ∙ e in omega (arith, taken, same)
  by (Some j) is = apart name.text j is (ap Some (sym (ap (λ o. unwrap_or o never_taken) (sym is) ∙ e)))

module _ (w : World BuiltIn) (a : ℕ) (q : Request) where
  -- The number of snapshots after the call.
  abbrev count_after : ℕ
  count_after = length (call table w a q).0.snapshots

  grown : length w.snapshots ≤ count_after
  grown = grows_by table w a q _ (did table w a q)

  -- The clock counts the snapshots.
  stays_few : (out : World BuiltIn × Reply) → Did table w a q out → length w.snapshots ≤ w.clock + 1
      → length out.0.snapshots ≤ out.0.clock + 1
  stays_few out d few = by q out d where
    by : (q : Request) (out : World BuiltIn × Reply) → Did table w a q out → length out.0.snapshots ≤ out.0.clock + 1
    by q out (refused request r) = few
    by q out (took parent kind live) =
        omega (arith, few, length-append w.snapshots (child_of a parent kind (snapshot_of w parent) ∷ []))
    by q out (took_for watcher) =
        omega (arith, few, length-append w.snapshots (child_of a 0 Readonly (snapshot_of w 0) ∷ []))
    by q out (got n x) = few
    by q out (left n x v) = few
    by q out (wrote n x v live) = omega (arith, few, length-set {A = Snapshot})
    by q out (joined n m changed is live parent_live) = omega (arith, few, length-set {A = Snapshot})
    by q out (gone n) = few
    by q out (closed n live) = omega (arith, few, length-set {A = Snapshot})

  -- A number that the call gives is new.
  new_number : (r : Reply) (k : ℕ) → r ≡ (call table w a q).1 → name_handed_out r ≡ Some k
      → (k ≡ length w.snapshots) × (k < count_after)
  new_number r k is e = named_by table w a q _ (did table w a q) k (ap name_handed_out (sym is) ∙ e)

  number_is : (r : Reply) → r ≡ (call table w a q).1
      → ((number_taken r ≡ length w.snapshots) × (number_taken r < count_after)) ⊎ (number_taken r ≡ never_taken)
  number_is (reply.Taken k) is = inl (new_number (reply.Taken k) k is refl)
  number_is (reply.TakenFor k changed) is = inr refl
  number_is (reply.Got v) is = inr refl
  number_is (reply.Wrote b) is = inr refl
  number_is reply.Applied is = inr refl
  number_is reply.Disposed is = inr refl
  number_is (reply.Refused e) is = inr refl

  -- Another actor's call changes nothing for an actor, if no name represents the snapshot that is open after it.
  other_fits : (f : ℕ) (frame_open later_frame own : Option ℕ) (b : ℕ) (s : ActorState)
      → Fits f (length w.snapshots) frame_open own b s.notes s.left →
      ((x : List ℕ) (k : ℕ) → latest s.notes.names x ≡ Some k → later_frame ≢ Some k)
      → Fits f count_after later_frame own b s.notes s.left
  other_fits f frame_open later_frame own b s h apart = record {
    known = λ x k e. elim (h.known x k e) [ inl lt ↦ inl (omega (arith, lt, grown)) | inr never ↦ inr never ];
    apart = apart;
    frame = h.frame;
    inside = h.inside;
    turn = h.turn;
    within = h.within;
    only = h.only;
  }

  module _ (f : ℕ) (b : ℕ) (n : Notes) (ps : List ActorPart) where
    -- The call of a part outside of frames that takes no name.
    kept_fits : (frame_open own : Option ℕ) (n' : Notes) (p : Part)
        → Fits f (length w.snapshots) frame_open own a n (of_actor b p ∷ ps) → n'.names ≡ n.names → n'.frame ≡ n.frame
        → ((inside : Bool) → Alternates (of_actor b p ∷ ps) inside → Alternates ps inside) →
        Fits f count_after frame_open own a n' ps
    kept_fits frame_open own n' p h names frame turn = record {
      known = λ x k e. elim (h.known x k
          (ap (λ (l : List NamedNumber). latest l x) (sym names) ∙ e)) [
            | inl lt ↦ inl (omega (arith, lt, grown))
            | inr never ↦ inr never
          ];
      apart = λ x k e. h.apart x k (ap (λ (l : List NamedNumber). latest l x) (sym names) ∙ e);
      frame = frame ∙ h.frame;
      inside = h.inside;
      turn = turn h.inside h.turn;
      within = h.within;
      only = λ ne. (h.only ne).1;
    }

    -- The call of a take.
    named_fits : (frame_open own : Option ℕ) (name : List ℕ) (n' : Notes) (r : Reply) (p : Part)
        → Fits f (length w.snapshots) frame_open own a n (of_actor b p ∷ ps) → r ≡ (call table w a q).1 →
        n'.names ≡ record { name = name; number = number_taken r } ∷ n.names → n'.frame ≡ n.frame
        → ((inside : Bool) → Alternates (of_actor b p ∷ ps) inside → Alternates ps inside) →
        ((k : ℕ) → frame_open ≡ Some k → IsNumber (length w.snapshots) k) → Fits f count_after frame_open own a n' ps
    named_fits frame_open own name n' r p h is names frame turn number = record {
      known = λ x k e. known x k (bytes_eq name x) (ap (λ (l : List NamedNumber). latest l x) (sym names) ∙ e);
      apart = λ x k e o. apart x k (bytes_eq name x) (ap (λ (l : List NamedNumber). latest l x) (sym names) ∙ e) o;
      frame = frame ∙ h.frame;
      inside = h.inside;
      turn = turn h.inside h.turn;
      within = h.within;
      only = λ ne. (h.only ne).1;
    } where
      known : (x : List ℕ) (k : ℕ) (c : Bool) → cond c (Some (number_taken r)) (latest n.names x) ≡ Some k
          → (k < count_after) ⊎ (k ≡ never_taken)
      known x k true e =
          let same : number_taken r ≡ k = cc in
          elim (number_is r is) [
            | inl new ↦ let lt = new.1 in
                inl (omega (arith, same, lt))
            | inr never ↦ inr (sym same ∙ never)
          ]
      known x k false e = elim (h.known x k e) [ inl lt ↦ inl (omega (arith, lt, grown)) | inr never ↦ inr never ]

      apart : (x : List ℕ) (k : ℕ) (c : Bool) → cond c (Some (number_taken r)) (latest n.names x) ≡ Some k
          → frame_open ≢ Some k
      apart x k true e o =
          let same : number_taken r ≡ k = cc in
          let its = number k o in
          let there = its.there in
          let taken = its.taken in
          elim (number_is r is) [
            | inl new ↦ let eq = new.0 in
                omega (arith, same, eq, there)
            | inr never ↦ omega (arith, same, never, taken)
          ]
      apart x k false e o = h.apart x k e o

    -- The call of a part that is no part of a frame.
    plain_fits : (frame_open own : Option ℕ) (p : Part) (r : Reply) → HasNoFrame p
        → Fits f (length w.snapshots) frame_open own a n (of_actor b p ∷ ps) → r ≡ (call table w a q).1 →
        ((k : ℕ) → frame_open ≡ Some k → IsNumber (length w.snapshots) k)
        → Fits f count_after frame_open own a (notes_after n p r) ps
    plain_fits frame_open own (Take name kind parent) r plain h is number =
        named_fits frame_open own name _ r (Take name kind parent) h is refl refl (λ i t. t) number
    plain_fits frame_open own (Read s x) r plain h is number =
        kept_fits frame_open own _ (Read s x) h refl refl (λ i t. t)
    plain_fits frame_open own (Write s x v) r plain h is number =
        kept_fits frame_open own _ (Write s x v) h refl refl (λ i t. t)
    plain_fits frame_open own (WriteSum s x d) r plain h is number =
        kept_fits frame_open own _ (WriteSum s x d) h refl refl (λ i t. t)
    plain_fits frame_open own (Apply s) r plain h is number =
        kept_fits frame_open own _ (Apply s) h refl refl (λ i t. t)
    plain_fits frame_open own (Dispose s) r plain h is number =
        kept_fits frame_open own _ (Dispose s) h refl refl (λ i t. t)
    plain_fits frame_open own BeginFrame r plain h is number = absurd plain
    plain_fits frame_open own EndFrame r plain h is number = absurd plain

-- What a call opens: a frame of actor `f`, with the number of a new snapshot.
abbrev Opens : (f before count a : ℕ) → Option ℕ → Type 0
Opens f before count a o = (k : ℕ) → o ≡ Some k → (a ≡ f) × IsNumber count k × (before ≤ k)

-- The snapshot that a call takes for a frame.
abbrev taken_by : Request → Reply → Option ℕ
taken_by q r = opened_by (frame_taken q r)

its_own : (a f : ℕ) → (a ≢ f → ⊥) → a ≡ f
its_own a f other = elim (eqb_tells a f) [ inl e ↦ e.1 | inr e ↦ absurd (other e.1) ]

module _ (w : World BuiltIn) (a f b : ℕ) (n : Notes) (ps : List ActorPart) where
  -- The state after the call of an actor, if no frame is open.
  record Began (n' : Notes) (q : Request) (o : Option ℕ) : Type 0 where
    pub fits : Fits f (count_after w a q) o o a n' ps
    pub opens : Opens f (length w.snapshots) (count_after w a q) a o

  begun_plain : (p : Part) (q : Request) (r : Reply) → HasNoFrame p
      → Fits f (length w.snapshots) None None a n (of_actor b p ∷ ps) → request_of n p ≡ Some q
      → r ≡ (call table w a q).1 → Began (notes_after n p r) q (taken_by q r)
  begun_plain p q r plain h asks is =
      let none : None ≡ taken_by q r = sym (ap opened_by (untaken n p q plain asks r)) in
      subst (λ o. Began (notes_after n p r) q o) none (record {
        fits = plain_fits w a q f b n ps None None p r plain h is (λ k e. absurd cc);
        opens = λ k e. absurd cc;
      })

  -- A take for a frame that was refused.
  begun_none : (n' : Notes) → Fits f (length w.snapshots) None None a n (of_actor b BeginFrame ∷ ps)
      → n'.names ≡ n.names → n'.frame ≡ None → Began n' (request.TakeFor watcher_number) None
  begun_none n' h names frame =
      let q = request.TakeFor watcher_number in
      let own : n'.frame ≡ n.frame = frame ∙ sym h.frame in
      record {
        fits = record {
          known = λ x k e. elim (h.known x k
              (ap (λ (l : List NamedNumber). latest l x) (sym names) ∙ e)) [
                | inl lt ↦ let more = grown w a q in
                    inl (omega (arith, lt, more))
                | inr never ↦ inr never
              ];
          apart = λ x k e o. absurd cc;
          frame = frame;
          inside = true;
          turn = h.turn.1;
          within = λ k e. refl;
          only = λ ne. (h.only ne).1;
        };
        opens = λ k e. absurd cc;
      }

  begun_frame : (r : Reply) → Fits f (length w.snapshots) None None a n (of_actor b BeginFrame ∷ ps)
      → r ≡ (call table w a (request.TakeFor watcher_number)).1 → 0 < length w.snapshots
      → length w.snapshots < never_taken →
      Began (notes_after n BeginFrame r) (request.TakeFor watcher_number) (taken_by (request.TakeFor watcher_number) r)
  begun_frame (reply.TakenFor name changed) h is some below =
      let q = request.TakeFor watcher_number in
      let new = new_number w a q (reply.TakenFor name changed) name is refl in
      let named = new.0 in
      let there = new.1 in
      record {
        fits = record {
          known = λ x k e. elim (h.known x k e) [
            | inl lt ↦ let more = grown w a q in
                inl (omega (arith, lt, more))
            | inr never ↦ inr never
          ];
          apart = λ x k e o. (let same : name ≡ k = cc in
              elim (h.known x k e) [
                | inl lt ↦ omega (arith, lt, same, named)
                | inr never ↦ omega (arith, never, same, named, below)
              ]);
          frame = refl;
          inside = true;
          turn = h.turn.1;
          within = λ k e. refl;
          only = λ ne. (h.only ne).1;
        };
        opens = λ k e. (
          its_own a f (λ ne. (h.only ne).0),
          let same : name ≡ k = cc in record {
            inner = omega (arith, some, named, same);
            there = omega (arith, there, same);
            taken = omega (arith, below, named, same);
          },
          (let same : name ≡ k = cc in omega (arith, named, same)),
        );
      }
  begun_frame (reply.Taken k) h is some below = begun_none _ h refl refl
  begun_frame (reply.Got v) h is some below = begun_none _ h refl refl
  begun_frame (reply.Wrote c) h is some below = begun_none _ h refl refl
  begun_frame reply.Applied h is some below = begun_none _ h refl refl
  begun_frame reply.Disposed h is some below = begun_none _ h refl refl
  begun_frame (reply.Refused e) h is some below = begun_none _ h refl refl

  begins : (p : Part) (q : Request) (r : Reply) → Fits f (length w.snapshots) None None a n (of_actor b p ∷ ps)
      → request_of n p ≡ Some q → r ≡ (call table w a q).1 → 0 < length w.snapshots → length w.snapshots < never_taken →
      Began (notes_after n p r) q (taken_by q r)
  begins (Take name kind parent) q r h asks is some below = begun_plain (Take name kind parent) q r tt h asks is
  begins (Read s x) q r h asks is some below = begun_plain (Read s x) q r tt h asks is
  begins (Write s x v) q r h asks is some below = begun_plain (Write s x v) q r tt h asks is
  begins (WriteSum s x d) q r h asks is some below = begun_plain (WriteSum s x d) q r tt h asks is
  begins (Apply s) q r h asks is some below = begun_plain (Apply s) q r tt h asks is
  begins (Dispose s) q r h asks is some below = begun_plain (Dispose s) q r tt h asks is
  begins BeginFrame q r h asks is some below =
      let e : request.TakeFor watcher_number ≡ q = cc in
      subst (λ (t : Request). r ≡ (call table w a t).1 → Began (notes_after n BeginFrame r) t (taken_by t r)) e
      (λ k. begun_frame r h k some below) is
  begins EndFrame q r h asks is some below = let not : None ≡ Some q = sym (ap end_request h.frame) ∙ asks in absurd cc

  -- The state after the call of an actor while a frame is open with snapshot `k`. The call ends the frame, or leaves it
  -- open.
  data GoesOn (k : ℕ) (own : Option ℕ) (n' : Notes) (q : Request) (taken : List ℕ) : Type 0 where
    ends : ends_frame (k ∷ []) q ≡ true → own ≡ Some k → Fits f (count_after w a q) None None a n' ps
        → GoesOn k own n' q taken
    stays : ends_frame (k ∷ []) q ≡ false → taken ≡ [] → Fits f (count_after w a q) (Some k) own a n' ps
        → GoesOn k own n' q taken

  stays_plain : (k : ℕ) (own : Option ℕ) (p : Part) (q : Request) (r : Reply) → HasNoFrame p
      → IsNumber (length w.snapshots) k → Fits f (length w.snapshots) (Some k) own a n (of_actor b p ∷ ps)
      → request_of n p ≡ Some q → r ≡ (call table w a q).1 →
      GoesOn k own (notes_after n p r) q (frame_taken q r)
  stays_plain k own p q r plain number h asks is = stays
      (unended k n p q plain asks (λ s. name_apart n.names k s number.inner number.taken h.apart))
      (untaken n p q plain asks r)
      (plain_fits w a q f b n ps (Some k) own p r plain h is
      (λ j e. (let same : k ≡ j = cc in subst (λ (i : ℕ). IsNumber (length w.snapshots) i) same number)))

  -- The own open frame ends.
  ended : (k : ℕ) (r : Reply) → Fits f (length w.snapshots) (Some k) (Some k) a n (of_actor b EndFrame ∷ ps)
      → GoesOn k (Some k) (notes_after n EndFrame r) (request.Dispose k) (frame_taken (request.Dispose k) r)
  ended k r h = ends (ap (λ c. c || false) (itself k)) refl (record {
    known = λ x j e. elim (h.known x j e) [
      | inl lt ↦ let more = grown w a (request.Dispose k) in
          inl (omega (arith, lt, more))
      | inr never ↦ inr never
    ];
    apart = λ x j e o. absurd cc;
    frame = refl;
    inside = false;
    turn = h.turn;
    within = λ j e. absurd cc;
    only = λ ne. (h.only ne).1;
  })

  -- `own` is the open frame's snapshot if the actor began the frame. Else the actor is not the one with frames.
  goes_on : (k : ℕ) (own : Option ℕ) → (own ≡ Some k) ⊎ ((own ≡ None) × (a ≢ f)) → IsNumber (length w.snapshots) k
      → (p : Part) (q : Request) (r : Reply) → Fits f (length w.snapshots) (Some k) own a n (of_actor b p ∷ ps)
      → request_of n p ≡ Some q → r ≡ (call table w a q).1 →
      GoesOn k own (notes_after n p r) q (frame_taken q r)
  goes_on k own whose number (Take name kind parent) q r h asks is =
      stays_plain k own (Take name kind parent) q r tt number h asks is
  goes_on k own whose number (Read s x) q r h asks is = stays_plain k own (Read s x) q r tt number h asks is
  goes_on k own whose number (Write s x v) q r h asks is = stays_plain k own (Write s x v) q r tt number h asks is
  goes_on k own whose number (WriteSum s x d) q r h asks is = stays_plain k own (WriteSum s x d) q r tt number h asks is
  goes_on k own whose number (Apply s) q r h asks is = stays_plain k own (Apply s) q r tt number h asks is
  goes_on k own whose number (Dispose s) q r h asks is = stays_plain k own (Dispose s) q r tt number h asks is
  goes_on k own (inl mine) number BeginFrame q r h asks is =
      let not : true ≡ false = sym (h.within k mine) ∙ h.turn.0 in absurd cc
  goes_on k own (inr other) number BeginFrame q r h asks is = absurd (h.only other.1).0
  goes_on k own (inl mine) number EndFrame q r h asks is =
      let e : request.Dispose k ≡ q =
      (let one : Some (request.Dispose k) ≡ Some q = sym (ap end_request (h.frame ∙ mine)) ∙ asks in cc) in
      subst (λ (t : Request). GoesOn k own (notes_after n EndFrame r) t (frame_taken t r)) e
      (subst (λ (o : Option ℕ). Fits f (length w.snapshots) (Some k) o a n (of_actor b EndFrame ∷ ps)
      → GoesOn k o (notes_after n EndFrame r) (request.Dispose k) (frame_taken (request.Dispose k) r)) (sym mine)
      (ended k r) h)
  goes_on k own (inr other) number EndFrame q r h asks is =
      let not : None ≡ Some q = sym (ap end_request (h.frame ∙ other.0)) ∙ asks in absurd cc

module _ (w : World BuiltIn) (f : ℕ) (n : Notes) (e : Entry) (es : History)
    (is : e.reply ≡ (call table w e.caller e.request).1) where
  -- What the first call of parts must be, by the first part's request.
  abbrev SpellsFirst : ActorPart → List ActorPart → Option Request → Type 0
  SpellsFirst p ps o = elim o [
    | None ↦ Spells n ps (e ∷ es)
    | Some q ↦ BeginsWith p.actor q (λ r more. Spells (notes_after n p.part r) ps more) (e ∷ es)
  ]

  -- An actor's state after its first call.
  abbrev then : List ActorPart → ActorState
  then parts = state_given n parts (e.reply ∷ [])

  record BeganAt (s : ActorState) : Type 0 where
    pub fits : Fits f (count_after w e.caller e.request) (taken_by e.request e.reply) (taken_by e.request e.reply)
        e.caller s.notes s.left
    pub opens : Opens f (length w.snapshots) (count_after w e.caller e.request) e.caller (taken_by e.request e.reply)

  first_begins : 0 < length w.snapshots → length w.snapshots < never_taken → (parts : List ActorPart)
      → Fits f (length w.snapshots) None None e.caller n parts → Spells n parts (e ∷ es) → BeganAt (then parts)
  first_begins some below [] h s = absurd cc
  first_begins some below (p ∷ ps) h s = by (request_of n p.part) refl (first_begins some below ps) s where
    by : (o : Option Request) → request_of n p.part ≡ o
        → (Fits f (length w.snapshots) None None e.caller n ps → Spells n ps (e ∷ es) → BeganAt (then ps)) →
        SpellsFirst p ps o →
        BeganAt (state_after_reply n p ps e.reply [] o)
    by None asks rest now = rest (part_passed f (length w.snapshots) None None e.caller n p.actor p.part ps h asks) now
    by (Some q) asks rest now =
        let asked = asks ∙ ap Some (sym now.1) in
        let b = begins w e.caller f p.actor n ps p.part e.request e.reply h asked is some below in record {
          fits = state_passed f (count_after w e.caller e.request) (taken_by e.request e.reply)
              (taken_by e.request e.reply) e.caller (notes_after n p.part e.reply) ps b.fits;
          opens = b.opens;
        }

  data GoesOnAt (k : ℕ) (own : Option ℕ) (s : ActorState) : Type 0 where
    ends_at : ends_frame (k ∷ []) e.request ≡ true → own ≡ Some k
        → Fits f (count_after w e.caller e.request) None None e.caller s.notes s.left → GoesOnAt k own s
    stays_at : ends_frame (k ∷ []) e.request ≡ false → frame_taken e.request e.reply ≡ []
        → Fits f (count_after w e.caller e.request) (Some k) own e.caller s.notes s.left → GoesOnAt k own s

  first_goes_on : (k : ℕ) (own : Option ℕ) → (own ≡ Some k) ⊎ ((own ≡ None) × (e.caller ≢ f))
      → IsNumber (length w.snapshots) k → (parts : List ActorPart)
      → Fits f (length w.snapshots) (Some k) own e.caller n parts → Spells n parts (e ∷ es)
      → GoesOnAt k own (then parts)
  first_goes_on k own whose number [] h s = absurd cc
  first_goes_on k own whose number (p ∷ ps) h s =
      by (request_of n p.part) refl (first_goes_on k own whose number ps) s where
        on : {n' : Notes} → GoesOn w e.caller f p.actor n ps k own n' e.request (frame_taken e.request e.reply)
            → GoesOnAt k own (state_given n' ps [])
        on {n'} (ends is_end mine fits) =
            ends_at is_end mine (state_passed f (count_after w e.caller e.request) None None e.caller n' ps fits)
        on {n'} (stays not_end none fits) =
            stays_at not_end none (state_passed f (count_after w e.caller e.request) (Some k) own e.caller n' ps fits)

        by : (o : Option Request) → request_of n p.part ≡ o
            → (Fits f (length w.snapshots) (Some k) own e.caller n ps → Spells n ps (e ∷ es) → GoesOnAt k own (then ps)) →
            SpellsFirst p ps o →
            GoesOnAt k own (state_after_reply n p ps e.reply [] o)
        by None asks rest now =
            rest (part_passed f (length w.snapshots) (Some k) own e.caller n p.actor p.part ps h asks) now
        by (Some q) asks rest now = on (goes_on w e.caller f p.actor n ps k own whose number p.part e.request e.reply h
            (asks ∙ ap Some (sym now.1)) is)

-- The snapshot of the open frame, for all actors and for one.
abbrev pub name_of : Option OpenFrame → Option ℕ
name_of None = None
name_of (Some g) = Some g.name

abbrev pub own_of : Option OpenFrame → ℕ → Option ℕ
own_of None a = None
own_of (Some g) a = cond (g.caller == a) (Some g.name) None

-- What is true between two calls, of the first `n` actors. Actor `f` is the only one with frames.
pub record AllFit (f n : ℕ) (w : World BuiltIn) (frame_open : Option OpenFrame) (actors : ℕ → ActorState) : Type 0 where
  pub valid : IsValid table w
  pub few : length w.snapshots ≤ w.clock + 1
  pub fits : (a : ℕ) → a < n → Fits f (length w.snapshots) (name_of frame_open) (own_of frame_open a) a
      (actors a).notes (actors a).left
  pub opened : (g : OpenFrame) → frame_open ≡ Some g → (g.caller ≡ f) × IsNumber (length w.snapshots) g.name

own_opened : (a : ℕ) (fs : List ℕ) → own_of (frame_opened a fs) a ≡ opened_by fs
own_opened a [] = refl
own_opened a (k ∷ fs) = ap (λ b. cond b (Some k) None) (itself a)

other_opened : (a b : ℕ) (fs : List ℕ) → (a == b) ≡ false → own_of (frame_opened a fs) b ≡ None
other_opened a b [] e = refl
other_opened a b (k ∷ fs) e = ap (λ c. cond c (Some k) None) e

name_opened : (a : ℕ) (fs : List ℕ) → name_of (frame_opened a fs) ≡ opened_by fs
name_opened a [] = refl
name_opened a (k ∷ fs) = refl

opened_frame : (f before count a : ℕ) (fs : List ℕ) → Opens f before count a (opened_by fs) → (g : OpenFrame)
    → frame_opened a fs ≡ Some g → (g.caller ≡ f) × IsNumber count g.name
opened_frame f before count a [] opens g e = absurd cc
opened_frame f before count a (k ∷ fs) opens g e =
    let same : record { caller = a; name = k } ≡ g = cc in
    let o = opens k refl in
    subst (λ (h : OpenFrame). (h.caller ≡ f) × IsNumber count h.name) same (o.0, o.1)

number_on : (count count' k : ℕ) → count ≤ count' → IsNumber count k → IsNumber count' k
number_on count count' k le h =
    let there = h.there in record { inner = h.inner; there = omega (arith, le, there); taken = h.taken }

-- One of two types.
abbrev pub Turn : Bool → Type 0 → Type 0 → Type 0
Turn b A B = elim b [ true ↦ A | false ↦ B ]

module _ (f n : ℕ) where
  -- The state of an actor after its first call.
  abbrev answered : (ℕ → ActorState) → Entry → ActorState
  answered actors e = state_given (actors e.caller).notes (actors e.caller).left (e.reply ∷ [])

  -- The facts go on over a call, if those of its caller do.
  fit_after : (w : World BuiltIn) (frame_open later_frame : Option OpenFrame) (actors : ℕ → ActorState) (e : Entry)
      → AllFit f n w frame_open actors →
      Fits f (count_after w e.caller e.request) (name_of later_frame) (own_of later_frame e.caller) e.caller
      (answered actors e).notes (answered actors e).left →
      ((b : ℕ) → b ≢ e.caller → own_of later_frame b ≡ own_of frame_open b) →
      ((b : ℕ) → b < n → (x : List ℕ) (k : ℕ) → latest (actors b).notes.names x ≡ Some k
      → name_of later_frame ≢ Some k) →
      ((g : OpenFrame) → later_frame ≡ Some g → (g.caller ≡ f) × IsNumber (count_after w e.caller e.request) g.name) →
      AllFit f n (call table w e.caller e.request).0 later_frame (next_actors n actors e)
  fit_after w frame_open later_frame actors e h mine own apart opened = record {
    valid = valid_call h.valid table_merge_keeps_type e.caller e.request;
    few = stays_few w e.caller e.request _ (did table w e.caller e.request) h.few;
    fits = λ b below. elim (eqb_tells b e.caller) [
      | inl same ↦
          subst (λ (s : ActorState). Fits f (count_after w e.caller e.request) (name_of later_frame)
          (own_of later_frame b) b s.notes s.left) (ap (λ c. cond c (answered actors e) (actors b)) (sym same.0))
          (subst (λ (i : ℕ). Fits f (count_after w e.caller e.request) (name_of later_frame) (own_of later_frame i) i
          (answered actors e).notes (answered actors e).left) (sym same.1) mine)
      | inr other ↦
          subst (λ (s : ActorState). Fits f (count_after w e.caller e.request) (name_of later_frame)
          (own_of later_frame b) b s.notes s.left) (ap (λ c. cond c (answered actors e) (actors b)) (sym other.0))
          (subst (λ (o : Option ℕ). Fits f (count_after w e.caller e.request) (name_of later_frame) o b
          (actors b).notes (actors b).left) (sym (own b other.1))
          (other_fits w e.caller e.request f (name_of frame_open) (name_of later_frame) (own_of frame_open b) b
          (actors b) (h.fits b below) (apart b below)))
    ];
    opened = opened;
  }

  -- Whose frame is open.
  whose : (g : OpenFrame) (a : ℕ) → g.caller ≡ f
      → (own_of (Some g) a ≡ Some g.name) ⊎ ((own_of (Some g) a ≡ None) × (a ≢ f))
  whose g a its = elim (eqb_tells g.caller a) [
    | inl same ↦ inl (ap (λ c. cond c (Some g.name) None) same.0)
    | inr other ↦ inr (ap (λ c. cond c (Some g.name) None) other.0, λ e. other.1 (its ∙ sym e))
  ]

  owner : (g : OpenFrame) (a : ℕ) → own_of (Some g) a ≡ Some g.name → a ≡ g.caller
  owner g a mine = elim (eqb_tells g.caller a) [
    | inl same ↦ sym same.1
    | inr other ↦ let not : None ≡ Some g.name = sym (ap (λ c. cond c (Some g.name) None) other.0) ∙ mine in absurd cc
  ]

  not_owner : (g : OpenFrame) (a b : ℕ) → a ≡ g.caller → b ≢ a → None ≡ own_of (Some g) b
  not_owner g a b its ne = elim (eqb_tells g.caller b) [
    | inl same ↦ absurd (ne (sym same.1 ∙ sym its))
    | inr other ↦ sym (ap (λ c. cond c (Some g.name) None) other.0)
  ]

  some_snapshot : (w : World BuiltIn) → IsValid table w → 0 < length w.snapshots
  some_snapshot w valid = let parent = valid.parents 0 in omega (arith, parent)

  few_numbers : (w : World BuiltIn) → IsValid table w → length w.snapshots ≤ w.clock + 1
      → length w.snapshots < never_taken
  few_numbers w valid few = let time = valid.in_time in omega (arith, few, time)

  pub turns : (h : History) (w : World BuiltIn) (frame_open : Option OpenFrame) (actors : ℕ → ActorState)
      → AllFit f n w frame_open actors → IsLegal table w h → IsWoven n actors h → AreInTurn frame_open h
  turns [] w frame_open actors fit legal woven = tt
  turns (e ∷ es) w None actors fit legal woven =
      let fs = frame_taken e.request e.reply in
      let later_frame = frame_opened e.caller fs in
      let below = within n actors e es woven in
      let b = first_begins w f (actors e.caller).notes e _ (sym legal.0) (some_snapshot w fit.valid)
      (few_numbers w fit.valid fit.few) (actors e.caller).left (fit.fits e.caller below)
      (first_call n actors e es woven) in
      turns es (call table w e.caller e.request).0 later_frame (next_actors n actors e)
      (fit_after w None later_frame actors e fit
      (subst (λ (o : Option ℕ). Fits f (count_after w e.caller e.request) o (own_of later_frame e.caller) e.caller
      (answered actors e).notes (answered actors e).left) (sym (name_opened e.caller fs))
      (subst (λ (o : Option ℕ). Fits f (count_after w e.caller e.request) (opened_by fs) o e.caller
      (answered actors e).notes (answered actors e).left) (sym (own_opened e.caller fs)) b.fits))
      (λ c ne. elim (eqb_tells e.caller c) [
        | inl same ↦ absurd (ne (sym same.1))
        | inr other ↦ other_opened e.caller c fs other.0
      ])
      (λ c low x k is o.
      let new = b.opens k (sym (name_opened e.caller fs) ∙ o) in
      let number = new.1 in
      let taken = number.taken in
      let late = new.2 in
      elim ((fit.fits c low).known x k is) [
        | inl lt ↦ omega (arith, lt, late)
        | inr never ↦ omega (arith, never, taken)
      ])
      (opened_frame f (length w.snapshots) (count_after w e.caller e.request) e.caller fs b.opens))
      legal.1 (later n actors e es woven)
  turns (e ∷ es) w (Some g) actors fit legal woven =
      let its = fit.opened g refl in
      let below = within n actors e es woven in
      let own = own_of (Some g) e.caller in
      by (first_goes_on w f (actors e.caller).notes e _ (sym legal.0) g.name own (whose g e.caller its.0) its.1
      (actors e.caller).left (fit.fits e.caller below) (first_call n actors e es woven))
      (λ o k. turns es (call table w e.caller e.request).0 o (next_actors n actors e) k legal.1
      (later n actors e es woven)) where
        by : GoesOnAt w f (actors e.caller).notes e (own_calls e.caller es) (sym legal.0) g.name
            (own_of (Some g) e.caller) (answered actors e) →
            ((o : Option OpenFrame) → AllFit f n (call table w e.caller e.request).0 o (next_actors n actors e)
            → AreInTurn o es) → AreInTurn (Some g) (e ∷ es)
        by (ends_at is_end mine fits) rest =
            let callers = owner g e.caller mine in
            subst (λ c. Turn c ((e.caller ≡ g.caller) × AreInTurn None es)
            ((frame_taken e.request e.reply ≡ []) × AreInTurn (Some g) es)) (sym is_end) (
              callers,
              rest None (fit_after w (Some g) None actors e fit fits (λ c ne. not_owner g e.caller c callers ne)
                  (λ c low x k is o. absurd cc) (λ o is. absurd cc)),
            )
        by (stays_at not_end none fits) rest =
            subst (λ c. Turn c ((e.caller ≡ g.caller) × AreInTurn None es)
            ((frame_taken e.request e.reply ≡ []) × AreInTurn (Some g) es)) (sym not_end) (
              none,
              rest (Some g) (fit_after w (Some g) (Some g) actors e fit fits (λ c ne. refl)
                  (λ c low x k is. (fit.fits c low).apart x k is)
                  (λ o is. (
                  let its = fit.opened o is in (
                    its.0,
                    number_on (length w.snapshots) (count_after w e.caller e.request) o.name
                        (grown w e.caller e.request) its.1,
                  )
                  ))),
            )
