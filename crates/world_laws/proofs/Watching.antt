-- What a snapshot for a watcher shows, and which objects its take lists.
use Rattle.std.proofs.Common.{ℕ, ◌<◌, ◌==◌, nat_lt, List, [], ◌∷◌, length, ◌≡◌, ◌≢◌, inl, inr, refl, ap, ◌∙◌, sym, Bool, true, false, not, ◌&&◌, cond, Option, Some, None, arith, get_or-set_other}
use Rattle.std.proofs.lemmas.Bool.{cases_lt, eqb-true, not-false as not_false}
use Rattle.std.proofs.lemmas.Bool.Decides.{eqb_tells}
use Rattle.std.specs.Option.{unwrap_or}
use Rattle.std.specs.Prelude.{slice_get}
use Rattle.rt_values.specs.declared.maps.StampedValue.{StampedValue}
use Rattle.rt_values.specs.declared.value.Value.{Value}
use Rattle.rt_values.specs.Maps.{Map, entry_at, value_at, differ, contains}
use Rattle.rt_values.specs.Values.{type_of, same_type}
use Rattle.snap_policy.specs.Rules.{Rules, KeepsTypes}
use Rattle.snap_api.proofs.LawsCases.{did}
use Rattle.snap_api.proofs.LawsNames.{grows_by, pushed}
use Rattle.snap_api.proofs.LawsViews.{views_are_isolated, reads_are_isolated}
use Rattle.snap_api.proofs.Takes.{TookFor, call-TakeFor}
use Rattle.snap_api.proofs.Valid.{open_within}
use Rattle.snap_api.proofs.ValidCalls.{valid_call}
use Rattle.snap_api.proofs.ValidSteps.{each_shot-set}
use Rattle.snap_api.specs.Laws.{view_after_calls, name_handed_out}
use Rattle.snap_api.specs.Settle.{Settled, settled, conflict}
use Rattle.snap_api.specs.Valid.{IsValid, MovedOn, View, Last}
use Rattle.snap_api.specs.World.{World, History, no_snapshot, snapshot_of, last_of, with_snapshot, with_settled, with_status, call, world_after, is_closed, is_foreign, is_spent, is_mutable, settled_of, write_to, apply_to}
use Rattle.snap_api.specs.declared.data.Object.{Object}
use Rattle.snap_api.specs.declared.data.Refusal.{Refusal}
use Rattle.snap_api.specs.declared.data.Refusal.TheVariants as refusal
use Rattle.snap_api.specs.declared.data.Reply.{Reply}
use Rattle.snap_api.specs.declared.data.Reply.TheVariants as reply
use Rattle.snap_api.specs.declared.data.Request.{Request}
use Rattle.snap_api.specs.declared.data.Request.TheVariants as request
use Rattle.snap_api.specs.declared.data.Snapshot.{Snapshot}
use Rattle.snap_api.specs.declared.data.SnapshotStatus.TheVariants.{Disposed}
use Rattle.world_laws.specs.Watching.{FrameShowsItsTake, FrameReadsItsTake, WatcherMissesNothing, WatcherHearsNothingTwice}
use Rattle.world_laws.proofs.MapDifferences.{differ_of, listed, unlisted, differs_by_stamp, differs_if_new, differs_from_itself}

-- A readonly snapshot shows the same map after every call.

-- The snapshot has the same kind and shows the same map.
record Stays {P : Type 0} (w : World P) (name : ℕ) (r : World P × Reply) : Type 0 where
  kind : (snapshot_of r.0 name).kind ≡ (snapshot_of w name).kind
  view : (snapshot_of r.0 name).view ≡ (snapshot_of w name).view

stays_by : {P : Type 0} (w : World P) (name : ℕ) (r : World P × Reply) → snapshot_of r.0 name ≡ snapshot_of w name
    → Stays w name r
stays_by w name r e = record { kind = ap (λ (s : Snapshot). s.kind) e; view = ap (λ (s : Snapshot). s.view) e }

module _ {P : Type 0} {rules : Rules P} {w : World P} (v : IsValid rules w) (caller name : ℕ)
    (there : name < length w.snapshots) (readonly : is_mutable (snapshot_of w name).kind ≡ false) where
  stays_tested : (b : Bool) (r : Refusal) (go : World P × Reply) → (b ≡ false → Stays w name go) →
      Stays w name (cond b (w, reply.Refused r) go)
  stays_tested true r go next = record { kind = refl; view = refl }
  stays_tested false r go next = next refl

  stays_either : (b : Bool) (one other : World P × Reply) → Stays w name one → Stays w name other →
      Stays w name (cond b one other)
  stays_either true one other h k = h
  stays_either false one other h k = k

  -- A mutable snapshot is another one.
  other_one : (n : ℕ) → is_mutable (snapshot_of w n).kind ≡ true → name ≢ n
  other_one n mutable same =
      let both : is_mutable (snapshot_of w n).kind ≡ false =
      ap (λ (k : ℕ). is_mutable (snapshot_of w k).kind) (sym same) ∙ readonly in
      absurd cc

  stays_written : (n x : ℕ) (value : Value) (o : Option (Object P)) → Stays w name (write_to rules w caller n x value o)
  stays_written n x value None = record { kind = refl; view = refl }
  stays_written n x value (Some o) =
      stays_tested (not (is_mutable (snapshot_of w n).kind)) refusal.ReadOnly _ (λ a.
      stays_tested (not (same_type (type_of value) o.ty)) (refusal.WrongType o.ty) _ (λ b.
      stays_either (rules.equiv o.policy (value_at (snapshot_of w n).view x) value) _ _
      (record { kind = refl; view = refl })
      (stays_by w name _ (get_or-set_other w.snapshots n name _ no_snapshot (other_one n (not_false _ a))))))

  stays_applied : (n : ℕ) (s : Settled) → is_closed w n ≡ false → is_mutable (snapshot_of w n).kind ≡ true →
      Stays w name (apply_to rules w caller n s)
  stays_applied n (settled m changed) live mutable =
      let parent = (snapshot_of w n).parent in
      let into = with_snapshot w parent (with_settled (snapshot_of w parent) m changed) in
      stays_by w name _ (get_or-set_other into.snapshots n name _ no_snapshot (other_one n mutable)
      ∙ get_or-set_other w.snapshots parent name _ no_snapshot (other_one parent (v.tree n live mutable)))
  stays_applied n (conflict x) live mutable = record { kind = refl; view = refl }

  stays_disposed : (n : ℕ) (t : Bool) → is_closed w n ≡ t →
      Stays w name (cond {A = World P × Reply} t (w, reply.Disposed)
      (with_snapshot w n (with_status (snapshot_of w n) Disposed), reply.Disposed))
  stays_disposed n true is = record { kind = refl; view = refl }
  stays_disposed n false is = record {
    kind = each_shot-set w.snapshots n (with_status (snapshot_of w n) Disposed)
        (λ k s. s.kind ≡ (snapshot_of w k).kind) (open_within w n is) refl (λ k other. refl) name;
    view = each_shot-set w.snapshots n (with_status (snapshot_of w n) Disposed)
        (λ k s. s.view ≡ (snapshot_of w k).view) (open_within w n is) refl (λ k other. refl) name;
  }

  stays_call : (q : Request) → Stays w name (call rules w caller q)
  stays_call (request.Take parent kind) =
      stays_tested (is_spent w) refusal.Spent _ (λ a.
      stays_tested (is_closed w parent) (refusal.Closed parent) _ (λ b.
      stays_tested (not (is_mutable (snapshot_of w parent).kind) && is_mutable kind) refusal.ReadOnly _
      (λ c. stays_by w name _ (pushed rules w name _ there))))
  stays_call (request.TakeFor watcher) =
      stays_tested (is_spent w) refusal.Spent _ (λ a.
      stays_tested (not (nat_lt watcher (length w.lasts))) refusal.UnknownWatcher _
      (λ b. stays_by w name _ (pushed rules w name _ there)))
  stays_call (request.Read n x) =
      stays_tested (is_closed w n) (refusal.Closed n) _ (λ a.
      stays_tested (is_foreign w caller n) (refusal.NotYours (snapshot_of w n).owner) _ (λ b.
      stays_tested (not (nat_lt x (length w.objects))) refusal.UnknownObject _
      (λ c. record { kind = refl; view = refl })))
  stays_call (request.Write n x value) =
      stays_tested (is_spent w) refusal.Spent _ (λ a.
      stays_tested (is_closed w n) (refusal.Closed n) _ (λ b.
      stays_tested (is_foreign w caller n) (refusal.NotYours (snapshot_of w n).owner) _
      (λ c. stays_written n x value (slice_get w.objects x))))
  stays_call (request.Apply n) =
      stays_tested (is_spent w) refusal.Spent _ (λ a.
      stays_tested (is_closed w n) (refusal.Closed n) _ (λ b.
      stays_tested (n == 0) refusal.Global _ (λ c.
      stays_tested (is_foreign w caller n) (refusal.NotYours (snapshot_of w n).owner) _ (λ d.
      stays_tested (not (is_mutable (snapshot_of w n).kind)) refusal.ReadOnly _ (λ e.
      stays_tested (is_closed w (snapshot_of w n).parent) refusal.ParentClosed _
      (λ f. stays_applied n (settled_of rules w caller n) b (not_false _ e)))))))
  stays_call (request.Dispose n) =
      stays_tested (not (nat_lt n (length w.snapshots))) (refusal.Closed n) _ (λ a.
      stays_tested (n == 0) refusal.Global _ (λ b.
      stays_tested (not (is_closed w n) && is_foreign w caller n) (refusal.NotYours (snapshot_of w n).owner) _
      (λ c. stays_disposed n (is_closed w n) refl)))

module _ {P : Type 0} (rules : Rules P) (keeps_types : KeepsTypes rules) where
  stays_after : (w : World P) (h : History) (name : ℕ) → IsValid rules w → name < length w.snapshots
      → is_mutable (snapshot_of w name).kind ≡ false
      → (snapshot_of (world_after rules w h) name).view ≡ (snapshot_of w name).view
  stays_after w [] name v there readonly = refl
  stays_after w (e ∷ es) name v there readonly =
      let next = (call rules w e.caller e.request).0 in
      let s = stays_call v e.caller name there readonly e.request in
      stays_after next es name (valid_call v keeps_types e.caller e.request)
      (omega (arith, there, grows_by rules w e.caller e.request _ (did rules w e.caller e.request)))
      (ap is_mutable s.kind ∙ readonly)
      ∙ s.view

  module _ (w : World P) (caller watcher name : ℕ) (changed : List ℕ) (v : IsValid rules w)
      (answer : (call rules w caller (request.TakeFor watcher)).1 ≡ reply.TakenFor name changed) where
    abbrev next : World P
    next = (call rules w caller (request.TakeFor watcher)).0

    took : TookFor w next caller watcher name changed
    took = call-TakeFor rules w caller watcher name changed (sym answer)

    taken_shows : (calls : History) → (snapshot_of (world_after rules next calls) name).view ≡ (snapshot_of w 0).view
    taken_shows calls =
        stays_after next calls name (valid_call v keeps_types caller (request.TakeFor watcher))
        (let count = took.count in omega arith) (ap (λ (s : Snapshot). is_mutable s.kind) took.shot)
        ∙ ap (λ (s : Snapshot). s.view) took.shot

  pub frame_shows_its_take : FrameShowsItsTake rules
  frame_shows_its_take w caller watcher name changed calls v answer =
      taken_shows w caller watcher name changed v answer calls

  pub frame_reads_its_take : FrameReadsItsTake rules
  frame_reads_its_take w caller watcher name changed calls reader x value v answer got =
      let next = (call rules w caller (request.TakeFor watcher)).0 in
      let t = took w caller watcher name changed v answer in
      let there : name < length next.snapshots = let count = t.count in omega arith in
      reads_are_isolated rules w caller (request.TakeFor watcher) name (ap name_handed_out answer) calls reader x value
      got
      ∙ ap (λ (m : Map). value_at m x) (
      ap (λ (m : Map). view_after_calls rules next name m calls) (sym (ap (λ (s : Snapshot). s.view) t.shot))
      ∙ sym (views_are_isolated rules next calls name there)
      ∙ taken_shows w caller watcher name changed v answer calls
      )

-- The list of a take.

same_entry : (a b : StampedValue) → a.stamp ≡ b.stamp → a.value ≡ b.value → a ≡ b
same_entry a b e f = ap (λ s. record { value = a.value; stamp = s }) e ∙ ap (λ x. record { value = x; stamp = b.stamp }) f

-- Between two maps of one world that agree.
told_of : (last now : Map) (x : ℕ) → MovedOn last now
    → (x < length last → x < length now → (entry_at last x).stamp ≡ (entry_at now x).stamp
    → (entry_at last x).value ≡ (entry_at now x).value) →
    (contains x (differ (Some last) now) ≡ false → x < length now
    → (x < length last) × (entry_at now x ≡ entry_at last x))
    × (contains x (differ (Some last) now) ≡ true →
    (x < length now) × (x < length last → (entry_at last x).stamp < (entry_at now x).stamp))
told_of last now x moved agree = (quiet, told)
  where
    quiet : contains x (differ (Some last) now) ≡ false → x < length now
        → (x < length last) × (entry_at now x ≡ entry_at last x)
    quiet out within =
        let same = sym (listed last now x within) ∙ out in
        elim (cases_lt x (length last)) [
          | inl old ↦
              let equal = sym (differs_by_stamp last x (entry_at now x) old) ∙ same in
              let stamps : (entry_at last x).stamp ≡ (entry_at now x).stamp =
              eqb-true (entry_at last x).stamp (entry_at now x).stamp (not_false _ equal) in
              (old, sym (same_entry (entry_at last x) (entry_at now x) stamps (agree old within stamps)))
          | inr new ↦ let other = differs_if_new last x (entry_at now x) new in absurd cc
        ]

    told : contains x (differ (Some last) now) ≡ true →
        (x < length now) × (x < length last → (entry_at last x).stamp < (entry_at now x).stamp)
    told in_it = elim (cases_lt x (length now)) [
      | inl within ↦ (
        within,
        λ old.
            let other = sym (differs_by_stamp last x (entry_at now x) old) ∙ sym (listed last now x within) ∙ in_it in
            let rises = moved.stamps x old in
            elim (eqb_tells (entry_at last x).stamp (entry_at now x).stamp) [
              | inl e ↦ let not_other = ap not e.0 in absurd cc
              | inr e ↦ omega (arith, rises, e.1)
            ],
      )
      | inr past ↦ let out = unlisted last now x past in absurd cc
    ]

module _ {P : Type 0} (rules : Rules P) where
  pub watcher_misses_nothing : WatcherMissesNothing rules
  watcher_misses_nothing w caller watcher name changed x v answer =
      let t = call-TakeFor rules w caller watcher name changed (sym answer) in
      let last = unwrap_or (last_of w watcher) [] in
      let now = (snapshot_of w 0).view in
      let list : changed ≡ differ (Some last) now = t.listed ∙ differ_of (last_of w watcher) now in
      let all = told_of last now x (v.seen watcher) (v.agree (Last watcher) (View 0) x) in (
        λ out. all.0 (ap (λ xs. contains x xs) (sym list) ∙ out),
        λ in_it. all.1 (ap (λ xs. contains x xs) (sym list) ∙ in_it),
      )

  pub watcher_hears_nothing_twice : WatcherHearsNothingTwice rules
  watcher_hears_nothing_twice w caller other watcher name again changed more v answer second =
      let next = (call rules w caller (request.TakeFor watcher)).0 in
      let t = call-TakeFor rules w caller watcher name changed (sym answer) in
      let u = call-TakeFor rules next other watcher again more (sym second) in
      let zero : 0 ≢ name = let named = t.named in let some = v.shaped.some in omega arith in
      let same : snapshot_of next 0 ≡ snapshot_of w 0 = t.other_shots 0 zero in
      u.listed ∙ ap (λ o. differ o (snapshot_of next 0).view) t.last
      ∙ ap (λ (s : Snapshot). differ (Some (snapshot_of w 0).view) s.view) same
      ∙ differs_from_itself (snapshot_of w 0).view
