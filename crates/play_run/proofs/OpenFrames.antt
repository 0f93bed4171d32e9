-- What a call keeps of an open frame and of the numbers of snapshots.
use Rattle.std.proofs.Common.{◌≡◌, ◌≢◌, ◌⊎◌, inl, inr, ℕ, ◌+◌, ◌==◌, ◌<◌, ◌≤◌, [], ◌∷◌, length, refl, sym, ap, ◌∙◌, Option, Some, None, Bool, true, false, not, cond, arith, length-append, length-set, get_or-set_other}
use Rattle.std.specs.Prelude.{slice_get, slice_index_or}
use Rattle.rt_values.specs.declared.names.Kind.TheVariants.{Readonly}
use Rattle.rt_values.specs.declared.value.Value.{Value}
use Rattle.rt_values.specs.Values.{type_of, same_type}
use Rattle.snap_policy.specs.declared.policy.BuiltIn.{BuiltIn}
use Rattle.snap_policy.specs.Table.{table}
use Rattle.snap_api.proofs.LawsCases.{Did, did, refused, took, took_for, got, left, wrote, joined, gone, closed}
use Rattle.snap_api.proofs.LawsNames.{pushed, grows_by}
use Rattle.snap_api.proofs.Takes.{call-TakeFor}
use Rattle.snap_api.proofs.Valid.{open_within}
use Rattle.snap_api.specs.Calls.{IsOwn}
use Rattle.snap_api.specs.Valid.{IsValid}
use Rattle.snap_api.specs.World.{World, no_snapshot, snapshot_of, last_of, child_of, with_snapshot, with_settled, refusal_or_effect, call, is_spent, is_closed, is_foreign, is_live, is_mutable, settled_of, write_to, apply_to}
use Rattle.snap_api.specs.declared.data.Object.{Object}
use Rattle.snap_api.specs.declared.data.Refusal.{Refusal}
use Rattle.snap_api.specs.declared.data.Refusal.TheVariants as refusal
use Rattle.snap_api.specs.declared.data.Reply.{Reply}
use Rattle.snap_api.specs.declared.data.Reply.TheVariants as reply
use Rattle.snap_api.specs.declared.data.Request.{Request}
use Rattle.snap_api.specs.declared.data.Request.TheVariants as request
use Rattle.snap_api.specs.declared.data.Snapshot.{Snapshot}
use Rattle.lang_script.specs.SnapshotNames.{never_taken}
use Rattle.script_lang.specs.Lines.{frame_taken}
use Rattle.lang_script.specs.StepCalls.{frame_begun, number_taken, watcher_number}

-- A call that is no take for a watcher.
abbrev pub IsPlainCall : Request → Type 0
IsPlainCall (request.TakeFor watcher) = ⊥
IsPlainCall _ = Unit {0}

-- A call that does not dispose this snapshot.
abbrev pub Avoids : ℕ → Request → Type 0
Avoids name (request.Dispose n) = n ≢ name
Avoids name _ = Unit {0}

-- A call that neither writes, applies nor disposes this snapshot.
abbrev IsElsewhere : ℕ → Request → Type 0
IsElsewhere name (request.Write n x v) = n ≢ name
IsElsewhere name (request.Apply n) = n ≢ name
IsElsewhere name (request.Dispose n) = n ≢ name
IsElsewhere name _ = Unit {0}

-- An apply is of a mutable snapshot.
abbrev pub AppliesMutable : World BuiltIn → Request → Type 0
AppliesMutable w (request.Apply n) = is_mutable (snapshot_of w n).kind ≡ true
AppliesMutable w _ = Unit {0}

module _ (w : World BuiltIn) (caller : ℕ) where
  -- A call for no watcher keeps the last maps.
  keeps_lasts : (q : Request) (out : World BuiltIn × Reply) → Did table w caller q out → IsPlainCall q
      → out.0.lasts ≡ w.lasts
  keeps_lasts q out (refused request r) plain = refl
  keeps_lasts q out (took parent kind live) plain = refl
  keeps_lasts q out (took_for watcher) plain = absurd plain
  keeps_lasts q out (got n x) plain = refl
  keeps_lasts q out (left n x value) plain = refl
  keeps_lasts q out (wrote n x value live) plain = refl
  keeps_lasts q out (joined n m changed is live parent_live) plain = refl
  keeps_lasts q out (gone n) plain = refl
  keeps_lasts q out (closed n live) plain = refl

  pub same_last : (q : Request) (watcher : ℕ) → IsPlainCall q
      → last_of (call table w caller q).0 watcher ≡ last_of w watcher
  same_last q watcher plain = ap (λ ls. slice_index_or ls watcher None) (keeps_lasts q _ (did table w caller q) plain)

  -- The clock counts the snapshots.
  stays_few : (q : Request) (out : World BuiltIn × Reply) → Did table w caller q out → length w.snapshots ≤ w.clock + 1
      → length out.0.snapshots ≤ out.0.clock + 1
  stays_few q out (refused request r) few = few
  stays_few q out (took parent kind live) few =
      omega (arith, few, length-append w.snapshots (child_of caller parent kind (snapshot_of w parent) ∷ []))
  stays_few q out (took_for watcher) few =
      omega (arith, few, length-append w.snapshots (child_of caller 0 Readonly (snapshot_of w 0) ∷ []))
  stays_few q out (got n x) few = few
  stays_few q out (left n x value) few = few
  stays_few q out (wrote n x value live) few = omega (arith, few, length-set {A = Snapshot})
  stays_few q out (joined n m changed is live parent_live) few = omega (arith, few, length-set {A = Snapshot})
  stays_few q out (gone n) few = few
  stays_few q out (closed n live) few = omega (arith, few, length-set {A = Snapshot})

  pub few_after : (q : Request) → length w.snapshots ≤ w.clock + 1
      → length (call table w caller q).0.snapshots ≤ (call table w caller q).0.clock + 1
  few_after q few = stays_few q _ (did table w caller q) few

  pub grown : (q : Request) → length w.snapshots ≤ length (call table w caller q).0.snapshots
  grown q = grows_by table w caller q _ (did table w caller q)

  -- A fixed snapshot that the call avoids stays as it is.
  stays : (q : Request) (out : World BuiltIn × Reply) → Did table w caller q out → IsValid table w → (name : ℕ)
      → name < length w.snapshots → is_mutable (snapshot_of w name).kind ≡ false → IsElsewhere name q
      → AppliesMutable w q →
      snapshot_of out.0 name ≡ snapshot_of w name
  stays q out (refused request r) valid name there fixed avoids mutable = refl
  stays q out (took parent kind live) valid name there fixed avoids mutable = pushed table w name _ there
  stays q out (took_for watcher) valid name there fixed avoids mutable = pushed table w name _ there
  stays q out (got n x) valid name there fixed avoids mutable = refl
  stays q out (left n x value) valid name there fixed avoids mutable = refl
  stays q out (wrote n x value live) valid name there fixed avoids mutable =
      get_or-set_other w.snapshots n name _ no_snapshot (λ e. avoids (sym e))
  stays q out (joined n m changed is live parent_live) valid name there fixed avoids mutable =
      let parent = (snapshot_of w n).parent in
      let into = with_snapshot w parent (with_settled (snapshot_of w parent) m changed) in
      let apart : name ≢ parent = λ e. (let two : true ≡ false = sym (valid.tree n live mutable)
      ∙ ap (λ k. is_mutable (snapshot_of w k).kind) (sym e) ∙ fixed in absurd cc) in
      get_or-set_other into.snapshots n name _ no_snapshot (λ e. avoids (sym e))
      ∙ get_or-set_other w.snapshots parent name _ no_snapshot apart
  stays q out (gone n) valid name there fixed avoids mutable = refl
  stays q out (closed n live) valid name there fixed avoids mutable =
      get_or-set_other w.snapshots n name _ no_snapshot (λ e. avoids (sym e))

  -- An apply of a readonly snapshot changes nothing.
  fifth : (a b c d e f : Bool) (r s t u v x : Refusal) (effect : World BuiltIn × Reply) → e ≡ true →
      (refusal_or_effect w ((a, r) ∷ (b, s) ∷ (c, t) ∷ (d, u) ∷ (e, v) ∷ (f, x) ∷ []) effect).0 ≡ w
  fifth true b c d e f r s t u v x effect is = refl
  fifth false true c d e f r s t u v x effect is = refl
  fifth false false true d e f r s t u v x effect is = refl
  fifth false false false true e f r s t u v x effect is = refl
  fifth false false false false true f r s t u v x effect is = refl
  fifth false false false false false f r s t u v x effect is = absurd cc

  readonly_apply : (n : ℕ) → is_mutable (snapshot_of w n).kind ≡ false → (call table w caller (request.Apply n)).0 ≡ w
  readonly_apply n fixed =
      fifth (is_spent w) (is_closed w n) (n == 0) (is_foreign w caller n) (not (is_mutable (snapshot_of w n).kind))
      (is_closed w (snapshot_of w n).parent)
      refusal.Spent (refusal.Closed n) refusal.Global (refusal.NotYours (snapshot_of w n).owner) refusal.ReadOnly
      refusal.ParentClosed (apply_to table w caller n (settled_of table w caller n)) (ap not fixed)

  stays_applied : (n : ℕ) (b : Bool) → is_mutable (snapshot_of w n).kind ≡ b → IsValid table w → (name : ℕ)
      → name < length w.snapshots → is_mutable (snapshot_of w name).kind ≡ false →
      snapshot_of (call table w caller (request.Apply n)).0 name ≡ snapshot_of w name
  stays_applied n true is valid name there fixed =
      let apart : n ≢ name = λ e. (let two : true ≡ false = sym is ∙ ap (λ k. is_mutable (snapshot_of w k).kind) e
      ∙ fixed in absurd cc) in
      stays (request.Apply n) _ (did table w caller (request.Apply n)) valid name there fixed apart is
  stays_applied n false is valid name there fixed = ap (λ (v : World BuiltIn). snapshot_of v name) (readonly_apply n is)

  -- A write in a readonly snapshot changes nothing.
  first : (a b : Bool) (r s : Refusal) (effect : World BuiltIn × Reply) → a ≡ true
      → (refusal_or_effect w ((a, r) ∷ (b, s) ∷ []) effect).0 ≡ w
  first true b r s effect is = refl
  first false b r s effect is = absurd cc

  unless : (a b c : Bool) (r s t : Refusal) (effect : World BuiltIn × Reply) → effect.0 ≡ w
      → (refusal_or_effect w ((a, r) ∷ (b, s) ∷ (c, t) ∷ []) effect).0 ≡ w
  unless true b c r s t effect same = refl
  unless false true c r s t effect same = refl
  unless false false true r s t effect same = refl
  unless false false false r s t effect same = same

  readonly_object : (n x : ℕ) (v : Value) (o : Option (Object BuiltIn)) → is_mutable (snapshot_of w n).kind ≡ false
      → (write_to table w caller n x v o).0 ≡ w
  readonly_object n x v None fixed = refl
  readonly_object n x v (Some o) fixed =
      first (not (is_mutable (snapshot_of w n).kind)) (not (same_type (type_of v) o.ty)) refusal.ReadOnly
      (refusal.WrongType o.ty) _ (ap not fixed)

  readonly_write : (n x : ℕ) (v : Value) → is_mutable (snapshot_of w n).kind ≡ false
      → (call table w caller (request.Write n x v)).0 ≡ w
  readonly_write n x v fixed =
      unless (is_spent w) (is_closed w n) (is_foreign w caller n) refusal.Spent (refusal.Closed n)
      (refusal.NotYours (snapshot_of w n).owner) (write_to table w caller n x v (slice_get w.objects x))
      (readonly_object n x v (slice_get w.objects x) fixed)

  stays_written : (n x : ℕ) (v : Value) (b : Bool) → is_mutable (snapshot_of w n).kind ≡ b → IsValid table w
      → (name : ℕ) → name < length w.snapshots → is_mutable (snapshot_of w name).kind ≡ false →
      snapshot_of (call table w caller (request.Write n x v)).0 name ≡ snapshot_of w name
  stays_written n x v true is valid name there fixed =
      let apart : n ≢ name = λ e. (let two : true ≡ false = sym is ∙ ap (λ k. is_mutable (snapshot_of w k).kind) e
      ∙ fixed in absurd cc) in
      stays (request.Write n x v) _ (did table w caller (request.Write n x v)) valid name there fixed apart tt
  stays_written n x v false is valid name there fixed =
      ap (λ (o : World BuiltIn). snapshot_of o name) (readonly_write n x v is)

  pub same_snapshot : (q : Request) → IsValid table w → (name : ℕ) → name < length w.snapshots
      → is_mutable (snapshot_of w name).kind ≡ false → Avoids name q →
      snapshot_of (call table w caller q).0 name ≡ snapshot_of w name
  same_snapshot (request.Take parent kind) valid name there fixed avoids =
      stays _ _ (did table w caller (request.Take parent kind)) valid name there fixed avoids tt
  same_snapshot (request.TakeFor watcher) valid name there fixed avoids =
      stays _ _ (did table w caller (request.TakeFor watcher)) valid name there fixed avoids tt
  same_snapshot (request.Read n x) valid name there fixed avoids =
      stays _ _ (did table w caller (request.Read n x)) valid name there fixed avoids tt
  same_snapshot (request.Write n x v) valid name there fixed avoids =
      stays_written n x v (is_mutable (snapshot_of w n).kind) refl valid name there fixed
  same_snapshot (request.Apply n) valid name there fixed avoids =
      stays_applied n (is_mutable (snapshot_of w n).kind) refl valid name there fixed
  same_snapshot (request.Dispose n) valid name there fixed avoids =
      stays _ _ (did table w caller (request.Dispose n)) valid name there fixed avoids tt

  -- A call that begins no frame keeps the last maps, and its reply is that of no frame.
  begins_none : (q : Request) (out : World BuiltIn × Reply) → Did table w caller q out → frame_taken q out.1 ≡ []
      → (out.0.lasts ≡ w.lasts) × (frame_begun out.1 ≡ None)
  begins_none q out (refused request r) untaken = (refl, refl)
  begins_none q out (took parent kind live) untaken = (refl, refl)
  begins_none q out (took_for watcher) untaken = absurd cc
  begins_none q out (got n x) untaken = (refl, refl)
  begins_none q out (left n x value) untaken = (refl, refl)
  begins_none q out (wrote n x value live) untaken = (refl, refl)
  begins_none q out (joined n m changed is live parent_live) untaken = (refl, refl)
  begins_none q out (gone n) untaken = (refl, refl)
  begins_none q out (closed n live) untaken = (refl, refl)

  pub no_frame_begun : (q : Request) → frame_taken q (call table w caller q).1 ≡ []
      → ((call table w caller q).0.lasts ≡ w.lasts) × (frame_begun (call table w caller q).1 ≡ None)
  no_frame_begun q untaken = begins_none q _ (did table w caller q) untaken

  -- No call makes a watcher.
  counts_lasts : (q : Request) (out : World BuiltIn × Reply) → Did table w caller q out
      → length out.0.lasts ≡ length w.lasts
  counts_lasts q out (refused request r) = refl
  counts_lasts q out (took parent kind live) = refl
  counts_lasts q out (took_for watcher) = length-set w.lasts watcher (Some (snapshot_of w 0).view)
  counts_lasts q out (got n x) = refl
  counts_lasts q out (left n x value) = refl
  counts_lasts q out (wrote n x value live) = refl
  counts_lasts q out (joined n m changed is live parent_live) = refl
  counts_lasts q out (gone n) = refl
  counts_lasts q out (closed n live) = refl

  pub same_watchers : (q : Request) → length (call table w caller q).0.lasts ≡ length w.lasts
  same_watchers q = counts_lasts q _ (did table w caller q)

  -- If there is one watcher, a frame begins with a take for this watcher.
  taken_for : (watcher : ℕ) → length w.lasts ≡ 1 → (y : Reply) → y ≡ (call table w caller (request.TakeFor watcher)).1
      → (frame_taken (request.TakeFor watcher) y ≡ []) ⊎ (request.TakeFor watcher ≡ request.TakeFor watcher_number)
  taken_for watcher one (reply.TakenFor name changed) is =
      let known = (call-TakeFor table w caller watcher name changed is).known in
      let zero : watcher ≡ 0 = omega (arith, known, one) in
      inr (ap (λ n. request.TakeFor n) zero)
  taken_for watcher one (reply.Taken n) is = inl refl
  taken_for watcher one (reply.Got v) is = inl refl
  taken_for watcher one (reply.Wrote b) is = inl refl
  taken_for watcher one reply.Applied is = inl refl
  taken_for watcher one reply.Disposed is = inl refl
  taken_for watcher one (reply.Refused e) is = inl refl

  pub for_watcher : (q : Request) → length w.lasts ≡ 1
      → (frame_taken q (call table w caller q).1 ≡ []) ⊎ (q ≡ request.TakeFor watcher_number)
  for_watcher (request.Take parent kind) one = inl refl
  for_watcher (request.TakeFor watcher) one =
      taken_for watcher one (call table w caller (request.TakeFor watcher)).1 refl
  for_watcher (request.Read n x) one = inl refl
  for_watcher (request.Write n x v) one = inl refl
  for_watcher (request.Apply n) one = inl refl
  for_watcher (request.Dispose n) one = inl refl

  -- The number of a take is that of a new snapshot, or no snapshot has it.
  taken_is : (q : Request) (out : World BuiltIn × Reply) → Did table w caller q out → IsPlainCall q →
      ((number_taken out.1 ≡ length w.snapshots) × (length w.snapshots < length out.0.snapshots))
      ⊎ (number_taken out.1 ≡ never_taken)
  taken_is q out (refused request r) plain = inr refl
  taken_is q out (took parent kind live) plain =
      inl (refl, omega (arith, length-append w.snapshots (child_of caller parent kind (snapshot_of w parent) ∷ [])))
  taken_is q out (took_for watcher) plain = absurd plain
  taken_is q out (got n x) plain = inr refl
  taken_is q out (left n x value) plain = inr refl
  taken_is q out (wrote n x value live) plain = inr refl
  taken_is q out (joined n m changed is live parent_live) plain = inr refl
  taken_is q out (gone n) plain = inr refl
  taken_is q out (closed n live) plain = inr refl

  pub taken : (q : Request) → IsPlainCall q →
      ((number_taken (call table w caller q).1 ≡ length w.snapshots)
      × (length w.snapshots < length (call table w caller q).0.snapshots))
      ⊎ (number_taken (call table w caller q).1 ≡ never_taken)
  taken q plain = taken_is q _ (did table w caller q) plain

-- The same snapshot is the caller's own in both worlds.
pub own_after : (w v : World BuiltIn) (caller name : ℕ) → snapshot_of v name ≡ snapshot_of w name → IsOwn w caller name
    → IsOwn v caller name
own_after w v caller name same own = record {
  live = ap (λ (s : Snapshot). not (is_live s.status)) same ∙ own.live;
  inner = own.inner;
  own = ap (λ (s : Snapshot). cond (name == 0) false (not (s.owner == caller))) same ∙ own.own;
}

-- An open snapshot has a number below the one that no snapshot has.
pub within : (w : World BuiltIn) (caller name : ℕ) → IsValid table w → length w.snapshots ≤ w.clock + 1
    → IsOwn w caller name → (name < length w.snapshots) × (name < never_taken)
within w caller name valid few own =
    let there = open_within w name own.live in
    let time = valid.in_time in
    (there, omega (arith, there, few, time))
