-- A history of clean applies is serial.
use Rattle.std.proofs.Common.{ℕ, ◌+◌, ◌<◌, ◌≤◌, ◌==◌, List, [], ◌∷◌, ◌++◌, length, ◌≡◌, ◌≢◌, ◌⊎◌, inl, inr, refl, ap, ◌∙◌, sym, subst, Bool, true, false, not, cond, if◌then◌else◌, Option, Some, None, slice_get, arith, length-append, length-set}
use Rattle.std.proofs.Math.Seq.{get_or-append_seam}
use Rattle.std.proofs.lemmas.Bool.{cases_lt}
use Rattle.std.proofs.lemmas.Bool.Decides.{eqb_tells}
use Rattle.std.proofs.lemmas.List.{append-nil, append_assoc, get_or_past, get_or-set_same, get_or-set_other}
use Rattle.std.proofs.lemmas.Option.{slice_get_cases, slice_get_within}
use Rattle.std.specs.Prelude.{slice_index_or, slice_set}
use Rattle.rt_values.specs.declared.maps.StampedValue.{StampedValue}
use Rattle.rt_values.specs.declared.names.Kind.TheVariants.{Readonly}
use Rattle.rt_values.specs.declared.value.Value.{Value}
use Rattle.rt_values.specs.Maps.{Map, no_entry, entry_at, value_at, contains}
use Rattle.rt_values.specs.Values.{type_of, same_type}
use Rattle.snap_policy.specs.Rules.{Rules, KeepsTypes}
use Rattle.snap_api.proofs.LawsApplies.{joined_call, objects_call, roots_after}
use Rattle.snap_api.proofs.LawsCases.{Did, did, refused, took, took_for, got, left, wrote, joined, gone, closed}
use Rattle.snap_api.proofs.LawsNames.{grows_by}
use Rattle.snap_api.proofs.LawsViews.{view_after, view-applied}
use Rattle.snap_api.proofs.Valid.{open_within}
use Rattle.snap_api.proofs.ValidCalls.{valid_call}
use Rattle.snap_api.specs.Shaped.{IsShaped}
use Rattle.snap_api.specs.Valid.{IsValid}
use Rattle.snap_api.specs.World.{World, History, no_snapshot, snapshot_of, child_of, call, world_after, IsLegal, is_closed, is_foreign, is_spent, is_mutable, world_after_write, write_to}
use Rattle.snap_api.specs.declared.data.Entry.{Entry}
use Rattle.snap_api.specs.declared.data.Object.{Object}
use Rattle.snap_api.specs.declared.data.Refusal.{Refusal}
use Rattle.snap_api.specs.declared.data.Refusal.TheVariants as refusal
use Rattle.snap_api.specs.declared.data.Reply.{Reply}
use Rattle.snap_api.specs.declared.data.Reply.TheVariants as reply
use Rattle.snap_api.specs.declared.data.Request.{Request}
use Rattle.snap_api.specs.declared.data.Request.TheVariants as request
use Rattle.snap_api.specs.declared.data.Snapshot.{Snapshot}
use Rattle.world_laws.specs.SerialHistories.{ObjectUse, ReadOf, WriteOf, use_in, uses_in, uses_at_apply, uses_by_apply, UsesOnly, with_value, is_change, IsSerial, IsClean, AppliesAreClean, CleanHistoryIsSerial}
use Rattle.world_laws.proofs.CleanApplies.{clean_apply_is_serial}
use Rattle.world_laws.proofs.MapDifferences.{unequal}

-- The values that a snapshot shows, and those with which it began.
abbrev shown : {P : Type 0} → World P → ℕ → ℕ → Value
shown w name x = value_at (snapshot_of w name).view x

abbrev began : {P : Type 0} → World P → ℕ → ℕ → Value
began w name x = value_at (snapshot_of w name).base x

-- Uses over other values.
module _ {P : Type 0} (rules : Rules P) (objects : List (Object P)) where
  -- The same answers over equal values.
  serial_over_equal : (us : List ObjectUse) (m n a : ℕ → Value) → ((x : ℕ) → m x ≡ n x)
      → IsSerial rules objects m us a → IsSerial rules objects n us a
  serial_over_equal [] m n a same s = λ x. s x ∙ same x
  serial_over_equal (ReadOf x value ∷ us) m n a same s = (s.0 ∙ same x, serial_over_equal us m n a same s.1)
  serial_over_equal (WriteOf x value true ∷ us) m n a same s = (
    s.0 ∙ ap (λ v. is_change rules (slice_get objects x) v value) (same x),
    serial_over_equal us (with_value m x value) (with_value n x value) a
        (λ y. ap (λ v. cond (x == y) value v) (same y)) s.1,
  )
  serial_over_equal (WriteOf x value false ∷ us) m n a same s = (
    s.0 ∙ ap (λ v. is_change rules (slice_get objects x) v value) (same x),
    serial_over_equal us m n a same s.1,
  )

  serial_append : (us vs : List ObjectUse) (m a b : ℕ → Value) → IsSerial rules objects m us a
      → IsSerial rules objects a vs b → IsSerial rules objects m (us ++ vs) b
  serial_append [] vs m a b s t = serial_over_equal vs a m b s t
  serial_append (ReadOf x value ∷ us) vs m a b s t = (s.0, serial_append us vs m a b s.1 t)
  serial_append (WriteOf x value changed ∷ us) vs m a b s t =
      (s.0, serial_append us vs (if changed then with_value m x value else m) a b s.1 t)

  -- The same answers over values that agree on the used objects. Other objects keep these values.
  module _ (xs : List ℕ) where
    member_stays : (n : ℕ → Value) (x y : ℕ) (value : Value) → contains x xs ≡ true → contains y xs ≡ false
        → with_value n x value y ≡ n y
    member_stays n x y value in_it out = ap (λ t. cond t value (n y)) (unequal x y (λ same.
        let both : contains y xs ≡ true = ap (λ z. contains z xs) (sym same) ∙ in_it in
        absurd (let clash : true ≡ false = sym both ∙ out in cc)))

    serial_elsewhere : (us : List ObjectUse) (m n a b : ℕ → Value) → UsesOnly xs us
        → ((x : ℕ) → contains x xs ≡ true → m x ≡ n x) → IsSerial rules objects m us a
        → ((x : ℕ) → contains x xs ≡ true → b x ≡ a x) → ((x : ℕ) → contains x xs ≡ false → b x ≡ n x)
        → IsSerial rules objects n us b
    serial_elsewhere [] m n a b only agree s inside outside = λ x. by x (contains x xs) refl
      where
        by : (x : ℕ) (t : Bool) → contains x xs ≡ t → b x ≡ n x
        by x true e = inside x e ∙ s x ∙ agree x e
        by x false e = outside x e
    serial_elsewhere (ReadOf x value ∷ us) m n a b only agree s inside outside =
        (s.0 ∙ agree x only.0, serial_elsewhere us m n a b only.1 agree s.1 inside outside)
    serial_elsewhere (WriteOf x value true ∷ us) m n a b only agree s inside outside = (
      s.0 ∙ ap (λ v. is_change rules (slice_get objects x) v value) (agree x only.0),
      serial_elsewhere us (with_value m x value) (with_value n x value) a b only.1
          (λ y in_it. ap (λ v. cond (x == y) value v) (agree y in_it)) s.1 inside
          (λ y out. outside y out ∙ sym (member_stays n x y value only.0 out)),
    )
    serial_elsewhere (WriteOf x value false ∷ us) m n a b only agree s inside outside = (
      s.0 ∙ ap (λ v. is_change rules (slice_get objects x) v value) (agree x only.0),
      serial_elsewhere us m n a b only.1 agree s.1 inside outside,
    )

-- Uses of histories.

uses_snoc : (name : ℕ) (h : History) (e : Entry)
    → uses_in name (h ++ e ∷ []) ≡ uses_in name h ++ use_in name e.request e.reply
uses_snoc name [] e = append-nil (use_in name e.request e.reply)
uses_snoc name (d ∷ h) e = ap (λ us. use_in name d.request d.reply ++ us) (uses_snoc name h e)
    ∙ sym (append_assoc (use_in name d.request d.reply) (uses_in name h) (use_in name e.request e.reply))

no_use : (name : ℕ) (q : Request) (r : Refusal) → use_in name q (reply.Refused r) ≡ []
no_use name (request.Take parent kind) r = refl
no_use name (request.TakeFor watcher) r = refl
no_use name (request.Read n x) r = refl
no_use name (request.Write n x value) r = refl
no_use name (request.Apply n) r = refl
no_use name (request.Dispose n) r = refl

-- A call is a successful apply, or adds its use of global.
is_apply : (before : History) (q : Request) (r : Reply)
    → ((name : ℕ) × (q ≡ request.Apply name) × (r ≡ reply.Applied))
    ⊎ ((uses_at_apply before q r ≡ use_in 0 q r)
    × ((name : ℕ) → q ≡ request.Apply name → r ≢ reply.Applied))
is_apply before (request.Take parent kind) r = inr (refl, λ name e f. absurd cc)
is_apply before (request.TakeFor watcher) r = inr (refl, λ name e f. absurd cc)
is_apply before (request.Read n x) r = inr (refl, λ name e f. absurd cc)
is_apply before (request.Write n x value) r = inr (refl, λ name e f. absurd cc)
is_apply before (request.Apply n) reply.Applied = inl (n, refl, refl)
is_apply before (request.Apply n) (reply.Taken k) = inr (refl, λ name e f. absurd cc)
is_apply before (request.Apply n) (reply.TakenFor k changed) = inr (refl, λ name e f. absurd cc)
is_apply before (request.Apply n) (reply.Got value) = inr (refl, λ name e f. absurd cc)
is_apply before (request.Apply n) (reply.Wrote changed) = inr (refl, λ name e f. absurd cc)
is_apply before (request.Apply n) reply.Disposed = inr (refl, λ name e f. absurd cc)
is_apply before (request.Apply n) (reply.Refused r) = inr (refl, λ name e f. absurd cc)
is_apply before (request.Dispose n) r = inr (refl, λ name e f. absurd cc)

-- One call.
module _ {P : Type 0} (rules : Rules P) (w : World P) (caller : ℕ) where
  got_by : {Q : Type 0} (value : Value) (b : Bool) (r : Refusal) (go : World P × Reply)
      → (b ≡ false → go.1 ≡ reply.Got value → Q) → (cond b (w, reply.Refused r) go).1 ≡ reply.Got value → Q
  got_by value true r go next e = absurd cc
  got_by value false r go next e = next refl e

  wrote_by : {Q : Type 0} (changed : Bool) (b : Bool) (r : Refusal) (go : World P × Reply)
      → (b ≡ false → go.1 ≡ reply.Wrote changed → Q) → (cond b (w, reply.Refused r) go).1 ≡ reply.Wrote changed → Q
  wrote_by changed true r go next e = absurd cc
  wrote_by changed false r go next e = next refl e

  open_read : (n x : ℕ) (value : Value) → (call rules w caller (request.Read n x)).1 ≡ reply.Got value
      → is_closed w n ≡ false
  open_read n x value = got_by value (is_closed w n) (refusal.Closed n) _ (λ live e. live)

  -- A write that is not refused is of an open snapshot and an object, and says whether the object changes.
  record WroteAs (n x : ℕ) (value : Value) (changed : Bool) : Type 0 where
    live : is_closed w n ≡ false
    there : x < length w.objects
    says : changed ≡ is_change rules (slice_get w.objects x) (shown w n x) value

  by_equality : (n x : ℕ) (value : Value) (o : Object P) (changed t : Bool)
      → (cond {A = World P × Reply} t (w, reply.Wrote false) (world_after_write w n x value, reply.Wrote true)).1
      ≡ reply.Wrote changed → changed ≡ not t
  by_equality n x value o changed true e = let is : false ≡ changed = cc in sym is
  by_equality n x value o changed false e = let is : true ≡ changed = cc in sym is

  wrote_to : (n x : ℕ) (value : Value) (changed : Bool) (o : Option (Object P)) → slice_get w.objects x ≡ o
      → is_closed w n ≡ false → (write_to rules w caller n x value o).1 ≡ reply.Wrote changed
      → WroteAs n x value changed
  wrote_to n x value changed None is live = λ e. absurd cc
  wrote_to n x value changed (Some o) is live =
      wrote_by changed (not (is_mutable (snapshot_of w n).kind)) refusal.ReadOnly _ (λ a.
      wrote_by changed (not (same_type (type_of value) o.ty)) (refusal.WrongType o.ty) _ (λ b e. record {
        live = live;
        there = slice_get_within w.objects x o is;
        says = by_equality n x value o changed (rules.equiv o.policy (shown w n x) value) e
            ∙ ap (λ p. is_change rules p (shown w n x) value) (sym is);
      }))

  wrote_as : (n x : ℕ) (value : Value) (changed : Bool)
      → (call rules w caller (request.Write n x value)).1 ≡ reply.Wrote changed → WroteAs n x value changed
  wrote_as n x value changed =
      wrote_by changed (is_spent w) refusal.Spent _ (λ a.
      wrote_by changed (is_closed w n) (refusal.Closed n) _ (λ live.
      wrote_by changed (is_foreign w caller n) (refusal.NotYours (snapshot_of w n).owner) _ (λ c.
      wrote_to n x value changed (slice_get w.objects x) refl live)))

  -- The use of an open snapshot is one of its own.
  other_use : {A : Type 0} (n name : ℕ) (us vs : List A) → is_closed w n ≡ false → length w.snapshots ≤ name
      → (if n == name then us else []) ≡ []
  other_use n name us vs live past =
      ap (λ t. if t then us else []) (unequal n name (let within = open_within w n live in omega (arith, within, past)))

  no_use_yet : (q : Request) (out : World P × Reply) → Did rules w caller q out → call rules w caller q ≡ out
      → (name : ℕ) → length w.snapshots ≤ name → use_in name q out.1 ≡ []
  no_use_yet q out (refused request r) is name past = no_use name request r
  no_use_yet q out (took parent kind live) is name past = refl
  no_use_yet q out (took_for watcher) is name past = refl
  no_use_yet q out (got n x) is name past =
      other_use n name (ReadOf x (shown w n x) ∷ []) [] (open_read n x (shown w n x) (ap (λ r. r.1) is)) past
  no_use_yet q out (left n x value) is name past =
      other_use n name (WriteOf x value false ∷ []) [] (wrote_as n x value false (ap (λ r. r.1) is)).live past
  no_use_yet q out (wrote n x value live) is name past =
      other_use n name (WriteOf x value true ∷ []) [] live past
  no_use_yet q out (joined n m changed is' live parent_live) is name past = refl
  no_use_yet q out (gone n) is name past = refl
  no_use_yet q out (closed n live) is name past = refl

  -- A new snapshot shows what it began with.
  new_shows : (q : Request) (out : World P × Reply) → Did rules w caller q out → (name : ℕ)
      → length w.snapshots ≤ name → name < length out.0.snapshots → (x : ℕ) → shown out.0 name x ≡ began out.0 name x
  new_shows q out (refused request r) name past within x = absurd (omega (arith, past, within))
  new_shows q out (took parent kind live) name past within x =
      let child = child_of caller parent kind (snapshot_of w parent) in
      let last : name ≡ length w.snapshots = omega (arith, past, within, length-append w.snapshots (child ∷ [])) in
      let is : slice_index_or (w.snapshots ++ child ∷ []) name no_snapshot ≡ child =
      ap (λ (n : ℕ). slice_index_or (w.snapshots ++ child ∷ []) n no_snapshot) last
      ∙ get_or-append_seam w.snapshots child [] no_snapshot in
      ap (λ (s : Snapshot). value_at s.view x) is ∙ sym (ap (λ (s : Snapshot). value_at s.base x) is)
  new_shows q out (took_for watcher) name past within x =
      let child = child_of caller 0 Readonly (snapshot_of w 0) in
      let last : name ≡ length w.snapshots = omega (arith, past, within, length-append w.snapshots (child ∷ [])) in
      let is : slice_index_or (w.snapshots ++ child ∷ []) name no_snapshot ≡ child =
      ap (λ (n : ℕ). slice_index_or (w.snapshots ++ child ∷ []) n no_snapshot) last
      ∙ get_or-append_seam w.snapshots child [] no_snapshot in
      ap (λ (s : Snapshot). value_at s.view x) is ∙ sym (ap (λ (s : Snapshot). value_at s.base x) is)
  new_shows q out (got n y) name past within x = absurd (omega (arith, past, within))
  new_shows q out (left n y value) name past within x = absurd (omega (arith, past, within))
  new_shows q out (wrote n y value live) name past within x =
      absurd (omega (arith, past, within, length-set {A = Snapshot}))
  new_shows q out (joined n m changed is live parent_live) name past within x =
      absurd (omega (arith, past, within, length-set {A = Snapshot}))
  new_shows q out (gone n) name past within x = absurd (omega (arith, past, within))
  new_shows q out (closed n live) name past within x =
      absurd (omega (arith, past, within, length-set {A = Snapshot}))

  -- What a snapshot shows after a call is what the call's use of it leaves, unless a child is applied to it.
  module _ (v : IsShaped w) (name : ℕ) (there : name < length w.snapshots) where
    abbrev Leaves : List ObjectUse → World P → Type 0
    Leaves us after = IsSerial rules w.objects (shown w name) us (shown after name)

    leaves_by : (n : ℕ) (us : List ObjectUse) (after : World P)
        → (n ≡ name → Leaves us after) → (n ≢ name → Leaves [] after) → Leaves (if n == name then us else []) after
    leaves_by n us after same other = elim (eqb_tells n name) [
      | inl e ↦ subst (λ t. Leaves (if t then us else []) after) (sym e.0) (same e.1)
      | inr e ↦ subst (λ t. Leaves (if t then us else []) after) (sym e.0) (other e.1)
    ]

    says_here : (n x : ℕ) (value : Value) (changed : Bool) → n ≡ name → WroteAs n x value changed
        → changed ≡ is_change rules (slice_get w.objects x) (shown w name x) value
    says_here n x value changed same told =
        told.says ∙ ap (λ (k : ℕ). is_change rules (slice_get w.objects x) (shown w k x) value) same

    written : (x : ℕ) (value : Value) → x < length w.objects → (y : ℕ)
        → value_at (slice_set (snapshot_of w name).view x (record { value = value; stamp = w.clock + 1 })) y
        ≡ with_value (shown w name) x value y
    written x value small y =
        let e : StampedValue = record { value = value; stamp = w.clock + 1 } in
        let old : Map = (snapshot_of w name).view in
        elim (eqb_tells x y) [
          | inl same ↦
              ap (λ (z : ℕ). value_at (slice_set old x e) z) (sym same.1)
              ∙ ap (λ (s : StampedValue). s.value)
              (get_or-set_same old x e no_entry (let full = (v.full name there).1 in omega (arith, small, full)))
              ∙ sym (ap (λ t. cond t value (value_at old y)) same.0)
          | inr other ↦
              ap (λ (s : StampedValue). s.value) (get_or-set_other old x y e no_entry (λ k. other.1 (sym k)))
              ∙ sym (ap (λ t. cond t value (value_at old y)) other.0)
        ]

    use_made : (q : Request) (out : World P × Reply) → Did rules w caller q out → call rules w caller q ≡ out
        → ((n : ℕ) → q ≡ request.Apply n → out.1 ≡ reply.Applied → (snapshot_of w n).parent ≢ name)
        → Leaves (use_in name q out.1) out.0
    use_made q out (refused request r) is into = subst (λ us. Leaves us w) (sym (no_use name request r)) (λ x. refl)
    use_made q out (took parent kind live) is into =
        λ x. ap (λ (m : Map). value_at m x) (view_after rules w caller q out (took parent kind live) name there)
    use_made q out (took_for watcher) is into =
        λ x. ap (λ (m : Map). value_at m x) (view_after rules w caller q out (took_for watcher) name there)
    use_made q out (got n x) is into = leaves_by n (ReadOf x (shown w n x) ∷ []) w
        (λ same. (ap (λ (k : ℕ). shown w k x) same, λ y. refl)) (λ other y. refl)
    use_made q out (left n x value) is into = leaves_by n (WriteOf x value false ∷ []) w
        (λ same. (says_here n x value false same (wrote_as n x value false (ap (λ r. r.1) is)), λ y. refl))
        (λ other y. refl)
    use_made q out (wrote n x value live) is into =
        let after = world_after_write w n x value in
        let shows = view_after rules w caller q out (wrote n x value live) name there in
        let told = wrote_as n x value true (ap (λ r. r.1) is) in
        let e : StampedValue = record { value = value; stamp = w.clock + 1 } in
        let old : Map = (snapshot_of w name).view in
        leaves_by n (WriteOf x value true ∷ []) after
        (λ same. (
          says_here n x value true same told,
          λ y. ap (λ (m : Map). value_at m y) (shows ∙ ap (λ t. cond t (slice_set old x e) old) (same_number n same))
              ∙ written x value told.there y,
        ))
        (λ other y. ap (λ (m : Map). value_at m y)
        (shows ∙ ap (λ t. cond t (slice_set old x e) old) (unequal n name other)))
      where
        same_number : (n : ℕ) → n ≡ name → (n == name) ≡ true
        same_number n same = elim (eqb_tells n name) [ inl e ↦ e.0 | inr e ↦ absurd (e.1 same) ]
    use_made q out (joined n m changed is' live parent_live) is into =
        let parent = (snapshot_of w n).parent in
        λ x. ap (λ (k : Map). value_at k x)
        (view-applied w n m changed (open_within w n live) (open_within w parent parent_live) name
        ∙ ap (λ t. cond t m (snapshot_of w name).view) (unequal parent name (into n refl refl)))
    use_made q out (gone n) is into = λ x. refl
    use_made q out (closed n live) is into =
        λ x. ap (λ (m : Map). value_at m x) (view_after rules w caller q out (closed n live) name there)

-- A whole history.
module _ {P : Type 0} (rules : Rules P) (keeps_types : KeepsTypes rules) (objects : List (Object P)) (old : ℕ)
    (some : 0 < old) where
  -- A snapshot that was taken later than the first `old` shows what its uses so far leave of what it began with.
  record KeepsUses (w : World P) (before : History) : Type 0 where
    same : w.objects ≡ objects
    count : old ≤ length w.snapshots
    fresh : (name : ℕ) → length w.snapshots ≤ name → uses_in name before ≡ []
    since : (name : ℕ) → old ≤ name → name < length w.snapshots
        → IsSerial rules objects (began w name) (uses_in name before) (shown w name)

  module _ (w : World P) (before : History) (e : Entry) (v : IsValid rules w) (keeps : KeepsUses w before)
      (legal : (call rules w e.caller e.request).1 ≡ e.reply)
      (clean : (name : ℕ) → e.request ≡ request.Apply name → e.reply ≡ reply.Applied → IsClean old w before name) where
    abbrev next : World P
    next = (call rules w e.caller e.request).0

    step : Did rules w e.caller e.request (call rules w e.caller e.request)
    step = did rules w e.caller e.request

    -- The use that the entry records.
    made : (name : ℕ) → name < length w.snapshots
        → ((n : ℕ) → e.request ≡ request.Apply n → e.reply ≡ reply.Applied → (snapshot_of w n).parent ≢ name)
        → IsSerial rules objects (shown w name) (use_in name e.request e.reply) (shown next name)
    made name there into =
        subst (λ r. IsSerial rules objects (shown w name) (use_in name e.request r) (shown next name)) legal
        (subst (λ os. IsSerial rules os (shown w name) (use_in name e.request (call rules w e.caller e.request).1)
        (shown next name)) keeps.same
        (use_made rules w e.caller v.shaped name there e.request (call rules w e.caller e.request) step refl
        (λ n q r. into n q (sym legal ∙ r))))

    keeps_old : (name : ℕ) → old ≤ name → name < length w.snapshots
        → IsSerial rules objects (began next name) (uses_in name (before ++ e ∷ [])) (shown next name)
    keeps_old name later there =
        let base = (roots_after rules w (e ∷ []) name there).base in
        subst (λ us. IsSerial rules objects (began next name) us (shown next name)) (sym (uses_snoc name before e))
        (serial_over_equal rules objects (uses_in name before ++ use_in name e.request e.reply)
        (began w name) (began next name) (shown next name) (λ x. ap (λ (m : Map). value_at m x) (sym base))
        (serial_append rules objects (uses_in name before) (use_in name e.request e.reply) (began w name)
        (shown w name) (shown next name) (keeps.since name later there)
        (made name there (λ n q r same.
        let parent = (clean n q r).parent in omega (arith, some, later, parent, same)))))

    none_yet : (name : ℕ) → length w.snapshots ≤ name → uses_in name (before ++ e ∷ []) ≡ []
    none_yet name past =
        uses_snoc name before e ∙ ap (λ us. us ++ use_in name e.request e.reply) (keeps.fresh name past)
        ∙ ap (λ r. use_in name e.request r) (sym legal)
        ∙ no_use_yet rules w e.caller e.request (call rules w e.caller e.request) step refl name past

    keeps_new : (name : ℕ) → length w.snapshots ≤ name → name < length next.snapshots
        → IsSerial rules objects (began next name) (uses_in name (before ++ e ∷ [])) (shown next name)
    keeps_new name past within =
        subst (λ us. IsSerial rules objects (began next name) us (shown next name)) (sym (none_yet name past))
        (new_shows rules w e.caller e.request (call rules w e.caller e.request) step name past within)

    keeps_next : KeepsUses next (before ++ e ∷ [])
    keeps_next =
        let grown = grows_by rules w e.caller e.request (call rules w e.caller e.request) step in
        record {
          same = objects_call rules w e.caller e.request ∙ keeps.same;
          count = let was = keeps.count in omega (arith, was, grown);
          fresh = λ name past. none_yet name (omega (arith, past, grown));
          since = λ name later within. elim (cases_lt name (length w.snapshots)) [
            | inl there ↦ keeps_old name later there
            | inr past ↦ keeps_new name past within
          ];
        }

    -- An apply makes the uses of its snapshot on global.
    module _ (name : ℕ) (asked : e.request ≡ request.Apply name) (applied : e.reply ≡ reply.Applied) where
      abbrev own : Snapshot
      own = snapshot_of w name

      is_clean : IsClean old w before name
      is_clean = clean name asked applied

      answer : (call rules w e.caller (request.Apply name)).1 ≡ reply.Applied
      answer = ap (λ q. (call rules w e.caller q).1) (sym asked) ∙ legal ∙ applied

      abbrev after : World P
      after = (call rules w e.caller (request.Apply name)).0

      there : name < length w.snapshots
      there = (joined_call rules w v.shaped e.caller name answer).there

      valid : IsValid rules after
      valid = valid_call v keeps_types e.caller (request.Apply name)

      record Moves (x : ℕ) : Type 0 where
        agree : contains x own.wrote ≡ true → began w name x ≡ shown w 0 x
        inside : contains x own.wrote ≡ true → shown after 0 x ≡ shown w name x
        outside : contains x own.wrote ≡ false → shown after 0 x ≡ shown w 0 x

      past_end : (m : Map) (x : ℕ) → length m ≤ x → value_at m x ≡ no_entry.value
      past_end m x past = ap (λ (s : StampedValue). s.value) (get_or_past m x no_entry past)

      no_object : (x : ℕ) → length w.objects ≤ x → Moves x
      no_object x past =
          let same = objects_call rules w e.caller (request.Apply name) in
          let open_name = v.shaped.full name there in
          let open_global = v.shaped.full 0 v.shaped.some in
          let later_global = valid.shaped.full 0 valid.shaped.some in
          let base = past_end own.base x (let n = open_name.0 in omega (arith, n, past)) in
          let view = past_end own.view x (let n = open_name.1 in omega (arith, n, past)) in
          let global = past_end (snapshot_of w 0).view x (let n = open_global.1 in omega (arith, n, past)) in
          let later = past_end (snapshot_of after 0).view x
          (let n = later_global.1 in let k = ap (λ (os : List (Object P)). length os) same in omega (arith, n, k, past)) in
          record {
            agree = λ in_it. base ∙ sym global;
            inside = λ in_it. later ∙ sym view;
            outside = λ out. later ∙ sym global;
          }

      -- What an apply does to the object at `x`, by the view of the parent.
      abbrev Steps : ℕ → ℕ → Type 0
      Steps x parent =
          (contains x own.wrote ≡ false
          → entry_at (snapshot_of after parent).view x ≡ entry_at (snapshot_of w parent).view x)
          × (contains x own.wrote ≡ true
          → (entry_at own.base x).stamp ≡ (entry_at (snapshot_of w parent).view x).stamp
          → (entry_at (snapshot_of after parent).view x ≡ entry_at own.view x)
          × (value_at own.base x ≡ value_at (snapshot_of w parent).view x))

      one_object : (x : ℕ) (o : Object P) → slice_get w.objects x ≡ Some o → Moves x
      one_object x o known =
          let steps : Steps x 0 = subst (Steps x) is_clean.parent
          (clean_apply_is_serial rules w e.caller name x o v known answer) in
          record {
            agree = λ in_it. (steps.1 in_it (is_clean.unmet x in_it)).1;
            inside = λ in_it. ap (λ (s : StampedValue). s.value) (steps.1 in_it (is_clean.unmet x in_it)).0;
            outside = λ out. ap (λ (s : StampedValue). s.value) (steps.0 out);
          }

      moves : (x : ℕ) → Moves x
      moves x = elim (slice_get_cases w.objects x).1 [
        | inl o ↦ one_object x o.0 o.2
        | inr o ↦ no_object x o.0
      ]

      applied_uses : IsSerial rules objects (shown w 0) (uses_in name before) (shown after 0)
      applied_uses = serial_elsewhere rules objects own.wrote (uses_in name before) (began w name) (shown w 0)
          (shown w name) (shown after 0) is_clean.own (λ x. (moves x).agree) (keeps.since name is_clean.later there)
          (λ x. (moves x).inside) (λ x. (moves x).outside)

      apply_is_a_step : IsSerial rules objects (shown w 0) (uses_at_apply before e.request e.reply) (shown next 0)
      apply_is_a_step =
          subst (λ r. IsSerial rules objects (shown w 0) (uses_at_apply before e.request r) (shown next 0)) (sym applied)
          (subst (λ q. IsSerial rules objects (shown w 0) (uses_at_apply before q reply.Applied)
          (shown (call rules w e.caller q).0 0)) (sym asked) applied_uses)

    call_is_a_step : IsSerial rules objects (shown w 0) (uses_at_apply before e.request e.reply) (shown next 0)
    call_is_a_step = elim (is_apply before e.request e.reply) [
      | inl a ↦ apply_is_a_step a.0 a.1 a.2
      | inr a ↦
          subst (λ us. IsSerial rules objects (shown w 0) us (shown next 0)) (sym a.0)
          (made 0 v.shaped.some (λ n q r. absurd (a.1 n q r)))
    ]

  serial_from : (w : World P) (before h : History) → IsValid rules w → KeepsUses w before → IsLegal rules w h
      → AppliesAreClean rules old w before h
      → IsSerial rules objects (shown w 0) (uses_by_apply before h) (shown (world_after rules w h) 0)
  serial_from w before [] v keeps legal clean = λ x. refl
  serial_from w before (e ∷ es) v keeps legal clean =
      let after = (call rules w e.caller e.request).0 in
      serial_append rules objects (uses_at_apply before e.request e.reply) (uses_by_apply (before ++ e ∷ []) es)
      (shown w 0) (shown after 0) (shown (world_after rules after es) 0)
      (call_is_a_step w before e v keeps legal.0 clean.0)
      (serial_from after (before ++ e ∷ []) es (valid_call v keeps_types e.caller e.request)
      (keeps_next w before e v keeps legal.0 clean.0) legal.1 clean.1)

pub clean_history_is_serial : {P : Type 0} (rules : Rules P) → KeepsTypes rules → CleanHistoryIsSerial rules
clean_history_is_serial rules keeps_types w h v legal clean =
    serial_from rules keeps_types w.objects (length w.snapshots) v.shaped.some w [] h v (record {
      same = refl;
      count = omega arith;
      fresh = λ name past. refl;
      since = λ name later within. absurd (omega (arith, later, within));
    }) legal clean
