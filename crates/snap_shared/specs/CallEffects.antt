-- Internal: what one call keeps of an own readonly snapshot, the objects, the last maps and the clock.
use Rattle.std.proofs.Common.{ℕ, ◌≡◌, ◌≢◌, ◌++◌, ◌∷◌, [], refl, sym, ap, ◌∙◌, Option, Some, None, false, true, Bool, not, nat_lt, length, ◌==◌, cond, ◌≤◌, ◌&&◌, ◌||◌, arith, inl, inr}
use Rattle.std.proofs.Math.ListN.{get_or-append}
use Rattle.std.proofs.lemmas.Bool.Decides.{eqb_tells, Decides-eqb}
use Rattle.std.proofs.lemmas.List.{get_or-set_other, length-set}
use Rattle.std.specs.Prelude.{slice_index_or, slice_set, slice_get}
use Rattle.rt_values.specs.Maps.{Map, value_at}
use Rattle.rt_values.specs.Values.{type_of, same_type}
use Rattle.rt_values.specs.declared.names.Kind.{Kind}
use Rattle.rt_values.specs.declared.value.Value.{Value}
use Rattle.snap_policy.specs.Rules.{Rules}
use Rattle.snap_api.proofs.LawsCases.{Did, did, refused, took, took_for, got, left, wrote, joined, gone, closed}
use Rattle.snap_api.proofs.Valid.{open_within}
use Rattle.snap_api.specs.Settle.{Settled, settled, conflict}
use Rattle.snap_api.specs.Valid.{IsValid}
use Rattle.snap_api.specs.World.{World, call, take, take_for, read, write, write_to, apply, apply_to, settled_of, dispose, is_closed, is_foreign, is_spent, is_mutable, snapshot_of, last_of, no_snapshot, with_status, with_settled}
use Rattle.snap_api.specs.declared.data.Object.{Object}
use Rattle.snap_api.specs.declared.data.Refusal.{Refusal}
use Rattle.snap_api.specs.declared.data.Refusal.TheVariants as refusal
use Rattle.snap_api.specs.declared.data.Reply.{Reply}
use Rattle.snap_api.specs.declared.data.Reply.TheVariants as reply
use Rattle.snap_api.specs.declared.data.Request.{Request}
use Rattle.snap_api.specs.declared.data.Request.TheVariants as request
use Rattle.snap_api.specs.declared.data.Snapshot.{Snapshot}
use Rattle.snap_api.specs.declared.data.SnapshotStatus.TheVariants.{Applied}
use Rattle.snap_shared.specs.SeatDesk.{IsOwnReadonly, is_read, is_take_for}

-- A live snapshot of the caller other than global.
pub record IsOwnOpen {P : Type 0} (w : World P) (number name : ℕ) : Type 0 where
  pub live : is_closed w name ≡ false
  pub owner : (snapshot_of w name).owner ≡ number
  pub inner : (name == 0) ≡ false

open_of : {P : Type 0} {w : World P} {number name : ℕ} → IsOwnReadonly w number name → IsOwnOpen w number name
open_of m = record { live = m.live; owner = m.owner; inner = m.inner }

-- A call keeps this snapshot.
pub record KeepsSnapshot {P : Type 0} (name : ℕ) (w : World P) (r : World P × Reply) : Type 0 where
  pub snapshot : snapshot_of r.0 name ≡ snapshot_of w name

kept_itself : {P : Type 0} (name : ℕ) (w : World P) (a : Reply) → KeepsSnapshot name w (w, a)
kept_itself name w a = record { snapshot = refl }

-- If the test is true the call is refused and the world is the same. Else the rest of the call knows that it is false.
tested : {P : Type 0} (name : ℕ) (w : World P) (b : Bool) (r : Refusal) (go : World P × Reply)
    → (b ≡ false → KeepsSnapshot name w go) → KeepsSnapshot name w (cond b (w, reply.Refused r) go)
tested name w true r go k = kept_itself name w (reply.Refused r)
tested name w false r go k = k refl

choice : {P : Type 0} (name : ℕ) (w : World P) (b : Bool) (go on : World P × Reply) → KeepsSnapshot name w go
    → (b ≡ false → KeepsSnapshot name w on) → KeepsSnapshot name w (cond b go on)
choice name w true go on k l = k
choice name w false go on k l = l refl

module _ {P : Type 0} (rules : Rules P) (w : World P) (number name : ℕ) where
  added_snapshot : (s : Snapshot) → IsOwnOpen w number name
      → slice_index_or (w.snapshots ++ s ∷ []) name no_snapshot ≡ snapshot_of w name
  added_snapshot s m = get_or-append w.snapshots (s ∷ []) no_snapshot name (open_within w name m.live)

  pub take_keeps : (caller parent : ℕ) (kind : Kind) → IsOwnOpen w number name
      → KeepsSnapshot name w (take rules w caller parent kind)
  take_keeps caller parent kind m = tested name w (is_spent w) refusal.Spent _
      (λ a. tested name w (is_closed w parent) (refusal.Closed parent) _
      (λ b. tested name w (not (is_mutable (snapshot_of w parent).kind) && is_mutable kind) refusal.ReadOnly _
      (λ c. record { snapshot = added_snapshot _ m })))

  pub take_for_keeps : (caller watcher : ℕ) → IsOwnOpen w number name
      → KeepsSnapshot name w (take_for rules w caller watcher)
  take_for_keeps caller watcher m = tested name w (is_spent w) refusal.Spent _
      (λ a. tested name w (not (nat_lt watcher (length w.lasts))) refusal.UnknownWatcher _
      (λ b. record { snapshot = added_snapshot _ m }))

  pub read_keeps : (caller n x : ℕ) → KeepsSnapshot name w (read rules w caller n x)
  read_keeps caller n x = tested name w (is_closed w n) (refusal.Closed n) _
      (λ a. tested name w (is_foreign w caller n) (refusal.NotYours (snapshot_of w n).owner) _
      (λ b. tested name w (not (nat_lt x (length w.objects))) refusal.UnknownObject _ (λ c. kept_itself name w _)))

  is_other : (b t : Bool) → b ≡ false → t ≡ false → cond b false (not t) ≡ true
  is_other true t e f = absurd cc
  is_other false true e f = absurd cc
  is_other false false e f = refl

  swapped : (a b : ℕ) → (a == b) ≡ false → (b == a) ≡ false
  swapped a b e = elim (eqb_tells b a) [
    | inl h ↦ let f : (a == b) ≡ true = (Decides-eqb a b).1 (sym h.1) in
        absurd cc
    | inr h ↦ h.0
  ]

  -- The snapshot is foreign to every other caller.
  foreign : (caller : ℕ) → (caller == number) ≡ false → IsOwnOpen w number name → is_foreign w caller name ≡ true
  foreign caller other m = is_other (name == 0) ((snapshot_of w name).owner == caller) m.inner
      (ap (λ (o : ℕ). o == caller) m.owner ∙ swapped caller number other)

  pub other_snapshot : (s : Snapshot) (n : ℕ) → n ≢ name
      → slice_index_or (slice_set w.snapshots n s) name no_snapshot ≡ snapshot_of w name
  other_snapshot s n h = get_or-set_other w.snapshots n name s no_snapshot (λ e. h (sym e))

  -- A snapshot that another caller may change is another snapshot.
  pub differs : (caller n : ℕ) → (caller == number) ≡ false → IsOwnOpen w number name → is_foreign w caller n ≡ false
      → n ≢ name
  differs caller n other m e h = let f : is_foreign w caller n ≡ true = ap (λ (k : ℕ). is_foreign w caller k) h
      ∙ foreign caller other m in absurd cc

  not_both : (a b : Bool) → not a && b ≡ false → a ≡ false → b ≡ false
  not_both true b e f = absurd cc
  not_both false b e f = e

  pub dispose_keeps : (caller n : ℕ) → (caller == number) ≡ false → IsOwnOpen w number name
      → KeepsSnapshot name w (dispose rules w caller n)
  dispose_keeps caller n other m = tested name w (not (nat_lt n (length w.snapshots))) (refusal.Closed n) _
      (λ a. tested name w (n == 0) refusal.Global _ (λ b.
      tested name w (not (is_closed w n) && is_foreign w caller n) (refusal.NotYours (snapshot_of w n).owner) _ (λ f.
      choice name w (is_closed w n) _ _ (kept_itself name w _)
      (λ live. record {
        snapshot = other_snapshot _ n
            (differs caller n other m (not_both (is_closed w n) (is_foreign w caller n) f live));
      }))))

  write_good : (caller n x : ℕ) (v : Value) → (caller == number) ≡ false → IsOwnOpen w number name
      → is_foreign w caller n ≡ false → (o : Option (Object P)) → KeepsSnapshot name w (write_to rules w caller n x v o)
  write_good caller n x v other m f None = kept_itself name w _
  write_good caller n x v other m f (Some o) = tested name w (not (is_mutable (snapshot_of w n).kind)) refusal.ReadOnly
      _ (λ a. tested name w (not (same_type (type_of v) o.ty)) (refusal.WrongType o.ty) _
      (λ b. choice name w (rules.equiv o.policy (value_at (snapshot_of w n).view x) v) _ _ (kept_itself name w _)
      (λ c. record { snapshot = other_snapshot _ n (differs caller n other m f) })))

  pub write_keeps : (caller n x : ℕ) (v : Value) → (caller == number) ≡ false → IsOwnOpen w number name
      → KeepsSnapshot name w (write rules w caller n x v)
  write_keeps caller n x v other m = tested name w (is_spent w) refusal.Spent _
      (λ a. tested name w (is_closed w n) (refusal.Closed n) _
      (λ b. tested name w (is_foreign w caller n) (refusal.NotYours (snapshot_of w n).owner) _
      (λ f. write_good caller n x v other m f (slice_get w.objects x))))

  differs_too : (n : ℕ) → is_mutable (snapshot_of w n).kind ≡ true → IsOwnReadonly w number name → n ≢ name
  differs_too n e m h = let f : is_mutable (snapshot_of w name).kind ≡ true =
      ap (λ (k : ℕ). is_mutable (snapshot_of w k).kind) (sym h) ∙ e in let k = ap is_mutable m.kind in absurd cc

  mutable_of : (b : Bool) → not b ≡ false → b ≡ true
  mutable_of true e = refl
  mutable_of false e = absurd cc

  apply_good : (caller n : ℕ) → IsValid rules w → (caller == number) ≡ false → IsOwnReadonly w number name
      → is_closed w n ≡ false → is_foreign w caller n ≡ false → is_mutable (snapshot_of w n).kind ≡ true → (s : Settled)
      → KeepsSnapshot name w (apply_to rules w caller n s)
  apply_good caller n valid other m b f k (conflict x) = kept_itself name w _
  apply_good caller n valid other m b f k (settled v changed) =
      let parent = (snapshot_of w n).parent in
      let snapshots = slice_set w.snapshots parent (with_settled (snapshot_of w parent) v changed) in
      record {
        snapshot = get_or-set_other snapshots n name
            (with_status (slice_index_or snapshots n no_snapshot) Applied) no_snapshot
            (λ e. differs caller n other (open_of m) f (sym e))
            ∙ other_snapshot _ parent (differs_too parent (valid.tree n b k) m);
      }

  apply_keeps : (caller n : ℕ) → IsValid rules w → (caller == number) ≡ false → IsOwnReadonly w number name
      → KeepsSnapshot name w (apply rules w caller n)
  apply_keeps caller n valid other m = tested name w (is_spent w) refusal.Spent _
      (λ a. tested name w (is_closed w n) (refusal.Closed n) _ (λ b. tested name w (n == 0) refusal.Global _ (λ c.
      tested name w (is_foreign w caller n) (refusal.NotYours (snapshot_of w n).owner) _
      (λ f. tested name w (not (is_mutable (snapshot_of w n).kind)) refusal.ReadOnly _ (λ k.
      tested name w (is_closed w (snapshot_of w n).parent) refusal.ParentClosed _
      (λ p. apply_good caller n valid other m b f (mutable_of (is_mutable (snapshot_of w n).kind) k)
      (settled_of rules w caller n)))))))

  not_mine : (b : Bool) → not b || false ≡ true → b ≡ false
  not_mine true e = absurd cc
  not_mine false e = refl

  pub one_keeps : (caller : ℕ) (r : Request) → IsValid rules w → IsOwnReadonly w number name
      → not (caller == number) || is_read r ≡ true → KeepsSnapshot name w (call rules w caller r)
  one_keeps caller (request.Take parent kind) valid m e = take_keeps caller parent kind (open_of m)
  one_keeps caller (request.TakeFor n) valid m e = take_for_keeps caller n (open_of m)
  one_keeps caller (request.Read n x) valid m e = read_keeps caller n x
  one_keeps caller (request.Write n x v) valid m e =
      write_keeps caller n x v (not_mine (caller == number) e) (open_of m)
  one_keeps caller (request.Apply n) valid m e = apply_keeps caller n valid (not_mine (caller == number) e) m
  one_keeps caller (request.Dispose n) valid m e = dispose_keeps caller n (not_mine (caller == number) e) (open_of m)

-- What every call keeps.
pub record Stays {P : Type 0} (w : World P) (q : Request) (after : World P) : Type 0 where
  pub objects : after.objects ≡ w.objects
  pub clock : w.clock ≤ after.clock
  pub watchers : length w.lasts ≤ length after.lasts
  pub lasts : (n : ℕ) → is_take_for n q ≡ false → last_of after n ≡ last_of w n

module _ {P : Type 0} (rules : Rules P) (w : World P) (caller : ℕ) where
  same_world : (q : Request) → Stays w q w
  same_world q = record { objects = refl; clock = omega arith; watchers = omega arith; lasts = λ n e. refl }

  stays : (q : Request) (out : World P × Reply) → Did rules w caller q out → Stays w q out.0
  stays q out (refused request r) = same_world request
  stays q out (took parent kind live) =
      record { objects = refl; clock = omega arith; watchers = omega arith; lasts = λ n e. refl }
  stays q out (took_for watcher) = record {
    objects = refl;
    clock = omega arith;
    watchers = omega (arith, length-set {A = Option Map});
    lasts = λ n e. get_or-set_other w.lasts watcher n (Some (snapshot_of w 0).view) None
        (λ h. let f : (watcher == n) ≡ true = (Decides-eqb watcher n).1 (sym h) in absurd cc);
  }
  stays q out (got name x) = same_world (request.Read name x)
  stays q out (left name x value) = same_world (request.Write name x value)
  stays q out (wrote name x value live) =
      record { objects = refl; clock = omega arith; watchers = omega arith; lasts = λ n e. refl }
  stays q out (joined name m changed is live parent_live) =
      record { objects = refl; clock = omega arith; watchers = omega arith; lasts = λ n e. refl }
  stays q out (gone name) = same_world (request.Dispose name)
  stays q out (closed name live) =
      record { objects = refl; clock = omega arith; watchers = omega arith; lasts = λ n e. refl }

  pub stays_call : (q : Request) → Stays w q (call rules w caller q).0
  stays_call q = stays q (call rules w caller q) (did rules w caller q)
