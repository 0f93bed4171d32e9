-- A live snapshot of a caller stays live and the caller's own, whatever calls other callers make.
use Rattle.std.proofs.Common.{ℕ, ◌≡◌, ◌<◌, List, [], ◌∷◌, refl, sym, ap, subst, ◌∙◌, false, true, Bool, not, length, ◌==◌, cond, inl, inr}
use Rattle.std.proofs.lemmas.Bool.Decides.{eqb_tells}
use Rattle.std.proofs.lemmas.List.{get_or-set_other, get_or-set_same}
use Rattle.std.specs.Prelude.{slice_index_or, slice_set}
use Rattle.rt_values.specs.Maps.{Map}
use Rattle.snap_policy.specs.Rules.{Rules}
use Rattle.snap_api.proofs.Valid.{open_within}
use Rattle.snap_api.specs.Calls.{IsOwn}
use Rattle.snap_api.specs.Settle.{Settled, settled, conflict}
use Rattle.snap_api.specs.World.{World, call, apply, apply_to, settled_of, world_after, is_closed, is_foreign, is_live, is_mutable, is_spent, snapshot_of, no_snapshot, with_status, with_settled}
use Rattle.snap_api.specs.declared.data.Entry.{Entry}
use Rattle.snap_api.specs.declared.data.Refusal.{Refusal}
use Rattle.snap_api.specs.declared.data.Refusal.TheVariants as refusal
use Rattle.snap_api.specs.declared.data.Reply.{Reply}
use Rattle.snap_api.specs.declared.data.Reply.TheVariants as reply
use Rattle.snap_api.specs.declared.data.Request.{Request}
use Rattle.snap_api.specs.declared.data.Request.TheVariants as request
use Rattle.snap_api.specs.declared.data.Snapshot.{Snapshot}
use Rattle.snap_api.specs.declared.data.SnapshotStatus.{SnapshotStatus}
use Rattle.snap_api.specs.declared.data.SnapshotStatus.TheVariants.{Applied}
use Rattle.snap_shared.specs.CallEffects.{IsOwnOpen, KeepsSnapshot, take_keeps, take_for_keeps, read_keeps, write_keeps, dispose_keeps, differs, other_snapshot}
use Rattle.snap_shared.specs.SharedCalls.{own_calls}

-- A call keeps status and owner of this snapshot.
record KeepsOwner {P : Type 0} (name : ℕ) (w : World P) (r : World P × Reply) : Type 0 where
  pub status : (snapshot_of r.0 name).status ≡ (snapshot_of w name).status
  pub owner : (snapshot_of r.0 name).owner ≡ (snapshot_of w name).owner

same_owner : {P : Type 0} (name : ℕ) (w : World P) (r : World P × Reply) → KeepsSnapshot name w r → KeepsOwner name w r
same_owner name w r k =
    record { status = ap (λ (s : Snapshot). s.status) k.snapshot; owner = ap (λ (s : Snapshot). s.owner) k.snapshot }

tested : {P : Type 0} (name : ℕ) (w : World P) (b : Bool) (r : Refusal) (go : World P × Reply)
    → (b ≡ false → KeepsOwner name w go) → KeepsOwner name w (cond b (w, reply.Refused r) go)
tested name w true r go k = record { status = refl; owner = refl }
tested name w false r go k = k refl

module _ {P : Type 0} (rules : Rules P) (w : World P) (number name : ℕ) where
  -- The parent of an applied snapshot keeps its status and owner.
  parent_keeps : (parent : ℕ) (v : Map) (changed : List ℕ) → IsOwnOpen w number name
      → (r : Snapshot) → r ≡ slice_index_or (slice_set w.snapshots parent
      (with_settled (snapshot_of w parent) v changed)) name no_snapshot
      → (r.status ≡ (snapshot_of w name).status) × (r.owner ≡ (snapshot_of w name).owner)
  parent_keeps parent v changed m r is = elim (eqb_tells parent name) [
    | inl e ↦
        let here : r ≡ with_settled (snapshot_of w parent) v changed =
        is ∙ ap (λ (i : ℕ). slice_index_or (slice_set w.snapshots parent
        (with_settled (snapshot_of w parent) v changed)) i no_snapshot) (sym e.1)
        ∙ get_or-set_same w.snapshots parent (with_settled (snapshot_of w parent) v changed) no_snapshot
        (subst (λ (i : ℕ). i < length w.snapshots) (sym e.1) (open_within w name m.live)) in (
          ap (λ (s : Snapshot). s.status) here ∙ ap (λ (i : ℕ). (snapshot_of w i).status) e.1,
          ap (λ (s : Snapshot). s.owner) here ∙ ap (λ (i : ℕ). (snapshot_of w i).owner) e.1,
        )
    | inr e ↦
        let there : r ≡ snapshot_of w name = is
        ∙ other_snapshot rules w number name (with_settled (snapshot_of w parent) v changed) parent e.1 in
        (ap (λ (s : Snapshot). s.status) there, ap (λ (s : Snapshot). s.owner) there)
  ]

  apply_good : (caller n : ℕ) → (caller == number) ≡ false → IsOwnOpen w number name → is_foreign w caller n ≡ false
      → (s : Settled) → KeepsOwner name w (apply_to rules w caller n s)
  apply_good caller n other m f (conflict x) = record { status = refl; owner = refl }
  apply_good caller n other m f (settled v changed) =
      let parent = (snapshot_of w n).parent in
      let snapshots = slice_set w.snapshots parent (with_settled (snapshot_of w parent) v changed) in
      let last = get_or-set_other snapshots n name (with_status (slice_index_or snapshots n no_snapshot) Applied)
      no_snapshot (λ e. differs rules w number name caller n other m f (sym e)) in
      let kept = parent_keeps parent v changed m (slice_index_or snapshots name no_snapshot) refl in
      record {
        status = ap (λ (s : Snapshot). s.status) last ∙ kept.0;
        owner = ap (λ (s : Snapshot). s.owner) last ∙ kept.1;
      }

  apply_keeps : (caller n : ℕ) → (caller == number) ≡ false → IsOwnOpen w number name
      → KeepsOwner name w (apply rules w caller n)
  apply_keeps caller n other m = tested name w (is_spent w) refusal.Spent _
      (λ a. tested name w (is_closed w n) (refusal.Closed n) _ (λ b. tested name w (n == 0) refusal.Global _ (λ c.
      tested name w (is_foreign w caller n) (refusal.NotYours (snapshot_of w n).owner) _
      (λ f. tested name w (not (is_mutable (snapshot_of w n).kind)) refusal.ReadOnly _ (λ k.
      tested name w (is_closed w (snapshot_of w n).parent) refusal.ParentClosed _
      (λ p. apply_good caller n other m f (settled_of rules w caller n)))))))

  owner_kept : (caller : ℕ) (r : Request) → (caller == number) ≡ false → IsOwnOpen w number name
      → KeepsOwner name w (call rules w caller r)
  owner_kept caller (request.Take parent kind) other m =
      same_owner name w _ (take_keeps rules w number name caller parent kind m)
  owner_kept caller (request.TakeFor n) other m = same_owner name w _ (take_for_keeps rules w number name caller n m)
  owner_kept caller (request.Read n x) other m = same_owner name w _ (read_keeps rules w number name caller n x)
  owner_kept caller (request.Write n x v) other m =
      same_owner name w _ (write_keeps rules w number name caller n x v other m)
  owner_kept caller (request.Apply n) other m = apply_keeps caller n other m
  owner_kept caller (request.Dispose n) other m =
      same_owner name w _ (dispose_keeps rules w number name caller n other m)

-- The snapshot is open after a call of another caller.
still_open : {P : Type 0} (rules : Rules P) (w : World P) (number name caller : ℕ) (r : Request)
    → (caller == number) ≡ false → IsOwnOpen w number name → IsOwnOpen (call rules w caller r).0 number name
still_open rules w number name caller r other m =
    let k = owner_kept rules w number name caller r other m in
    record {
      live = ap (λ (s : SnapshotStatus). not (is_live s)) k.status ∙ m.live;
      owner = k.owner ∙ m.owner;
      inner = m.inner;
    }

open_after : {P : Type 0} (rules : Rules P) (w : World P) (number name : ℕ) (es : List Entry) → own_calls number es ≡ []
    → IsOwnOpen w number name → IsOwnOpen (world_after rules w es) number name
open_after rules w number name [] none m = m
open_after rules w number name (e ∷ es) none m =
    go (open_after rules (call rules w e.caller e.request).0 number name es) (e.caller == number) refl none where
      go : (own_calls number es ≡ [] → IsOwnOpen (call rules w e.caller e.request).0 number name
          → IsOwnOpen (world_after rules (call rules w e.caller e.request).0 es) number name)
          → (b : Bool) → (e.caller == number) ≡ b → cond b (e ∷ own_calls number es) (own_calls number es) ≡ []
          → IsOwnOpen (world_after rules (call rules w e.caller e.request).0 es) number name
      go more true is k = absurd cc
      go more false is k = more k (still_open rules w number name e.caller e.request is m)

owner_is : (b : Bool) (owner number : ℕ) → b ≡ false → cond b false (not (owner == number)) ≡ false → owner ≡ number
owner_is true owner number is e = absurd cc
owner_is false owner number is e = elim (eqb_tells owner number) [
  | inl h ↦ h.1
  | inr h ↦ let q : not (owner == number) ≡ true = ap not h.0 in absurd cc
]

foreign_not : (b : Bool) (owner number : ℕ) → b ≡ false → owner ≡ number → cond b false (not (owner == number)) ≡ false
foreign_not true owner number is e = refl
foreign_not false owner number is e = elim (eqb_tells owner number) [ inl h ↦ ap not h.0 | inr h ↦ absurd (h.1 e) ]

-- An own snapshot stays own over other callers' calls.
pub stays_own : {P : Type 0} (rules : Rules P) (w : World P) (number name : ℕ) (es : List Entry)
    → own_calls number es ≡ [] → IsOwn w number name → IsOwn (world_after rules w es) number name
stays_own rules w number name es none own =
    let m = open_after rules w number name es none
    (record {
      live = own.live;
      owner = owner_is (name == 0) (snapshot_of w name).owner number own.inner own.own;
      inner = own.inner;
    }) in
    record {
      live = m.live;
      inner = m.inner;
      own = foreign_not (name == 0) (snapshot_of (world_after rules w es) name).owner number m.inner m.owner;
    }
