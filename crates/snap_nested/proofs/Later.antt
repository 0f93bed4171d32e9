-- First ids are valid only for later names, and each call keeps that.
use Rattle.std.proofs.Common.{◌≡◌, ℕ, zero, suc, ◌+◌, ◌<◌, ◌≤◌, List, [], ◌∷◌, length, refl, sym, ap, ◌∙◌, subst, Bool, true, false, not, ◌&&◌, ◌||◌, arith, drop, inl, inr}
use Rattle.std.specs.List.{list_any}
use Rattle.std.specs.Prelude.{slice_index_or}
use Rattle.rt_values.specs.Maps.{contains}
use Rattle.rt_values.specs.declared.names.Kind.{Kind}
use Rattle.snap_ids.specs.IdLists.{IsRising, is_valid, is_empty}
use Rattle.snap_ids.proofs.Booleans.{same_or_other, not_both, not_true, and_seen}
use Rattle.snap_ids.proofs.IdLists.{rising_at}
use Rattle.snap_nested.specs.Ids.{Ids, IsDated, IsSound}
use Rattle.snap_nested.specs.Later.{AreSeenLater}
use Rattle.snap_nested.specs.Members.{member, ids_of, AreMembers, AreOpen, IsForgotten, members_after_enter, members_after_advance, members_after_close, members_after_apply, sees, is_seen, is_free, global}
use Rattle.snap_nested.specs.Moves.{Enters, Advances, Applies, Disposes, Forgets}
use Rattle.snap_nested.specs.Unused.{LosesOwners}
use Rattle.snap_nested.specs.declared.family.Member.{Member}
use Rattle.snap_nested.proofs.Advancing.{live_advanced, first_advanced, owned_before, sees_advanced}
use Rattle.snap_nested.proofs.Entering.{was_entered, owned_entered, new_unseen_entered}
use Rattle.snap_nested.proofs.Applying.{was_applied, owned_other, sees_first_applied}
use Rattle.snap_nested.proofs.Closing.{was_disposed, owns_disposed, first_disposed, sees_disposed, was_forgotten, owned_forgotten, other_forgotten, live_other, sees_known}
use Rattle.snap_nested.proofs.Members.{dated, live_member, enters_entered, advances_advanced, disposes_closed, forgets_forgotten}
use Rattle.snap_nested.proofs.Merging.{members_between, applies_merged, live_between, parent_between, up_between}
use Rattle.snap_nested.proofs.Free.{some_own}
use Rattle.snap_nested.proofs.Open.{seen_open}

-- The fact stays if each name with ids had ids, and its first id is valid for the same live names.
later_on : {f g : Ids} → AreSeenLater f → ((n : ℕ) → g.live n ≡ true → f.live n ≡ true) →
    ((n i : ℕ) → g.owns n i ≡ true
    → (j : ℕ) × (f.owns n j ≡ true) × ((m : ℕ) → g.live m ≡ true → g.sees m (g.first n) ≡ f.sees m (f.first n)))
    → AreSeenLater g
later_on t was same = record {
  by = λ n m i live own seen. let k = same n i own in t.by n m k.0 (was m live) k.1 (sym (k.2 m live) ∙ seen);
}

later_new : {f g : Ids} {handed parent name : ℕ} (a : Enters f g handed parent name) (s : IsSound f handed)
    (d : IsDated f) (up : f.live parent ≡ true) → parent < name → AreSeenLater f → AreSeenLater g
later_new {f} {g} {handed} {parent} {name} a s d up under t = record { by = later_at } where
  later_at : (n m i : ℕ) → g.live m ≡ true → g.owns n i ≡ true → g.sees m (g.first n) ≡ true → n ≤ m
  later_at n m i live own seen = elim (same_or_other n name) [
    | inl h ↦ elim (same_or_other m name) [
      | inl e ↦ omega (arith, h, e)
      | inr e ↦ absurd (not_both (g.sees m (handed + 1))
          (subst (λ (j : ℕ). g.sees m j ≡ true) (ap (λ (k : ℕ). g.first k) h ∙ a.first) seen)
          (new_unseen_entered a s d up m e (was_entered a s d up m e live)))
    ]
    | inr h ↦
        let was = owned_entered a s d up n i h own in
        let at : g.sees m (f.first n) ≡ true = subst (λ (j : ℕ). g.sees m j ≡ true) (a.others n h).first seen in
        elim (same_or_other m name) [
          | inl e ↦
              let saw : f.sees parent (f.first n) ≡ true = sym (a.sees n (f.first n) (s.first_own n i was))
              ∙ subst (λ (k : ℕ). g.sees k (f.first n) ≡ true) e at in
              omega (arith, t.by n parent i up was saw, under, e)
          | inr e ↦ t.by n m i (was_entered a s d up m e live) was (sym ((a.others m e).sees (f.first n)) ∙ at)
        ]
  ]

later_moved : {f g : Ids} {handed name : ℕ} (a : Advances f g handed name) (s : IsSound f handed) (d : IsDated f)
    → f.live name ≡ true → AreSeenLater f → AreSeenLater g
later_moved {f} {g} a s d live t = later_on t (λ n now. sym (live_advanced a s d live n) ∙ now) (λ n i own.
    let j = owned_before a s d live n i own in (
      j.0,
      j.1,
      λ m now. ap (λ (k : ℕ). g.sees m k) (first_advanced a s d live n)
          ∙ sees_advanced a s d live m n (f.first n) (s.first_own n j.0 j.1),
    ))

later_joined : {f g : Ids} {handed name into : ℕ} (a : Applies f g name into) (s : IsSound f handed)
    (live : f.live name ≡ true) (inner : 0 < name) (is_parent : f.parent name ≡ into) (live_into : f.live into ≡ true)
    → AreSeenLater f → AreSeenLater g
later_joined a s live inner is_parent live_into t = later_on t (was_applied a s live inner is_parent live_into)
    (λ n i own.
    let j = owned_other a s live inner is_parent live_into n i own in
    (j.0, j.1, λ m now. sees_first_applied a s live inner is_parent live_into n m j.0 j.2 now j.1))

later_shut : {f g : Ids} {handed name : ℕ} (a : Disposes f g name) (s : IsSound f handed) (inner : 0 < name)
    → AreSeenLater f → AreSeenLater g
later_shut {f} {g} a s inner t = later_on t (was_disposed a s inner) (λ n i own. (
  i,
  sym (owns_disposed a s inner n i) ∙ own,
  λ m now. ap (λ (k : ℕ). g.sees m k) (first_disposed a s inner n) ∙ sees_disposed a s inner m now (f.first n),
))

later_gone : {f g : Ids} {handed name : ℕ} (a : Forgets f g name) (s : IsSound f handed) (closed : f.live name ≡ false)
    → AreSeenLater f → AreSeenLater g
later_gone {f} {g} a s closed t = later_on t (was_forgotten a s closed) (λ n i own.
    let was = owned_forgotten a s closed n i own in
    let o = other_forgotten a s closed n i own in (
      i,
      was,
      λ m now. ap (λ (k : ℕ). g.sees m k) (a.first n o)
          ∙ sees_known a s closed m n (f.first n) (live_other a s closed m (was_forgotten a s closed m now)) o
          (s.first_own n i was),
    ))

pub later_lost : {f g : Ids} {unused : ℕ → Bool} → LosesOwners f g unused
    → ((n i : ℕ) → f.owns n i ≡ true → unused (f.first n) ≡ false) → AreSeenLater f → AreSeenLater g
later_lost {f} {g} {unused} a first t = later_on t (λ n now. sym (a.live n) ∙ now) (λ n i own.
    let was = (and_seen (f.owns n i) (unused i) (sym (a.owns n i) ∙ own)).0 in
    (i, was, λ m now. ap (λ (k : ℕ). g.sees m k) (a.first n) ∙ a.sees m (f.first n) (first n i was)))

pub later_start : AreSeenLater (ids_of (global ∷ []))
later_start = record { by = λ n m i live own seen. first n m i own } where
  first : (n m i : ℕ) → (ids_of (global ∷ [])).owns n i ≡ true → n ≤ m
  first zero m i own = omega arith
  first (suc n) m i own = absurd (nothing i own) where
    nothing : (i : ℕ) → contains i [] ≡ true → ⊥
    nothing i h = cc

pub later_entered : (ms : List Member) (handed parent : ℕ) (kind : Kind) (owner : ℕ) → AreMembers ms handed
    → (member ms parent).is_live ≡ true → AreSeenLater (ids_of ms)
    → AreSeenLater (ids_of (members_after_enter ms handed parent kind owner))
later_entered ms handed parent kind owner a up = later_new (enters_entered ms handed parent kind owner a up) a.sound
    (dated ms) up (live_member ms parent up)

pub later_advanced : (ms : List Member) (handed name : ℕ) → AreMembers ms handed → (member ms name).is_live ≡ true
    → AreSeenLater (ids_of ms) → AreSeenLater (ids_of (members_after_advance ms handed name))
later_advanced ms handed name a live =
    later_moved (advances_advanced ms handed name a live) a.sound (dated ms) live

pub later_closed : (ms : List Member) (handed name : ℕ) → AreMembers ms handed → (member ms name).is_live ≡ true
    → 0 < name → AreSeenLater (ids_of ms) → AreSeenLater (ids_of (members_after_close ms name))
later_closed ms handed name a live inner =
    later_shut (disposes_closed ms name (live_member ms name live)) a.sound inner

pub later_forgotten : (ms ns : List Member) (handed name : ℕ) → AreMembers ms handed
    → (member ms name).is_live ≡ false → IsForgotten ms ns name → AreSeenLater (ids_of ms) → AreSeenLater (ids_of ns)
later_forgotten ms ns handed name a closed gone = later_gone (forgets_forgotten ms ns name gone closed) a.sound closed

pub later_merged : (ms : List Member) (handed name into : ℕ) (a : AreMembers ms handed)
    (live : (member ms name).is_live ≡ true) (inner : 0 < name) (parent : (member ms name).parent ≡ into)
    (up : (member ms into).is_live ≡ true) → AreSeenLater (ids_of ms)
    → AreSeenLater (ids_of (members_after_apply (members_after_advance ms handed into) name into))
later_merged ms handed name into a live inner parent up t =
    later_joined (applies_merged ms handed name into a live inner parent up)
    (members_between ms handed name into a live inner parent up).sound
    (live_between ms handed name into a live inner parent up) inner
    (parent_between ms handed name into a live inner parent up) (up_between ms handed name into a live inner parent up)
    (later_advanced ms handed into a up t)

-- The search for a member for which the id is valid may begin after names for which it is not.
pub seen_after : (os : List ℕ) (ms : List Member) (i at : ℕ) → AreOpen os ms →
    ((j : ℕ) → j < at → sees i (member ms (slice_index_or os j 0)) ≡ false)
    → list_any (λ n. sees i (member ms n)) (drop at os) ≡ is_seen ms i
seen_after os ms i at o none = after at os none ∙ seen_open os ms i o where
  t : ℕ → Bool
  t n = sees i (member ms n)

  after : (at : ℕ) (os : List ℕ) → ((j : ℕ) → j < at → t (slice_index_or os j 0) ≡ false)
      → list_any t (drop at os) ≡ list_any t os
  after zero os none = refl
  after (suc at) [] none = refl
  after (suc at) (n ∷ os) none = after at os (λ j h. none (suc j) (omega (arith, h)))
      ∙ sym (skip (t n) (list_any t os) (none 0 (omega arith))) where
        skip : (a b : Bool) → a ≡ false → (a || b) ≡ b
        skip false b h = refl
        skip true b h = absurd cc

-- No name before the one at `at` sees its first id.
pub unseen_before : (os : List ℕ) (ms : List Member) (at : ℕ) → IsRising os → AreSeenLater (ids_of ms)
    → at < length os → (i : ℕ) → contains i (member ms (slice_index_or os at 0)).ids ≡ true → (j : ℕ) → j < at
    → sees (member ms (slice_index_or os at 0)).first (member ms (slice_index_or os j 0)) ≡ false
unseen_before os ms at r t within i own j low =
    let n = slice_index_or os at 0 in
    let m = member ms (slice_index_or os j 0) in
    not_true (sees (member ms n).first m) (λ h.
    let both = halves m.is_live (is_valid m.id m.invalid (member ms n).first) h in
    omega (arith, t.by n (slice_index_or os j 0) i both.0 own both.1, rising_at os j at r low within)) where
      halves : (a b : Bool) → (a && b) ≡ true → (a ≡ true) × (b ≡ true)
      halves true b h = (refl, h)
      halves false b h = absurd cc

-- A closed member that keeps ids is free if no name from its own on sees its first id.
pub free_unless_seen : (os : List ℕ) (ms : List Member) (at : ℕ) (m : Member) (e b : Bool) → AreOpen os ms
    → IsRising os → AreSeenLater (ids_of ms) → at < length os → m ≡ member ms (slice_index_or os at 0)
    → m.is_live ≡ false → e ≡ is_empty m.ids → e ≡ false
    → b ≡ list_any (λ n. sees m.first (member ms n)) (drop at os)
    → not b ≡ is_free ms (member ms (slice_index_or os at 0))
free_unless_seen os ms at m e b o r t within same closed is keeps found =
    subst (λ (p : Member). not b ≡ is_free ms p) same
    (parts m.is_live (is_empty m.ids) (is_seen ms m.first) b closed (sym is ∙ keeps)
    (found ∙ seen_after os ms m.first at o unseen)) where
      own : (i : ℕ) × (contains i m.ids ≡ true)
      own = some_own m.ids (sym is ∙ keeps)

      unseen : (j : ℕ) → j < at → sees m.first (member ms (slice_index_or os j 0)) ≡ false
      unseen j low = ap (λ (p : Member). sees p.first (member ms (slice_index_or os j 0))) same
          ∙ unseen_before os ms at r t within own.0 (ap (λ (p : Member). contains own.0 p.ids) (sym same) ∙ own.1) j low

      parts : (x y z w : Bool) → x ≡ false → y ≡ false → w ≡ z → not w ≡ (not x && (not y && not z))
      parts false false z w h k l = ap not l
      parts true y z w h k l = absurd cc
      parts false true z w h k l = absurd cc
