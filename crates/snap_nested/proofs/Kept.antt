-- Invalid ids are ids that members have: every change of the members keeps that. And the gathering of such ids.
use Rattle.std.proofs.Common.{◌≡◌, ◌≢◌, ℕ, zero, suc, ◌+◌, ◌-◌, ◌<◌, ◌≤◌, inl, inr, List, [], ◌∷◌, length, refl, sym, ap, subst, ◌∙◌, true, false, ◌||◌, ◌==◌, arith}
use Rattle.rt_values.specs.Maps.{contains}
use Rattle.rt_values.specs.declared.names.Kind.{Kind}
use Rattle.snap_ids.specs.IdLists.{IsRising, with_run, without_ids}
use Rattle.snap_ids.proofs.Booleans.{same_or_other, not_both, or_true, or_left, or_right, and_seen}
use Rattle.snap_ids.proofs.IdLists.{contains-with_id, contains-with_run, contains-with_ids, contains-without_ids, in_run, in_run_tells, rising-without_ids}
use Rattle.std.proofs.lemmas.List.{get_or-set_same, get_or-set_other}
use Rattle.snap_nested.specs.Kept.{AreKept, Gathers}
use Rattle.snap_nested.specs.Members.{no_member, member, AreMembers, is_owned, with_owned, invalid_after_advance, members_after_enter, members_after_advance, members_after_close, members_after_apply, IsForgotten, global}
use Rattle.snap_nested.specs.declared.family.Member.{Member}
use Rattle.snap_nested.proofs.Keeping.{rising_owned, halves, only_owned}
use Rattle.snap_nested.proofs.Members.{any_member, owned_by, contains-with_owned, at_new, at_other, at_name, at_rest, at_gone, at_into, at_left}
use Rattle.snap_nested.proofs.Merging.{members_between, live_between, up_between, other_into, high, top}

-- An increasing list of owned ids.
pub kept_list : (ms : List Member) (xs : List ℕ) → IsRising xs
    → ((i : ℕ) → contains i xs ≡ true → is_owned ms i ≡ true) → with_owned ms [] xs ≡ xs
kept_list ms xs r owned = sym (only_owned ms xs xs r (λ i h. h) (λ i h o. h) owned)

pub kept_rising : (ms : List Member) → AreKept ms → (n : ℕ) → IsRising (member ms n).invalid
kept_rising ms k n = subst IsRising (k n) (rising_owned ms [] (member ms n).invalid tt)

pub kept_owned : (ms : List Member) → AreKept ms → (n i : ℕ) → contains i (member ms n).invalid ≡ true
    → is_owned ms i ≡ true
kept_owned ms k n i h = (halves (contains i (member ms n).invalid) (is_owned ms i)
    (sym (contains-with_owned ms [] (member ms n).invalid i) ∙ ap (λ (l : List ℕ). contains i l) (k n) ∙ h)).1

-- Where each id has an owner as before, the id is owned as before.
owned_still : (ms ns : List Member) (i : ℕ)
    → ((k : ℕ) → contains i (member ms k).ids ≡ true → is_owned ns i ≡ true) → is_owned ms i ≡ true
    → is_owned ns i ≡ true
owned_still ms ns i each h = let p = any_member (λ (m : Member). contains i m.ids) ms h in each p.0 p.1

sealed_rising : (ms : List Member) (m : Member) (handed : ℕ) → IsRising (invalid_after_advance ms m handed)
sealed_rising ms m handed = rising_owned ms [] (with_run (m.id + 1) ((handed + 1) - (m.id + 1)) m.invalid) tt

sealed_owned : (ms : List Member) (m : Member) (handed i : ℕ) → contains i (invalid_after_advance ms m handed) ≡ true
    → is_owned ms i ≡ true
sealed_owned ms m handed i h =
    let all : List ℕ = with_run (m.id + 1) ((handed + 1) - (m.id + 1)) m.invalid in
    (halves (contains i all) (is_owned ms i) (sym (contains-with_owned ms [] all i) ∙ h)).1

invalid_at : (ns : List Member) (n : ℕ) (m : Member) (i : ℕ) → member ns n ≡ m → contains i (member ns n).invalid ≡ true
    → contains i m.invalid ≡ true
invalid_at ns n m i same h = sym (ap (λ (x : Member). contains i x.invalid) same) ∙ h

ids_at : (ns : List Member) (n : ℕ) (m : Member) (i : ℕ) → member ns n ≡ m → contains i m.ids ≡ true
    → is_owned ns i ≡ true
ids_at ns n m i same h = owned_by ns n i (ap (λ (x : Member). contains i x.ids) same ∙ h)

-- The list is kept if the invalid ids of each member are.
pub kept_each : (ns : List Member) → ((n : ℕ) → (m : Member) × (member ns n ≡ m) × IsRising m.invalid
    × ((i : ℕ) → contains i m.invalid ≡ true → is_owned ns i ≡ true)) → AreKept ns
kept_each ns each n =
    let p = each n in
    kept_list ns (member ns n).invalid (subst (λ (m : Member). IsRising m.invalid) (sym p.1) p.2)
    (λ i h. p.3 i (invalid_at ns n p.0 i p.1 h))

module _ (ms : List Member) (handed parent : ℕ) (kind : Kind) (owner : ℕ) (a : AreMembers ms handed)
    (up : (member ms parent).is_live ≡ true) (k : AreKept ms) where
  abbrev next : List Member
  next = members_after_enter ms handed parent kind owner

  more_owned : (i : ℕ) → is_owned ms i ≡ true → is_owned next i ≡ true
  more_owned i h = owned_still ms next i (λ j own. elim (same_or_other j (length ms)) [
    | inl e ↦ absurd (none i (past i j e own))
    | inr e ↦ ids_at next j (member ms j) i (at_other ms handed parent kind owner a up j e) own
  ]) h where
    none : (i : ℕ) → contains i no_member.ids ≡ true → ⊥
    none i h = cc

    past : (i j : ℕ) → j ≡ length ms → contains i (member ms j).ids ≡ true → contains i no_member.ids ≡ true
    past i j e own = sym (ap (λ (m : Member). contains i m.ids) (at_end ms j e)) ∙ own where
      at_end : (ms : List Member) (j : ℕ) → j ≡ length ms → member ms j ≡ no_member
      at_end [] j e = refl
      at_end (m ∷ ms) zero e = absurd (omega (arith, e))
      at_end (m ∷ ms) (suc j) e = at_end ms j (omega (arith, e))

  pub kept_entered : AreKept next
  kept_entered = kept_each next (λ n. elim (same_or_other n (length ms)) [
    | inl e ↦ (
      member next (length ms),
      ap (λ (j : ℕ). member next j) e,
      subst (λ (m : Member). IsRising m.invalid) (sym (at_new ms handed parent kind owner a up))
          (sealed_rising ms (member ms parent) handed),
      λ i h. more_owned i (sealed_owned ms (member ms parent) handed i
          (sym (ap (λ (m : Member). contains i m.invalid) (at_new ms handed parent kind owner a up)) ∙ h)),
    )
    | inr e ↦ (
      member ms n,
      at_other ms handed parent kind owner a up n e,
      kept_rising ms k n,
      λ i h. more_owned i (kept_owned ms k n i h),
    )
  ])

module _ (ms : List Member) (handed name : ℕ) (a : AreMembers ms handed) (live : (member ms name).is_live ≡ true)
    (k : AreKept ms) where
  abbrev moved : List Member
  moved = members_after_advance ms handed name

  still_owned : (i : ℕ) → is_owned ms i ≡ true → is_owned moved i ≡ true
  still_owned i h = owned_still ms moved i (λ j own. elim (same_or_other j name) [
    | inl e ↦ owned_by moved name i (ap (λ (m : Member). contains i m.ids) (at_name ms handed name a live)
        ∙ contains-with_id i (handed + 1) (member ms name).ids
        ∙ or_left (contains i (member ms name).ids) (i == handed + 1)
        (subst (λ (n : ℕ). contains i (member ms n).ids ≡ true) e own))
    | inr e ↦ ids_at moved j (member ms j) i (at_rest ms handed name a live j e) own
  ]) h

  pub kept_advanced : AreKept moved
  kept_advanced = kept_each moved (λ n. elim (same_or_other n name) [
    | inl e ↦ (
      member moved name,
      ap (λ (j : ℕ). member moved j) e,
      subst (λ (m : Member). IsRising m.invalid) (sym (at_name ms handed name a live))
          (sealed_rising ms (member ms name) handed),
      λ i h. still_owned i (sealed_owned ms (member ms name) handed i
          (sym (ap (λ (m : Member). contains i m.invalid) (at_name ms handed name a live)) ∙ h)),
    )
    | inr e ↦ (
      member ms n,
      at_rest ms handed name a live n e,
      kept_rising ms k n,
      λ i h. still_owned i (kept_owned ms k n i h),
    )
  ])

module _ (ms : List Member) (name : ℕ) (there : name < length ms) (k : AreKept ms) where
  abbrev closed : Member
  closed = record (member ms name) { is_live = false; invalid = [] }

  abbrev shut : List Member
  shut = members_after_close ms name

  at_shut : member shut name ≡ closed
  at_shut = get_or-set_same ms name closed no_member there

  at_open : (n : ℕ) → n ≢ name → member shut n ≡ member ms n
  at_open n other = get_or-set_other ms name n closed no_member other

  shut_owned : (i : ℕ) → is_owned ms i ≡ true → is_owned shut i ≡ true
  shut_owned i h = owned_still ms shut i (λ j own. elim (same_or_other j name) [
    | inl e ↦ ids_at shut name closed i at_shut (subst (λ (n : ℕ). contains i (member ms n).ids ≡ true) e own)
    | inr e ↦ ids_at shut j (member ms j) i (at_open j e) own
  ]) h

  pub kept_closed : AreKept shut
  kept_closed = kept_each shut (λ n. elim (same_or_other n name) [
    | inl e ↦ (closed, ap (λ (j : ℕ). member shut j) e ∙ at_shut, tt, λ i h. absurd (none i h))
    | inr e ↦ (member ms n, at_open n e, kept_rising ms k n, λ i h. shut_owned i (kept_owned ms k n i h))
  ]) where
    none : (i : ℕ) → contains i [] ≡ true → ⊥
    none i h = cc

module _ (ms : List Member) (handed name into : ℕ) (a : AreMembers ms handed) (live : (member ms name).is_live ≡ true)
    (up : (member ms into).is_live ≡ true) (other_into : into ≢ name) (high : (member ms name).id ≤ (member ms into).id)
    (tops : (i : ℕ) → contains i (member ms name).ids ≡ true → i ≤ (member ms name).id) (k : AreKept ms) where
  abbrev joined : List Member
  joined = members_after_apply ms name into

  joined_into : (i : ℕ) → (contains i (member ms into).ids || contains i (member ms name).ids) ≡ true
      → is_owned joined i ≡ true
  joined_into i h = owned_by joined into i (ap (λ (m : Member). contains i m.ids)
      (at_into ms handed name into a live up other_into high tops)
      ∙ contains-with_ids i (member ms into).ids (member ms name).ids ∙ h)

  joined_owned : (i : ℕ) → is_owned ms i ≡ true → is_owned joined i ≡ true
  joined_owned i h = owned_still ms joined i (λ j own. elim (same_or_other j name) [
    | inl e ↦ joined_into i (or_right (contains i (member ms into).ids) (contains i (member ms name).ids)
        (subst (λ (n : ℕ). contains i (member ms n).ids ≡ true) e own))
    | inr e ↦ elim (same_or_other j into) [
      | inl d ↦ joined_into i (or_left (contains i (member ms into).ids) (contains i (member ms name).ids)
          (subst (λ (n : ℕ). contains i (member ms n).ids ≡ true) d own))
      | inr d ↦ ids_at joined j (member ms j) i
          (at_left ms handed name into a live up other_into high tops j e d) own
    ]
  ]) h

  pub kept_joined : AreKept joined
  kept_joined = kept_each joined (λ n. elim (same_or_other n name) [
    | inl e ↦ (
      member joined name,
      ap (λ (j : ℕ). member joined j) e,
      subst (λ (m : Member). IsRising m.invalid) (sym (at_gone ms handed name into a live up other_into high tops)) tt,
      λ i h. absurd (none i (sym (ap (λ (m : Member). contains i m.invalid)
          (at_gone ms handed name into a live up other_into high tops)) ∙ h)),
    )
    | inr e ↦ elim (same_or_other n into) [
      | inl d ↦ (
        member joined into,
        ap (λ (j : ℕ). member joined j) d,
        subst (λ (m : Member). IsRising m.invalid) (sym (at_into ms handed name into a live up other_into high tops))
            (rising-without_ids (member ms into).invalid (member ms name).ids (kept_rising ms k into)),
        λ i h. joined_owned i (kept_owned ms k into i (fewer i (sym (ap (λ (m : Member). contains i m.invalid)
            (at_into ms handed name into a live up other_into high tops)) ∙ h))),
      )
      | inr d ↦ (
        member ms n,
        at_left ms handed name into a live up other_into high tops n e d,
        kept_rising ms k n,
        λ i h. joined_owned i (kept_owned ms k n i h),
      )
    ]
  ]) where
    none : (i : ℕ) → contains i [] ≡ true → ⊥
    none i h = cc

    fewer : (i : ℕ) → contains i (without_ids (member ms into).invalid (member ms name).ids) ≡ true
        → contains i (member ms into).invalid ≡ true
    fewer i h = (and_seen (contains i (member ms into).invalid) (contains i (member ms name).ids)
        (sym (contains-without_ids i (member ms into).invalid (member ms name).ids) ∙ h)).0

module _ (ms ns : List Member) (name : ℕ) (gone : IsForgotten ms ns name) (k : AreKept ms) where
  abbrev own : List ℕ
  own = (member ms name).ids

  forgotten_owned : (i : ℕ) → contains i own ≡ false → is_owned ms i ≡ true → is_owned ns i ≡ true
  forgotten_owned i out h = owned_still ms ns i (λ j has. elim (same_or_other j name) [
    | inl e ↦ absurd (not_both (contains i own) (subst (λ (n : ℕ). contains i (member ms n).ids ≡ true) e has) out)
    | inr e ↦ owned_by ns j i (ap (λ (m : Member). contains i m.ids) (gone.others j e) ∙ has)
  ]) h

  rest_owned : (n i : ℕ) → contains i (without_ids (member ms n).invalid own) ≡ true → is_owned ns i ≡ true
  rest_owned n i h =
      let p = and_seen (contains i (member ms n).invalid) (contains i own)
      (sym (contains-without_ids i (member ms n).invalid own) ∙ h) in
      forgotten_owned i p.1 (kept_owned ms k n i p.0)

  pub kept_forgotten : AreKept ns
  kept_forgotten = kept_each ns (λ n. elim (same_or_other n name) [
    | inl e ↦ (
      member ns name,
      ap (λ (j : ℕ). member ns j) e,
      subst (λ (m : Member). IsRising m.invalid) (sym gone.here) tt,
      λ i h. absurd (nothing i (sym (ap (λ (m : Member). contains i m.invalid) gone.here) ∙ h)),
    )
    | inr e ↦ (
      member ns n,
      refl,
      subst (λ (m : Member). IsRising m.invalid) (sym (gone.others n e))
          (rising-without_ids (member ms n).invalid own (kept_rising ms k n)),
      λ i h. rest_owned n i (sym (ap (λ (m : Member). contains i m.invalid) (gone.others n e)) ∙ h),
    )
  ]) where
    nothing : (i : ℕ) → contains i [] ≡ true → ⊥
    nothing i h = cc

pub kept_start : AreKept (global ∷ [])
kept_start zero = refl
kept_start (suc n) = refl

pub owned_handed : {ms : List Member} {handed : ℕ} → AreMembers ms handed → (i : ℕ) → is_owned ms i ≡ true → i ≤ handed
owned_handed {ms} a i h = let p = any_member (λ (m : Member). contains i m.ids) ms h in (a.sound.owned p.0 i p.1).1

-- With the owned ids after its current one gathered, the invalid ids of a member are those that it has after an
-- advance.
pub gathered : (ms : List Member) (n handed : ℕ) (xs : List ℕ) → AreMembers ms handed → AreKept ms
    → (member ms n).id ≤ handed
    → Gathers (λ i. ((member ms n).id < i) × (is_owned ms i ≡ true)) (member ms n).invalid xs
    → xs ≡ invalid_after_advance ms (member ms n) handed
gathered ms n handed xs a k low g = only_owned ms xs all g.rising fewer kept owned where
  m : Member
  m = member ms n

  all : List ℕ
  all = with_run (m.id + 1) ((handed + 1) - (m.id + 1)) m.invalid

  fewer : (i : ℕ) → contains i xs ≡ true → contains i all ≡ true
  fewer i h = contains-with_run i (m.id + 1) ((handed + 1) - (m.id + 1)) m.invalid ∙ elim (g.only i h) [
    | inl e ↦ or_left (contains i m.invalid) (in_run (m.id + 1) ((handed + 1) - (m.id + 1)) i) e
    | inr e ↦ or_right (contains i m.invalid) (in_run (m.id + 1) ((handed + 1) - (m.id + 1)) i)
        (elim (in_run_tells (m.id + 1) ((handed + 1) - (m.id + 1)) i) [
          | inl r ↦ r.0
          | inr r ↦ absurd (elim (r.1) [
            | inl q ↦ omega (arith, q, e.0)
            | inr q ↦ omega (arith, q, owned_handed a i e.1, low)
          ])
        ])
  ]

  kept : (i : ℕ) → contains i all ≡ true → is_owned ms i ≡ true → contains i xs ≡ true
  kept i h o = elim (or_true (contains i m.invalid) (in_run (m.id + 1) ((handed + 1) - (m.id + 1)) i)
      (sym (contains-with_run i (m.id + 1) ((handed + 1) - (m.id + 1)) m.invalid) ∙ h)) [
        | inl e ↦ g.more i e
        | inr e ↦ elim (in_run_tells (m.id + 1) ((handed + 1) - (m.id + 1)) i) [
          | inl r ↦ g.each i (omega (arith, r.1), o)
          | inr r ↦ absurd (not_both (in_run (m.id + 1) ((handed + 1) - (m.id + 1)) i) e r.0)
        ]
      ]

  owned : (i : ℕ) → contains i xs ≡ true → is_owned ms i ≡ true
  owned i h = elim (g.only i h) [ inl e ↦ kept_owned ms k n i e | inr e ↦ e.1 ]

-- A merge is an advance and then an apply.
pub kept_merged : (ms : List Member) (handed name into : ℕ) (a : AreMembers ms handed)
    (live : (member ms name).is_live ≡ true) (inner : 0 < name) (parent : (member ms name).parent ≡ into)
    (up : (member ms into).is_live ≡ true) → AreKept ms
    → AreKept (members_after_apply (members_after_advance ms handed into) name into)
kept_merged ms handed name into a live inner parent up k =
    kept_joined (members_after_advance ms handed into) (handed + 1) name into
    (members_between ms handed name into a live inner parent up) (live_between ms handed name into a live inner parent up)
    (up_between ms handed name into a live inner parent up) (other_into ms handed name into a live inner parent up)
    (high ms handed name into a live inner parent up) (top ms handed name into a live inner parent up)
    (kept_advanced ms handed into a up k)

pub start_rising : (ms : List Member) (n : ℕ) (m : Member) (xs : List ℕ) → AreKept ms → member ms n ≡ m
    → xs ≡ m.invalid → IsRising xs
start_rising ms n m xs k same is =
    subst IsRising (sym (is ∙ sym (ap (λ (l : Member). l.invalid) same))) (kept_rising ms k n)

pub gathered_from : (ms : List Member) (n handed : ℕ) (m : Member) (xs zs : List ℕ) → AreMembers ms handed
    → AreKept ms → (member ms n).id ≤ handed → member ms n ≡ m → xs ≡ m.invalid
    → Gathers (λ i. (m.id < i) × (is_owned ms i ≡ true)) xs zs → zs ≡ invalid_after_advance ms (member ms n) handed
gathered_from ms n handed m xs zs a k low same is g = gathered ms n handed zs a k low
    (subst (λ (l : Member). Gathers (λ i. (l.id < i) × (is_owned ms i ≡ true)) l.invalid zs) (sym same)
    (subst (λ (l : List ℕ). Gathers (λ i. (m.id < i) × (is_owned ms i ≡ true)) l zs) is g))

-- No member has an id that was not handed out yet.
pub none_new : (ms : List Member) (from handed : ℕ) (xs : List ℕ) → AreMembers ms handed → handed ≤ from → IsRising xs
    → Gathers (λ i. (from < i) × (is_owned ms i ≡ true)) xs xs
none_new ms from handed xs a past r = record {
  rising = r;
  more = λ i h. h;
  only = λ i h. inl h;
  each = λ i w. let p = any_member (λ (m : Member). contains i m.ids) ms w.1 in
      absurd (omega (arith, w.0, past, (a.sound.owned p.0 i p.1).1));
}
