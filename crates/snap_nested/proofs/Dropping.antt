-- Unused ids lose their owners, and the rules of ids stay.
use Rattle.std.proofs.Common.{◌≡◌, ℕ, ◌<◌, List, length, refl, sym, ap, ◌∙◌, subst, Bool, true, false, not, ◌&&◌, arith, nat_lt}
use Rattle.std.specs.Prelude.{nat_le}
use Rattle.rt_values.specs.Maps.{contains}
use Rattle.snap_ids.specs.IdLists.{IsRising, without_ids, is_valid}
use Rattle.snap_ids.proofs.Booleans.{and_seen, and_alone, and_like}
use Rattle.snap_ids.proofs.IdLists.{contains-without_ids, rising-without_ids}
use Rattle.snap_nested.specs.Ids.{Ids, IsSound, valid_for_base}
use Rattle.snap_nested.specs.Kept.{AreKept}
use Rattle.snap_nested.specs.Members.{member, ids_of, AreMembers, AreOpen, is_owned}
use Rattle.snap_nested.specs.Unused.{LosesOwners, without_unused}
use Rattle.snap_nested.specs.declared.family.Member.{Member}
use Rattle.snap_nested.proofs.Members.{any_member, owned_by}
use Rattle.snap_nested.proofs.Kept.{kept_rising, kept_owned, kept_each}

module _ {f g : Ids} {handed : ℕ} {unused : ℕ → Bool} (a : LosesOwners f g unused) (s : IsSound f handed)
    (root : unused 1 ≡ false) (first : (n i : ℕ) → f.owns n i ≡ true → unused (f.first n) ≡ false)
    (current : (n : ℕ) → f.live n ≡ true → unused (f.current n) ≡ false) where
  was : (n : ℕ) → g.live n ≡ true → f.live n ≡ true
  was n live = sym (a.live n) ∙ live

  owned : (n i : ℕ) → g.owns n i ≡ true → (f.owns n i ≡ true) × (unused i ≡ false)
  owned n i own = and_seen (f.owns n i) (unused i) (sym (a.owns n i) ∙ own)

  same_own : (n i : ℕ) → unused i ≡ false → g.owns n i ≡ f.owns n i
  same_own n i used = a.owns n i ∙ and_alone (f.owns n i) (unused i) used

  used_first : (n : ℕ) → f.live n ≡ true → unused (f.first n) ≡ false
  used_first n live = first n (f.current n) (s.current_own n live)

  to_first : (n m : ℕ) → unused (f.first n) ≡ false → f.sees m (f.first n) ≡ true → g.sees m (g.first n) ≡ true
  to_first n m used seen =
      subst (λ (j : ℕ). g.sees m j ≡ true) (sym (a.first n)) (a.sees m (f.first n) used ∙ seen)

  from_first : (n m : ℕ) → unused (f.first n) ≡ false → g.sees m (g.first n) ≡ true → f.sees m (f.first n) ≡ true
  from_first n m used seen =
      sym (a.sees m (f.first n) used) ∙ subst (λ (j : ℕ). g.sees m j ≡ true) (a.first n) seen

  nested_at : (n m p : ℕ) → p ≡ f.parent n → f.live n ≡ true → f.live p ≡ true → f.live m ≡ true
      → g.sees m (g.first n) ≡ true → g.sees m (g.first p) ≡ true
  nested_at n m p is live up live_m seen =
      let step = s.nested n m live (subst (λ (q : ℕ). f.live q ≡ true) is up) live_m
      (from_first n m (used_first n live) seen) in
      to_first p m (used_first p up) (subst (λ (q : ℕ). f.sees m (f.first q) ≡ true) (sym is) step)

  child_at : (n k i p : ℕ) → p ≡ f.parent n → f.live n ≡ true → 0 < n → f.live p ≡ true → g.owns k i ≡ true
      → g.owns p i ≡ false → valid_for_base g n i ≡ g.sees p i
  child_at n k i p is live inner up own other =
      let o = owned k i own in
      let not_parents : f.owns p i ≡ false = sym (same_own p i o.1) ∙ other in
      let before = s.child n k i live inner (subst (λ (q : ℕ). f.live q ≡ true) is up) o.0
      (subst (λ (q : ℕ). f.owns q i ≡ false) is not_parents) in
      and_like (g.sees n i) (f.sees n i) (g.owns n i) (f.owns n i) (a.sees n i o.1) (same_own n i o.1)
      ∙ subst (λ (q : ℕ). valid_for_base f n i ≡ f.sees q i) (sym is) before ∙ sym (a.sees p i o.1)

  pub sound_lost : IsSound g handed
  sound_lost = record {
    owned = λ n i own. s.owned n i (owned n i own).0;
    apart = λ n m i one two. s.apart n m i (owned n i one).0 (owned m i two).0;
    first_own = λ n i own.
        let o = (owned n i own).0 in
        subst (λ (j : ℕ). g.owns n j ≡ true) (sym (a.first n))
        (same_own n (f.first n) (first n i o) ∙ s.first_own n i o);
    current_own = λ n live. subst (λ (j : ℕ). g.owns n j ≡ true) (sym (a.current n))
        (same_own n (f.current n) (current n (was n live)) ∙ s.current_own n (was n live));
    own_seen = λ n i live own.
        let o = owned n i own in a.sees n i o.1 ∙ s.own_seen n i (was n live) o.0;
    below = λ n m i live own seen.
        let o = owned n i own in
        to_first n m (first n i o.0) (s.below n m i (was m live) o.0 (sym (a.sees m i o.1) ∙ seen));
    nested = λ n m live up live_m seen. nested_at n m (g.parent n) (a.parent n) (was n live) (was (g.parent n) up)
        (was m live_m) seen;
    above = λ n live inner same. s.above n (was n live) inner (sym (a.parent n) ∙ same);
    child = λ n k i live inner up own other. child_at n k i (g.parent n) (a.parent n) (was n live) inner
        (was (g.parent n) up) own other;
    global = a.live 0 ∙ s.global;
    root = same_own 0 1 root ∙ s.root;
    root_seen = λ m live. a.sees m 1 root ∙ s.root_seen m (was m live);
  }

module _ (d os : List ℕ) (ms ns : List Member) (count : length ns ≡ length ms)
    (each : (n : ℕ) → member ns n ≡ without_unused d (member ms n)) where
  pub losses : LosesOwners (ids_of ms) (ids_of ns) (λ i. contains i d)
  losses = record {
    live = λ n. ap (λ (m : Member). m.is_live) (each n);
    parent = λ n. ap (λ (m : Member). m.parent) (each n);
    first = λ n. ap (λ (m : Member). m.first) (each n);
    current = λ n. ap (λ (m : Member). m.id) (each n);
    owns = λ n i. ap (λ (m : Member). contains i m.ids) (each n) ∙ contains-without_ids i (member ms n).ids d;
    sees = λ n i used. ap (λ (m : Member). is_valid m.id m.invalid i) (each n)
        ∙ ap (λ b. nat_lt 0 i && (nat_le i (member ms n).id && not b))
        (contains-without_ids i (member ms n).invalid d ∙ and_alone (contains i (member ms n).invalid) (contains i d)
        used);
  }

  fewer : (n i : ℕ) → contains i (member ns n).invalid ≡ true
      → (contains i (member ms n).invalid ≡ true) × (contains i d ≡ false)
  fewer n i h = and_seen (contains i (member ms n).invalid) (contains i d)
      (sym (ap (λ (m : Member). contains i m.invalid) (each n) ∙ contains-without_ids i (member ms n).invalid d) ∙ h)

  pub members_lost : {handed : ℕ} → AreMembers ms handed → contains 1 d ≡ false
      → ((n i : ℕ) → contains i (member ms n).ids ≡ true → contains (member ms n).first d ≡ false)
      → ((n : ℕ) → (member ms n).is_live ≡ true → contains (member ms n).id d ≡ false) → AreMembers ns handed
  members_lost a root first current = record {
    sound = sound_lost losses a.sound root first current;
    barred = λ n i h. a.barred n i (fewer n i h).0;
    named = λ n. omega (arith, ap (λ (m : Member). m.parent) (each n), a.named n, count);
  }

  pub open_lost : AreOpen os ms → AreOpen os ns
  open_lost o = record {
    live = λ n h. o.live n (sym (ap (λ (m : Member). m.is_live) (each n)) ∙ h);
    kept = λ n i h. o.kept n i (and_seen (contains i (member ms n).ids) (contains i d)
        (sym (ap (λ (m : Member). contains i m.ids) (each n) ∙ contains-without_ids i (member ms n).ids d) ∙ h)).0;
    within = λ n h. omega (arith, o.within n h, count);
    shut = λ n h. ap (λ (m : Member). m.invalid) (each n)
        ∙ ap (λ (l : List ℕ). without_ids l d) (o.shut n (sym (ap (λ (m : Member). m.is_live) (each n)) ∙ h));
  }

  still_owned : (i : ℕ) → contains i d ≡ false → is_owned ms i ≡ true → is_owned ns i ≡ true
  still_owned i used h =
      let p = any_member (λ (m : Member). contains i m.ids) ms h in
      owned_by ns p.0 i (ap (λ (m : Member). contains i m.ids) (each p.0)
      ∙ contains-without_ids i (member ms p.0).ids d ∙ and_alone (contains i (member ms p.0).ids) (contains i d) used
      ∙ p.1)

  pub kept_lost : AreKept ms → AreKept ns
  kept_lost k = kept_each ns (λ n. (
    member ns n,
    refl,
    subst (λ (m : Member). IsRising m.invalid) (sym (each n))
        (rising-without_ids (member ms n).invalid d (kept_rising ms k n)),
    λ i h. let p = fewer n i h in still_owned i p.1 (kept_owned ms k n i p.0),
  ))
