-- A record that replaces a record outside the kept ids, and the records that readers read.
use Rattle.std.proofs.Common.{◌≡◌, ◌≢◌, ℕ, suc, ◌==◌, ◌<◌, List, [], ◌∷◌, length, map, refl, sym, ap, ◌∙◌, subst, Option, Some, None, Bool, true, false, not, cond, arith, ◌⊎◌, inl, inr}
use Rattle.std.proofs.lemmas.Bool.Decides.{Decides-eqb}
use Rattle.std.specs.Prelude.{slice_get}
use Rattle.rt_values.specs.Maps.{contains}
use Rattle.rt_values.specs.declared.maps.StampedValue.{StampedValue}
use Rattle.snap_ids.proofs.Booleans.{same_or_other, not_both, not_true, or_left, or_right}
use Rattle.snap_records.specs.Records.{Rec, AreApart, Reads, Puts, Drops}
use Rattle.snap_records.specs.Edits.{readable, record_with_ids}
use Rattle.snap_records.specs.Chains.{record_at, chain_of, Replaces, Prepends, KeepsAll, FoundRecord, HasNone}
use Rattle.snap_records.specs.declared.chains.Chains.{Chains}
use Rattle.snap_records.proofs.Edits.{overwritten, drops_unkept, not_false}
use Rattle.snap_records.proofs.Putting.{rec_there, key_there, put_over, put_front}
use Rattle.snap_records.proofs.Readable.{Finds, finds}
use Rattle.snap_reuse.specs.Readers.{has_id, is_unkept, IsReadWithin, PutsKeeping}

unkept_own : (kept : List ℕ) (id i : ℕ) → is_unkept kept id i ≡ false → (i == id) ≡ false
unkept_own kept id i h =
    not_true (i == id) (λ t. not_both (is_unkept kept id i) (or_left (i == id) (not (contains i kept)) t) h)

unkept_other : (kept : List ℕ) (id i : ℕ) → is_unkept kept id i ≡ false → not (contains i kept) ≡ false
unkept_other kept id i h = not_true (not (contains i kept))
    (λ t. not_both (is_unkept kept id i) (or_right (i == id) (not (contains i kept)) t) h)

-- Records get id 0, and then a record is put into the chain.
drops_puts : {a b c : List Rec} {q : Rec} {d g j : ℕ → Bool} → Drops a b d → Puts b c q g
    → ((i : ℕ) → 0 < i → j i ≡ false → (d i ≡ false) × (g i ≡ false)) → Puts a c q j
drops_puts drop put safe = record {
  here = put.here;
  from = λ p there pos. elim (put.from p there pos) [ inl e ↦ inl e | inr h ↦ inr (drop.from p h pos) ];
  kept = λ p there pos stays. put.kept p (drop.kept p there pos (safe p.id pos stays).0) pos (safe p.id pos stays).1;
  apart = put.apart;
}

module _ (old between new : Chains) (x : ℕ) (q : Rec) (kept : List ℕ) (apart : AreApart (chain_of old x))
    (positive : 0 < q.id) (own : contains q.id kept ≡ true) (keeps : KeepsAll old between kept x) where
  drops : Drops (chain_of old x) (chain_of between x) (λ i. not (contains i kept))
  drops = subst (λ (c : List Rec). Drops (chain_of old x) c (λ i. not (contains i kept))) (sym keeps.here)
      (drops_unkept (chain_of old x) kept apart)

  keeping : (g : ℕ → Bool) → ((i : ℕ) → 0 < i → (i == q.id) ≡ false → g i ≡ false)
      → Puts (chain_of between x) (chain_of new x) q g → PutsKeeping (chain_of old x) (chain_of new x) q kept
  keeping g safe put = record {
    put = drops_puts drops put (λ i pos h. (unkept_other kept q.id i h, safe i pos (unkept_own kept q.id i h)));
    swept = λ p there pos. elim (put.from p there pos) [
      | inl e ↦ ap (λ (t : Rec). contains t.id kept) e ∙ own
      | inr h ↦ not_false (contains p.id kept) (drops.without p h pos)
    ];
  }

  -- The new record replaces a record.
  pub puts_over : (r : ℕ) → FoundRecord between x q.id r ⊎ (HasNone between x q.id × FoundRecord between x 0 r)
      → Replaces between new r q → length new.heads.items ≡ length between.heads.items
      → PutsKeeping (chain_of old x) (chain_of new x) q kept
  puts_over r (inl f) replaces many =
      keeping (λ i. i == q.id) (λ i pos h. h) (put_over between new x r q positive drops.apart f replaces many).put
  puts_over r (inr f) replaces many = keeping (λ i. i == (record_at between r).id)
      (λ i pos h. not_true (i == (record_at between r).id)
      (λ t. omega (arith, pos, (Decides-eqb i (record_at between r).id).0 t, f.1.same)))
      (subst (λ (c : List Rec). Puts (chain_of between x) c q (λ i. i == (record_at between r).id))
      (sym (replaces.here x f.1.at f.1.key))
      (overwritten (chain_of between x) f.1.at q (record_at between r) (rec_there between x f.1.at r f.1.key)
      drops.apart (λ p j there other pos same.
      let k = key_there between x j p there in
      f.0 j k.key k.there (ap (λ (s : Rec). s.id) k.is ∙ same))))

  -- The new record is put at the head.
  pub puts_front : (r : ℕ) → HasNone between x q.id → Prepends between new x r q
      → length new.heads.items ≡ length between.heads.items → PutsKeeping (chain_of old x) (chain_of new x) q kept
  puts_front r none p many =
      keeping (λ i. i == q.id) (λ i pos h. h) (put_front between new x r q drops.apart none p many).put

-- If no record got id 0, each record was kept.
all_kept : (ids : List ℕ) (c : List Rec)
    → ((k : ℕ) (p : Rec) → slice_get (map (record_with_ids ids) c) k ≡ Some p → p.id ≢ 0)
    → map (record_with_ids ids) c ≡ c
all_kept ids [] none = refl
all_kept ids (r ∷ c) none = ap (λ (p : Rec). p ∷ map (record_with_ids ids) c)
    (one (contains r.id ids) (none 0 (record_with_ids ids r) refl))
    ∙ ap (λ (l : List Rec). r ∷ l) (all_kept ids c (λ k p there. none (suc k) p there)) where
      one : (b : Bool) → (cond b r (record r { id = 0 })).id ≢ 0 → cond b r (record r { id = 0 }) ≡ r
      one true h = refl
      one false h = absurd (h refl)

pub kept_as_before : (old between : Chains) (x : ℕ) (kept : List ℕ) → KeepsAll old between kept x → HasNone between x 0
    → (y : ℕ) → chain_of between y ≡ chain_of old y
kept_as_before old between x kept keeps none y = elim (same_or_other y x) [
  | inl e ↦ subst (λ (z : ℕ). chain_of between z ≡ chain_of old z) (sym e)
      (keeps.here ∙ all_kept kept (chain_of old x) (λ k p there.
      let key = key_there between x k p (ap (λ (c : List Rec). slice_get c k) keeps.here ∙ there) in
      λ blank. none k key.key key.there (ap (λ (s : Rec). s.id) key.is ∙ blank)))
  | inr other ↦ keeps.others y other
]

-- A reader reads a record with the id of the readable record.
pub reads_id : (sees : ℕ → Bool) (c : List Rec) (e : StampedValue) (h : Reads sees c e)
    → has_id h.rec.id (readable sees c) ≡ true
reads_id sees c e h = of (readable sees c) (finds sees c) where
  of : (o : Option Rec) → Finds sees c o → has_id h.rec.id o ≡ true
  of None f = absurd (not_both (sees h.rec.id) h.valid (f h.rec h.there))
  of (Some q) f = (Decides-eqb q.id h.rec.id).1 (omega (arith, f.3 h.rec h.there h.valid, h.top q f.1 f.2))

-- The id of the record that a reader reads is in the list.
pub read_within : (sees : ℕ → Bool) (c : List Rec) (ids : List ℕ) (e : StampedValue) → IsReadWithin sees c ids
    → (h : Reads sees c e) → contains h.rec.id ids ≡ true
read_within sees c ids e within h = within h.rec.id (reads_id sees c e h)
