-- The search for the unread record with the lowest id, step by step.
use Rattle.std.proofs.Common.{◌≡◌, ℕ, ◌+◌, List, sym, ap, ◌∙◌, subst, Option, Some, None, Bool, true, false, not, cond, arith, inl, inr}
use Rattle.std.proofs.lemmas.Bool.Decides.{leb_tells}
use Rattle.std.specs.Prelude.{slice_get}
use Rattle.snap_ids.proofs.Booleans.{same_or_other, not_both}
use Rattle.snap_records.specs.Chains.{record_at, keys_at, chain_of}
use Rattle.snap_records.specs.declared.chains.Chains.{Chains}
use Rattle.snap_records.specs.declared.slots.RecordNo.{RecordNo}
use Rattle.snap_reuse.specs.Readers.{is_read, lower_record, IsLowestUnread}
use Rattle.snap_reuse.specs.declared.readers.RecordReader.{RecordReader}

module _ (c : Chains) (x : ℕ) (readers : List RecordReader) (n : ℕ) (r : RecordNo)
    (key : slice_get (keys_at c x) n ≡ Some r.0) where
  here : (k q : ℕ) → k ≡ n → slice_get (keys_at c x) k ≡ Some q → r.0 ≡ q
  here k q e is = same (sym key ∙ ap (λ (i : ℕ). slice_get (keys_at c x) i) (sym e) ∙ is) where
    same : Some r.0 ≡ Some q → r.0 ≡ q
    same h = cc

  -- The step on a record that a reader reads.
  pub lowest_read : (best : Option RecordNo) → is_read (chain_of c x) (record_at c r.0).id readers ≡ true
      → IsLowestUnread c x readers n best → IsLowestUnread c x readers (n + 1) best
  lowest_read None read all = λ k q below is. elim (same_or_other k n) [
    | inl e ↦ ap (λ (i : ℕ). is_read (chain_of c x) (record_at c i).id readers) (sym (here k q e is)) ∙ read
    | inr e ↦ all k q (omega (arith, below, e)) is
  ]
  lowest_read (Some b) read l = record {
    at = l.at;
    below = omega (arith, l.below);
    key = l.key;
    unread = l.unread;
    lowest = λ k q below is unread. elim (same_or_other k n) [
      | inl e ↦ absurd (not_both (is_read (chain_of c x) (record_at c q).id readers)
          (ap (λ (i : ℕ). is_read (chain_of c x) (record_at c i).id readers) (sym (here k q e is)) ∙ read) unread)
      | inr e ↦ l.lowest k q (omega (arith, below, e)) is unread
    ];
  }

  -- The step on a record that no reader reads.
  pub lowest_new : (best : Option RecordNo) → is_read (chain_of c x) (record_at c r.0).id readers ≡ false
      → IsLowestUnread c x readers n best → IsLowestUnread c x readers (n + 1) (lower_record c r best true)
  lowest_new None free all = record {
    at = n;
    below = omega arith;
    key = key;
    unread = free;
    lowest = λ k q below is unread. elim (same_or_other k n) [
      | inl e ↦ let same = here k q e is in omega (arith, ap (λ (i : ℕ). (record_at c i).id) same)
      | inr e ↦ absurd (not_both (is_read (chain_of c x) (record_at c q).id readers)
          (all k q (omega (arith, below, e)) is) unread)
    ];
  }
  lowest_new (Some b) free l = elim (leb_tells (record_at c b.0).id (record_at c r.0).id) [
    | inl h ↦ subst (λ (t : Bool). IsLowestUnread c x readers (n + 1) (cond t (Some b) (Some r))) (sym h.0) (record {
      at = l.at;
      below = omega (arith, l.below);
      key = l.key;
      unread = l.unread;
      lowest = λ k q below is unread. elim (same_or_other k n) [
        | inl e ↦ let same = here k q e is in omega (arith, h.1, ap (λ (i : ℕ). (record_at c i).id) same)
        | inr e ↦ l.lowest k q (omega (arith, below, e)) is unread
      ];
    })
    | inr h ↦ subst (λ (t : Bool). IsLowestUnread c x readers (n + 1) (cond t (Some b) (Some r))) (sym h.0) (record {
      at = n;
      below = omega arith;
      key = key;
      unread = free;
      lowest = λ k q below is unread. elim (same_or_other k n) [
        | inl e ↦ let same = here k q e is in omega (arith, ap (λ (i : ℕ). (record_at c i).id) same)
        | inr e ↦ let low = l.lowest k q (omega (arith, below, e)) is unread in omega (arith, h.1, low)
      ];
    })
  ]

-- The step on any record.
pub lowest_more : (c : Chains) (x : ℕ) (readers : List RecordReader) (n : ℕ) (r : RecordNo) (best : Option RecordNo)
    (b : Bool) → slice_get (keys_at c x) n ≡ Some r.0 → b ≡ not (is_read (chain_of c x) (record_at c r.0).id readers) →
    IsLowestUnread c x readers n best → IsLowestUnread c x readers (n + 1) (lower_record c r best b)
lowest_more c x readers n r best true key is l =
    lowest_new c x readers n r key best (unread (is_read (chain_of c x) (record_at c r.0).id readers) is) l where
      unread : (t : Bool) → true ≡ not t → t ≡ false
      unread true h = absurd cc
      unread false h = cc
lowest_more c x readers n r best false key is l =
    lowest_read c x readers n r key best (read (is_read (chain_of c x) (record_at c r.0).id readers) is) l where
      read : (t : Bool) → false ≡ not t → t ≡ true
      read true h = cc
      read false h = absurd cc
