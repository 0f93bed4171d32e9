-- The ids of blocks by the bits of a number, and how they change with one block.
use Rattle.std.proofs.Common.{◌≡◌, ◌≢◌, ℕ, zero, suc, ◌+◌, ◌-◌, ◌*◌, ◌/◌, ◌%◌, ◌^◌, ◌==◌, ◌<◌, ◌≤◌, nat_lt, List, [], ◌∷◌, ◌++◌, length, refl, sym, ap, subst, ◌∙◌, Bool, true, false, not, ◌&&◌, ◌||◌, cond, arith, ◌⊎◌, inl, inr, drop, bit_and, bit_or}
use Rattle.std.specs.Int.{bit_at, w64, trailing_zeros}
use Rattle.std.specs.Int.Bits.{or_zero_l}
use Rattle.std.proofs.lemmas.List.{drop_more, append-nil}
use Rattle.std.specs.Prelude.{slice_index_or, slice_set, insert, min, filter, Option, Some, None}
use Rattle.std.proofs.lemmas.Bool.Decides.{Decides-eqb, eqb_tells, leb_tells}
use Rattle.std.proofs.lemmas.Nat.{le_or_r, one_shl}
use Rattle.std.proofs.lemmas.Nat.Bits.{bit_at-zero, bit_at-lt, bit_at_or, bit_at_and, bit_at_not, bit_at-pow_same, bit_at-pow_other}
use Rattle.std.proofs.lemmas.Bool.{and_from as and_two, and_parts as and_one}
use Rattle.rt_values.specs.Maps.{contains}
use Rattle.snap_ids.specs.IdLists.{IsRising, with_id, without_id, with_ids, without_ids}
use Rattle.snap_ids.specs.IdWindows.{window, AllBelow, IsLeastFrom}
use Rattle.snap_ids.specs.IdBlocks.{block_ids, numbers, bits_of, cleared, with_block, has_bits, AreFull, AreInRange, AreBlocks}
use Rattle.snap_ids.specs.declared.blocks.Block.{Block}
use Rattle.snap_ids.proofs.Booleans.{not_true, not_both, or_left, or_right, or_none, and_alone}
use Rattle.snap_ids.proofs.IdLists.{or_cases, contains-at, contains-one, found_at, contains-with_id, contains-with_ids, contains-without_ids, none_removed, rising-with_id, rising-with_ids, rising-without_ids}
use Rattle.snap_ids.proofs.Members.{same_rising, append_has, append_has_left, append_has_right, append_cases, rising_append, has_head, has_tail, none_at}
use Rattle.snap_ids.proofs.Windows.{window_has, window_of, rising_window, window_zero}
use Rattle.snap_ids.proofs.LeastIds.{found_from, least_lower}
use Rattle.rt_values.proofs.TextPrefixes.{same_truths as same_truth}

-- ---- Numbers, and the bits of a number.
pub length_numbers : (bs : List Block) → length (numbers bs) ≡ length bs
length_numbers [] = refl
length_numbers (b ∷ bs) = ap suc (length_numbers bs)

pub number_at : (bs : List Block) (j : ℕ) (d : Block) → j < length bs
    → slice_index_or (numbers bs) j 0 ≡ (slice_index_or bs j d).number
number_at [] j d h = absurd (omega (arith, h))
number_at (b ∷ bs) zero d h = refl
number_at (b ∷ bs) (suc j) d h = number_at bs j d (omega (arith, h))

has_number : (bs : List Block) (j : ℕ) (d : Block) → j < length bs
    → contains (slice_index_or bs j d).number (numbers bs) ≡ true
has_number bs j d h = subst (λ (n : ℕ). contains n (numbers bs) ≡ true) (number_at bs j d h)
    (contains-at (numbers bs) j (omega (arith, h, length_numbers bs)))

absent : (n : ℕ) (bs : List Block) → ((m : ℕ) → contains m (numbers bs) ≡ true → n < m)
    → contains n (numbers bs) ≡ false
absent n bs above = not_true (contains n (numbers bs)) (λ h. omega (arith, above n h))

other_number : (m n : ℕ) → m < n → (m == n) ≡ false
other_number m n low = elim (eqb_tells m n) [ inl e ↦ absurd (omega (arith, e.1, low)) | inr e ↦ e.0 ]

same_number : (n : ℕ) → (n == n) ≡ true
same_number n = (Decides-eqb n n).1 refl

pub number_small : (bs : List Block) (at : ℕ) (d : Block) → AreInRange bs → at < length bs
    → (slice_index_or bs at d).number < 2 ^ 58
number_small bs at d range within = range (slice_index_or bs at d).number (has_number bs at d within)

pub bits_none : (bs : List Block) (n : ℕ) → contains n (numbers bs) ≡ false → bits_of bs n ≡ 0
bits_none [] n h = refl
bits_none (b ∷ bs) n h = of (b.number == n) h (bits_none bs n) where
  of : (t : Bool) → (t || contains n (numbers bs)) ≡ false → (contains n (numbers bs) ≡ false → bits_of bs n ≡ 0)
      → cond t b.bits (bits_of bs n) ≡ 0
  of true k later = absurd cc
  of false k later = later k

pub bits_found : (bs : List Block) (j : ℕ) (d : Block) → IsRising (numbers bs) → j < length bs
    → bits_of bs (slice_index_or bs j d).number ≡ (slice_index_or bs j d).bits
bits_found [] j d r h = absurd (omega (arith, h))
bits_found (b ∷ bs) zero d r h = ap (λ t. cond t b.bits (bits_of bs b.number)) (same_number b.number)
bits_found (b ∷ bs) (suc j) d r h =
    let within : j < length bs = omega (arith, h) in
    let c = slice_index_or bs j d in
    ap (λ t. cond t b.bits (bits_of bs c.number)) (other_number b.number c.number (r.0 c.number (has_number bs j d within)))
    ∙ bits_found bs j d r.1 within

in_block : (n bits i : ℕ) → contains i (window 64 (64 * n) bits) ≡ ((n == i / 64) && (bit_at bits (i % 64) == 1))
in_block n bits i = same_truth (contains i (window 64 (64 * n) bits)) ((n == i / 64) && (bit_at bits (i % 64) == 1))
    (λ h.
    let w = window_has 64 (64 * n) bits i h in
    let number : n ≡ i / 64 = omega (arith, w.low, w.high) in
    let place : i % 64 ≡ i - 64 * n = omega (arith, w.low, w.high) in
    and_two (n == i / 64) (bit_at bits (i % 64) == 1) ((Decides-eqb n (i / 64)).1 number)
    ((Decides-eqb (bit_at bits (i % 64)) 1).1 (ap (bit_at bits) place ∙ w.set)))
    (λ h.
    let both = and_one (n == i / 64) (bit_at bits (i % 64) == 1) h in
    let number : n ≡ i / 64 = (Decides-eqb n (i / 64)).0 both.0 in
    let place : i - 64 * n ≡ i % 64 = omega (arith, number) in
    window_of 64 (64 * n) bits i (record {
      low = omega (arith, number);
      high = omega (arith, number);
      set = ap (bit_at bits) place ∙ (Decides-eqb (bit_at bits (i % 64)) 1).0 both.1;
    }))

in_numbers : (bs : List Block) (i : ℕ) → contains i (block_ids bs) ≡ true → contains (i / 64) (numbers bs) ≡ true
in_numbers [] i h = absurd cc
in_numbers (b ∷ bs) i h = elim (append_cases i (window 64 (64 * b.number) b.bits) (block_ids bs) h) [
  | inl e ↦ or_left (b.number == i / 64) (contains (i / 64) (numbers bs))
      (and_one (b.number == i / 64) (bit_at b.bits (i % 64) == 1) (sym (in_block b.number b.bits i) ∙ e)).0
  | inr e ↦ has_tail (i / 64) b.number (numbers bs) (in_numbers bs i e)
]

no_bit : (p : ℕ) → (bit_at 0 p == 1) ≡ false
no_bit p = ap (λ x. x == 1) (bit_at-zero p)

pub block_has : (bs : List Block) (i : ℕ) → IsRising (numbers bs)
    → contains i (block_ids bs) ≡ (bit_at (bits_of bs (i / 64)) (i % 64) == 1)
block_has [] i r = sym (no_bit (i % 64))
block_has (b ∷ bs) i r = append_has i (window 64 (64 * b.number) b.bits) (block_ids bs)
    ∙ ap (λ t. t || contains i (block_ids bs)) (in_block b.number b.bits i)
    ∙ of (b.number == i / 64) refl (block_has bs i r.1) where
      of : (t : Bool) → (b.number == i / 64) ≡ t
          → contains i (block_ids bs) ≡ (bit_at (bits_of bs (i / 64)) (i % 64) == 1)
          → ((t && (bit_at b.bits (i % 64) == 1)) || contains i (block_ids bs))
          ≡ (bit_at (cond t b.bits (bits_of bs (i / 64))) (i % 64) == 1)
      of true is later = or_none (bit_at b.bits (i % 64) == 1) (contains i (block_ids bs))
          (not_true (contains i (block_ids bs))
          (λ h. omega (arith, r.0 (i / 64) (in_numbers bs i h), (Decides-eqb b.number (i / 64)).0 is)))
      of false is later = later

pub rising_blocks : (bs : List Block) → IsRising (numbers bs) → IsRising (block_ids bs)
rising_blocks [] r = tt
rising_blocks (b ∷ bs) r = rising_append (64 * b.number + 64) (window 64 (64 * b.number) b.bits) (block_ids bs)
    (rising_window 64 (64 * b.number) b.bits) (rising_blocks bs r.1)
    (λ i h. omega (arith, (window_has 64 (64 * b.number) b.bits i h).high))
    (λ i h. omega (arith, r.0 (i / 64) (in_numbers bs i h)))

ids_are : (bs : List Block) (ys : List ℕ) → IsRising (numbers bs) → IsRising ys
    → ((i : ℕ) → (bit_at (bits_of bs (i / 64)) (i % 64) == 1) ≡ contains i ys) → block_ids bs ≡ ys
ids_are bs ys r s same = same_rising (block_ids bs) ys (rising_blocks bs r) s
    (λ i h. sym (same i) ∙ sym (block_has bs i r) ∙ h) (λ i h. block_has bs i r ∙ same i ∙ h)

-- ---- One block in place of that with its number.
pub unlike : (m n : ℕ) → m ≢ n → (m == n) ≡ false
unlike m n other = elim (eqb_tells m n) [ inl e ↦ absurd (other e.1) | inr e ↦ e.0 ]

with_behind : (b c : Block) (cs : List Block) → c.number < b.number → with_block b (c ∷ cs) ≡ c ∷ with_block b cs
with_behind b c cs low = elim (leb_tells (suc b.number) c.number) [
  | inl e ↦ absurd (omega (arith, e.1, low))
  | inr e ↦ ap (λ t. cond t (b ∷ c ∷ cs) (cond (b.number == c.number) (b ∷ cs) (c ∷ with_block b cs))) e.0
      ∙ ap (λ t. cond t (b ∷ cs) (c ∷ with_block b cs)) (unlike b.number c.number (λ d. omega (arith, d, low)))
]

numbers_with : (b : Block) (bs : List Block) → numbers (with_block b bs) ≡ with_id b.number (numbers bs)
numbers_with b [] = refl
numbers_with b (c ∷ cs) = of (nat_lt b.number c.number) (b.number == c.number) (Decides-eqb b.number c.number).0
    (numbers_with b cs) where
      of : (s t : Bool) → (t ≡ true → b.number ≡ c.number)
          → numbers (with_block b cs) ≡ with_id b.number (numbers cs)
          → numbers (cond s (b ∷ c ∷ cs) (cond t (b ∷ cs) (c ∷ with_block b cs)))
          ≡ cond s (b.number ∷ c.number ∷ numbers cs)
          (cond t (c.number ∷ numbers cs) (c.number ∷ with_id b.number (numbers cs)))
      of true t e later = refl
      of false true e later = ap (λ (n : ℕ). n ∷ numbers cs) (e refl)
      of false false e later = ap (λ (l : List ℕ). c.number ∷ l) later

bits_with : (b : Block) (bs : List Block) (n : ℕ)
    → bits_of (with_block b bs) n ≡ cond (b.number == n) b.bits (bits_of bs n)
bits_with b [] n = refl
bits_with b (c ∷ cs) n = of (nat_lt b.number c.number) (b.number == c.number) (Decides-eqb b.number c.number).0
    (Decides-eqb b.number c.number).1 (bits_with b cs n) where
      first : (u : Bool) → (b.number == n) ≡ u → b.number ≡ c.number
          → cond u b.bits (bits_of cs n) ≡ cond u b.bits (cond (c.number == n) c.bits (bits_of cs n))
      first true is e = refl
      first false is e = sym (ap (λ t. cond t c.bits (bits_of cs n)) (ap (λ (m : ℕ). m == n) (sym e) ∙ is))

      later : (u v : Bool) → (b.number == n) ≡ u → (c.number == n) ≡ v → (b.number ≡ c.number → ⊥)
          → bits_of (with_block b cs) n ≡ cond u b.bits (bits_of cs n)
          → cond v c.bits (bits_of (with_block b cs) n) ≡ cond u b.bits (cond v c.bits (bits_of cs n))
      later true true is too other more =
          absurd (other ((Decides-eqb b.number n).0 is ∙ sym ((Decides-eqb c.number n).0 too)))
      later false true is too other more = refl
      later true false is too other more = more
      later false false is too other more = more

      no : false ≡ true → ⊥
      no k = cc

      of : (s t : Bool) → (t ≡ true → b.number ≡ c.number) → (b.number ≡ c.number → t ≡ true)
          → bits_of (with_block b cs) n ≡ cond (b.number == n) b.bits (bits_of cs n)
          → bits_of (cond s (b ∷ c ∷ cs) (cond t (b ∷ cs) (c ∷ with_block b cs))) n
          ≡ cond (b.number == n) b.bits (cond (c.number == n) c.bits (bits_of cs n))
      of true t e d more = refl
      of false true e d more = first (b.number == n) refl (e refl)
      of false false e d more = later (b.number == n) (c.number == n) refl refl (λ k. no (d k)) more

set_is_with : (b : Block) (bs : List Block) (at : ℕ) (d : Block) → IsRising (numbers bs) → at < length bs
    → (slice_index_or bs at d).number ≡ b.number → slice_set bs at b ≡ with_block b bs
set_is_with b [] at d r within same = absurd (omega (arith, within))
set_is_with b (c ∷ cs) zero d r within same = elim (leb_tells (suc b.number) c.number) [
  | inl e ↦ absurd (omega (arith, e.1, same))
  | inr e ↦ sym (ap (λ t. cond t (b ∷ c ∷ cs) (cond (b.number == c.number) (b ∷ cs) (c ∷ with_block b cs))) e.0
      ∙ ap (λ t. cond t (b ∷ cs) (c ∷ with_block b cs)) ((Decides-eqb b.number c.number).1 (sym same)))
]
set_is_with b (c ∷ cs) (suc at) d r within same =
    let inside : at < length cs = omega (arith, within) in
    ap (λ (l : List Block). c ∷ l) (set_is_with b cs at d r.1 inside same)
    ∙ sym (with_behind b c cs (omega (arith, r.0 (slice_index_or cs at d).number (has_number cs at d inside), same)))

insert_is_with : (b : Block) (bs : List Block) (at : ℕ)
    → ((j : ℕ) → j < at → slice_index_or (numbers bs) j 0 < b.number) → at ≤ length bs
    → (at < length bs → b.number < slice_index_or (numbers bs) at 0) → insert bs at b ≡ with_block b bs
insert_is_with b [] zero before within after = refl
insert_is_with b [] (suc at) before within after = absurd (omega (arith, within))
insert_is_with b (c ∷ cs) zero before within after = elim (leb_tells (suc b.number) c.number) [
  | inl e ↦ sym (ap (λ t. cond t (b ∷ c ∷ cs) (cond (b.number == c.number) (b ∷ cs) (c ∷ with_block b cs))) e.0)
  | inr e ↦ absurd (omega (arith, e.1, after (omega arith)))
]
insert_is_with b (c ∷ cs) (suc at) before within after =
    ap (λ (l : List Block). c ∷ l)
    (insert_is_with b cs at (λ j h. before (suc j) (omega (arith, h))) (omega (arith, within))
    (λ h. after (omega (arith, h))))
    ∙ sym (with_behind b c cs (before 0 (omega arith)))

rising_with : (b : Block) (bs : List Block) → IsRising (numbers bs) → IsRising (numbers (with_block b bs))
rising_with b bs r = subst IsRising (sym (numbers_with b bs)) (rising-with_id b.number (numbers bs) r)

-- The block's number, or a number of the other blocks.
with_has : (b : Block) (bs : List Block) (P : ℕ → Type 0) → (n : ℕ) → contains n (numbers (with_block b bs)) ≡ true
    → (n ≡ b.number → P n) → (contains n (numbers bs) ≡ true → n ≢ b.number → P n) → P n
with_has b bs P n h here there = elim (eqb_tells n b.number) [
  | inl e ↦ here e.1
  | inr e ↦ there (elim (or_cases (contains n (numbers bs)) (n == b.number)
      (sym (ap (contains n) (numbers_with b bs) ∙ contains-with_id n b.number (numbers bs)) ∙ h)) [
        | inl k ↦ k
        | inr k ↦ absurd (e.1 ((Decides-eqb n b.number).0 k))
      ]) e.1
]

full_with : (b : Block) (bs : List Block) → 0 < b.bits → AreFull bs → AreFull (with_block b bs)
full_with b bs some full n h = with_has b bs (λ m. 0 < bits_of (with_block b bs) m) n h
    (λ e. omega (
      arith,
      some,
      bits_with b bs n
          ∙ ap (λ t. cond t b.bits (bits_of bs n)) ((Decides-eqb b.number n).1 (sym e)),
    ))
    (λ there other. omega (
      arith,
      full n there,
      bits_with b bs n
          ∙ ap (λ t. cond t b.bits (bits_of bs n)) (unlike b.number n (λ k. other (sym k))),
    ))

range_with : (b : Block) (bs : List Block) → b.number < 2 ^ 58 → AreInRange bs → AreInRange (with_block b bs)
range_with b bs within range n h = with_has b bs (λ m. m < 2 ^ 58) n h (λ e. omega (arith, within, e))
    (λ there other. range n there)

pub one_full : (b : Block) → AreFull (b ∷ []) → 0 < b.bits
one_full b full = omega (arith, full b.number (has_head b.number []), ap (λ t. cond t b.bits 0) (same_number b.number))

pub one_in_range : (b : Block) → AreInRange (b ∷ []) → b.number < 2 ^ 58
one_in_range b range = range b.number (has_head b.number [])

pub blocks_with : (b : Block) (bs : List Block) → 0 < b.bits → b.number < 2 ^ 58 → AreBlocks bs
    → AreBlocks (with_block b bs)
blocks_with b bs some within h =
    (rising_with b bs h.0, (full_with b bs some h.1.0, range_with b bs within h.1.1))

-- ---- The ids of a block more.
or_bit : (x y p : ℕ) → (bit_at (bit_or x y) p == 1) ≡ ((bit_at x p == 1) || (bit_at y p == 1))
or_bit x y p = same_truth (bit_at (bit_or x y) p == 1) ((bit_at x p == 1) || (bit_at y p == 1))
    (λ h. elim (eqb_tells (bit_at x p) 1) [
      | inl e ↦ or_left (bit_at x p == 1) (bit_at y p == 1) e.0
      | inr e ↦ or_right (bit_at x p == 1) (bit_at y p == 1) ((Decides-eqb (bit_at y p) 1).1 (omega (
        arith,
        (Decides-eqb (bit_at (bit_or x y) p) 1).0 h,
        bit_at_or x y p,
        e.1,
        bit_at-lt x p,
        bit_at-lt y p,
      )))
    ])
    (λ h. (Decides-eqb (bit_at (bit_or x y) p) 1).1 (elim (or_cases (bit_at x p == 1) (bit_at y p == 1) h) [
      | inl e ↦ omega (arith, (Decides-eqb (bit_at x p) 1).0 e, bit_at_or x y p, bit_at-lt x p, bit_at-lt y p)
      | inr e ↦ omega (arith, (Decides-eqb (bit_at y p) 1).0 e, bit_at_or x y p, bit_at-lt x p, bit_at-lt y p)
    ]))

-- The block with the bits that other blocks have for its number.
abbrev pub merged : Block → List Block → Block
merged b bs = record b { bits = bit_or (bits_of bs b.number) b.bits }

pub merged_some : (b : Block) (bs : List Block) → 0 < b.bits → 0 < (merged b bs).bits
merged_some b bs some = omega (arith, some, le_or_r (bits_of bs b.number) b.bits)

one_rising : (b : Block) → IsRising (numbers (b ∷ []))
one_rising b = (λ i h. absurd (no h), tt) where
  no : false ≡ true → ⊥
  no k = cc

pub ids_with : (b : Block) (bs : List Block) → IsRising (numbers bs)
    → block_ids (with_block (merged b bs) bs) ≡ with_ids (block_ids bs) (block_ids (b ∷ []))
ids_with b bs r = ids_are (with_block (merged b bs) bs) (with_ids (block_ids bs) (block_ids (b ∷ [])))
    (rising_with (merged b bs) bs r) (rising-with_ids (block_ids bs) (block_ids (b ∷ [])) (rising_blocks bs r))
    (λ i. ap (λ x. bit_at x (i % 64) == 1) (bits_with (merged b bs) bs (i / 64))
    ∙ of i (b.number == i / 64) refl
    ∙ ap (λ t. t || bit_at (bits_of (b ∷ []) (i / 64)) (i % 64) == 1) (sym (block_has bs i r))
    ∙ ap (λ t. contains i (block_ids bs) || t) (sym (block_has (b ∷ []) i (one_rising b)))
    ∙ sym (contains-with_ids i (block_ids bs) (block_ids (b ∷ [])))) where
      of : (i : ℕ) (t : Bool) → (b.number == i / 64) ≡ t
          → (bit_at (cond t (bit_or (bits_of bs b.number) b.bits) (bits_of bs (i / 64))) (i % 64) == 1)
          ≡ ((bit_at (bits_of bs (i / 64)) (i % 64) == 1) || (bit_at (cond t b.bits 0) (i % 64) == 1))
      of i true is = or_bit (bits_of bs b.number) b.bits (i % 64)
          ∙ ap (λ (n : ℕ). (bit_at (bits_of bs n) (i % 64) == 1) || (bit_at b.bits (i % 64) == 1))
          ((Decides-eqb b.number (i / 64)).0 is)
      of i false is = sym (or_none (bit_at (bits_of bs (i / 64)) (i % 64) == 1) (bit_at 0 (i % 64) == 1) (no_bit (i % 64)))

with_append : (xs ys zs : List ℕ) → with_ids xs (ys ++ zs) ≡ with_ids (with_ids xs ys) zs
with_append xs [] zs = refl
with_append xs (y ∷ ys) zs = with_append (with_id y xs) ys zs

pub with_first : (xs : List ℕ) (b : Block) (bs : List Block)
    → with_ids (with_ids xs (block_ids (b ∷ []))) (block_ids bs) ≡ with_ids xs (block_ids (b ∷ bs))
with_first xs b bs = sym (with_append xs (block_ids (b ∷ [])) (block_ids bs))
    ∙ ap (λ (l : List ℕ). with_ids xs (l ++ block_ids bs)) (append-nil (window 64 (64 * b.number) b.bits))

pub with_only : (xs : List ℕ) → IsRising xs → with_ids [] xs ≡ xs
with_only xs r = same_rising (with_ids [] xs) xs (rising-with_ids [] xs tt) r
    (λ i h. sym (contains-with_ids i [] xs) ∙ h) (λ i h. contains-with_ids i [] xs ∙ h)

pub no_blocks : AreBlocks []
no_blocks = (tt, (λ n h. absurd (no h), λ n h. absurd (no h))) where
  no : false ≡ true → ⊥
  no k = cc

-- The order in which ids are added makes no difference.
pub with_swap : (xs ys zs : List ℕ) → IsRising xs → with_ids (with_ids xs ys) zs ≡ with_ids (with_ids xs zs) ys
with_swap xs ys zs r = same_rising (with_ids (with_ids xs ys) zs) (with_ids (with_ids xs zs) ys)
    (rising-with_ids (with_ids xs ys) zs (rising-with_ids xs ys r))
    (rising-with_ids (with_ids xs zs) ys (rising-with_ids xs zs r))
    (λ i h. sym (swapped i) ∙ h) (λ i h. swapped i ∙ h) where
      or_swap : (a b c : Bool) → ((a || b) || c) ≡ ((a || c) || b)
      or_swap true b c = refl
      or_swap false true true = refl
      or_swap false true false = refl
      or_swap false false true = refl
      or_swap false false false = refl

      swapped : (i : ℕ) → contains i (with_ids (with_ids xs ys) zs) ≡ contains i (with_ids (with_ids xs zs) ys)
      swapped i = contains-with_ids i (with_ids xs ys) zs
          ∙ ap (λ t. t || contains i zs) (contains-with_ids i xs ys)
          ∙ or_swap (contains i xs) (contains i ys) (contains i zs)
          ∙ ap (λ t. t || contains i ys) (sym (contains-with_ids i xs zs))
          ∙ sym (contains-with_ids i (with_ids xs zs) ys)

-- ---- The ids of a block less.
zero_bit : (x : ℕ) → x ≡ 0 → (x == 1) ≡ false
zero_bit x h = ap (λ (y : ℕ). y == 1) h

less_bit : (x y p : ℕ) → y < 2 ^ 64 → p < 64
    → (bit_at (bit_and x (2 ^ 64 - 1 - y)) p == 1) ≡ ((bit_at x p == 1) && not (bit_at y p == 1))
less_bit x y p small within = elim (eqb_tells (bit_at x p) 1) [
  | inl e ↦ elim (eqb_tells (bit_at y p) 1) [
    | inl d ↦ zero_bit (bit_at (bit_and x (2 ^ 64 - 1 - y)) p) (omega (arith, part, e.1, d.1))
        ∙ sym (ap (λ t. t && not (bit_at y p == 1)) e.0 ∙ ap not d.0)
    | inr d ↦ (Decides-eqb (bit_at (bit_and x (2 ^ 64 - 1 - y)) p) 1).1
        (omega (arith, part, e.1, d.1, bit_at-lt y p))
        ∙ sym (ap (λ t. t && not (bit_at y p == 1)) e.0 ∙ ap not d.0)
  ]
  | inr e ↦ zero_bit (bit_at (bit_and x (2 ^ 64 - 1 - y)) p) (omega (arith, part, e.1, bit_at-lt x p))
      ∙ sym (ap (λ t. t && not (bit_at y p == 1)) e.0)
] where
  part : bit_at (bit_and x (2 ^ 64 - 1 - y)) p ≡ min (bit_at x p) (1 - bit_at y p)
  part = bit_at_and x (2 ^ 64 - 1 - y) p ∙ ap (min (bit_at x p)) (bit_at_not w64 y p small within)

ids_less : (c : Block) (x : ℕ) (bs : List Block) → IsRising (numbers bs) → bits_of bs c.number ≡ c.bits
    → x < 2 ^ 64
    → block_ids (with_block (cleared c x) bs) ≡ without_ids (block_ids bs) (window 64 (64 * c.number) x)
ids_less c x bs r same small =
    ids_are (with_block (cleared c x) bs) (without_ids (block_ids bs) (window 64 (64 * c.number) x))
    (rising_with (cleared c x) bs r)
    (rising-without_ids (block_ids bs) (window 64 (64 * c.number) x) (rising_blocks bs r))
    (λ i. ap (λ y. bit_at y (i % 64) == 1) (bits_with (cleared c x) bs (i / 64))
    ∙ of i (c.number == i / 64) refl
    ∙ ap (λ t. (bit_at (bits_of bs (i / 64)) (i % 64) == 1) && not t) (sym (in_block c.number x i))
    ∙ ap (λ t. t && not (contains i (window 64 (64 * c.number) x))) (sym (block_has bs i r))
    ∙ sym (contains-without_ids i (block_ids bs) (window 64 (64 * c.number) x))) where
      of : (i : ℕ) (t : Bool) → (c.number == i / 64) ≡ t
          → (bit_at (cond t (bit_and c.bits (2 ^ 64 - 1 - x)) (bits_of bs (i / 64))) (i % 64) == 1)
          ≡ ((bit_at (bits_of bs (i / 64)) (i % 64) == 1) && not (t && (bit_at x (i % 64) == 1)))
      of i true is = less_bit c.bits x (i % 64) small (omega arith)
          ∙ ap (λ y. (bit_at y (i % 64) == 1) && not (bit_at x (i % 64) == 1))
          (sym same ∙ ap (bits_of bs) ((Decides-eqb c.number (i / 64)).0 is))
      of i false is = sym (and_alone (bit_at (bits_of bs (i / 64)) (i % 64) == 1) false refl)

pub numbers_set : (bs : List Block) (at : ℕ) (b d : Block) → at < length bs
    → (slice_index_or bs at d).number ≡ b.number → numbers (slice_set bs at b) ≡ numbers bs
numbers_set [] at b d within same = absurd (omega (arith, within))
numbers_set (c ∷ cs) zero b d within same = ap (λ (n : ℕ). n ∷ numbers cs) (sym same)
numbers_set (c ∷ cs) (suc at) b d within same =
    ap (λ (l : List ℕ). c.number ∷ l) (numbers_set cs at b d (omega (arith, within)) same)

without_append : (xs ys zs : List ℕ) → without_ids (without_ids xs ys) zs ≡ without_ids xs (ys ++ zs)
without_append [] ys zs = refl
without_append (x ∷ xs) ys zs = of (contains x ys) refl (without_append xs ys zs) where
  of : (t : Bool) → contains x ys ≡ t → without_ids (without_ids xs ys) zs ≡ without_ids xs (ys ++ zs)
      → without_ids (cond t (without_ids xs ys) (x ∷ without_ids xs ys)) zs ≡ without_ids (x ∷ xs) (ys ++ zs)
  of true is later = later
      ∙ sym (ap (λ t. cond t (without_ids xs (ys ++ zs)) (x ∷ without_ids xs (ys ++ zs))) (append_has_left x ys zs is))
  of false is later = ap (λ (l : List ℕ). cond (contains x zs) l (x ∷ l)) later
      ∙ sym (ap (λ t. cond t (without_ids xs (ys ++ zs)) (x ∷ without_ids xs (ys ++ zs)))
      (append_has x ys zs ∙ ap (λ t. t || contains x zs) is))

pub without_first : (xs : List ℕ) (b : Block) (bs : List Block)
    → without_ids (without_ids xs (block_ids (b ∷ []))) (block_ids bs) ≡ without_ids xs (block_ids (b ∷ bs))
without_first xs b bs = without_append xs (block_ids (b ∷ [])) (block_ids bs)
    ∙ ap (λ (l : List ℕ). without_ids xs (l ++ block_ids bs)) (append-nil (window 64 (64 * b.number) b.bits))

pub without_none : (xs : List ℕ) → without_ids xs [] ≡ xs
without_none xs = none_removed xs [] (λ i h. refl)

-- A block with a number that no block has removes nothing.
pub none_less : (bs : List Block) (n bits : ℕ) (more : List ℕ) → contains n (numbers bs) ≡ false
    → without_ids (block_ids bs) (window 64 (64 * n) bits ++ more) ≡ without_ids (block_ids bs) more
none_less bs n bits more none =
    sym (without_append (block_ids bs) (window 64 (64 * n) bits) more)
    ∙ ap (λ (l : List ℕ). without_ids l more) (none_removed (block_ids bs) (window 64 (64 * n) bits)
    (λ i h. not_true (contains i (window 64 (64 * n) bits))
    (λ k. not_both (contains n (numbers bs)) (subst (λ (m : ℕ). contains m (numbers bs) ≡ true)
    (sym ((Decides-eqb n (i / 64)).0 (and_one (n == i / 64) (bit_at bits (i % 64) == 1) (sym (in_block n bits i) ∙ k)).0))
    (in_numbers bs i h)) none)))

pub without_one : (x : ℕ) (xs : List ℕ) → without_ids xs (x ∷ []) ≡ without_id x xs
without_one x [] = refl
without_one x (y ∷ ys) = ap (λ t. cond t (without_ids ys (x ∷ [])) (y ∷ without_ids ys (x ∷ []))) (contains-one y x)
    ∙ ap (λ (l : List ℕ). cond (y == x) l (y ∷ l)) (without_one x ys)

-- ---- What is read and written at an index.
-- A number that belongs between two blocks is that of no block.
pub not_there : (bs : List Block) (n at : ℕ) → IsRising (numbers bs)
    → ((j : ℕ) → j < at → slice_index_or (numbers bs) j 0 < n)
    → (at < length bs → n < slice_index_or (numbers bs) at 0) → contains n (numbers bs) ≡ false
not_there bs n at r before after = not_true (contains n (numbers bs)) (λ h.
    let here = λ (k : at < length (numbers bs)). after (omega (arith, k, length_numbers bs)) in
    let found = found_at n (numbers bs) at r before (λ k. omega (arith, here k)) h in
    omega (arith, here found.0, found.1))

pub none_past : (bs : List Block) (n : ℕ) → IsRising (numbers bs)
    → ((j : ℕ) → j < length bs → slice_index_or (numbers bs) j 0 < n) → 0 ≡ bits_of bs n
none_past bs n r before =
    sym (bits_none bs n (not_there bs n (length bs) r before (λ h. absurd (omega (arith, h)))))

pub put_here : (b : Block) (bs : List Block) (at : ℕ) (d : Block) → IsRising (numbers bs) → at < length bs
    → (slice_index_or bs at d).number ≡ b.number
    → slice_set bs at (record b { bits = bit_or (slice_index_or bs at d).bits b.bits })
    ≡ with_block (merged b bs) bs
put_here b bs at d r within same =
    ap (λ (x : ℕ). slice_set bs at (record b { bits = bit_or x b.bits }))
    (sym (bits_found bs at d r within) ∙ ap (bits_of bs) same)
    ∙ set_is_with (merged b bs) bs at d r within same

pub put_new : (b : Block) (bs : List Block) (at : ℕ) → IsRising (numbers bs)
    → ((j : ℕ) → j < at → slice_index_or (numbers bs) j 0 < b.number) → at ≤ length bs
    → (at < length bs → b.number < slice_index_or (numbers bs) at 0) → insert bs at b ≡ with_block (merged b bs) bs
put_new b bs at r before within after = insert_is_with b bs at before within after
    ∙ ap (λ (x : ℕ). with_block (record b { bits = x }) bs)
    (sym (or_zero_l b.bits) ∙ ap (λ (x : ℕ). bit_or x b.bits) (sym (bits_none bs b.number (not_there bs b.number at r before after))))

pub clear_here : (b : Block) (bs : List Block) (at : ℕ) (d : Block) → IsRising (numbers bs) → at < length bs
    → (slice_index_or bs at d).number ≡ b.number → b.bits < 2 ^ 64
    → block_ids (slice_set bs at (cleared (slice_index_or bs at d) b.bits))
    ≡ without_ids (block_ids bs) (block_ids (b ∷ []))
clear_here b bs at d r within same small =
    let c = slice_index_or bs at d in
    ap block_ids (set_is_with (cleared c b.bits) bs at d r within refl)
    ∙ ids_less c b.bits bs r (bits_found bs at d r within) small
    ∙ ap (without_ids (block_ids bs)) (ap (λ (n : ℕ). window 64 (64 * n) b.bits) same
    ∙ sym (append-nil (window 64 (64 * b.number) b.bits)))

pub full_after : (bs : List Block) (at : ℕ) (b d : Block) → IsRising (numbers bs) → at < length bs
    → (slice_index_or bs at d).number ≡ b.number → 0 < b.bits → AreFull bs → AreFull (slice_set bs at b)
full_after bs at b d r within same some full =
    subst AreFull (sym (set_is_with b bs at d r within same)) (full_with b bs some full)

-- ---- Blocks without bits.
pub full_ids : (bs : List Block) → block_ids (filter has_bits bs) ≡ block_ids bs
full_ids [] = refl
full_ids (b ∷ bs) = of (b.bits == 0) refl (full_ids bs) where
  of : (t : Bool) → (b.bits == 0) ≡ t → block_ids (filter has_bits bs) ≡ block_ids bs
      → block_ids (cond (not t) (b ∷ filter has_bits bs) (filter has_bits bs)) ≡ block_ids (b ∷ bs)
  of true is later = later ∙ sym (ap (λ (l : List ℕ). l ++ block_ids bs)
      (ap (window 64 (64 * b.number)) ((Decides-eqb b.bits 0).0 is) ∙ window_zero 64 (64 * b.number)))
  of false is later = ap (λ (l : List ℕ). window 64 (64 * b.number) b.bits ++ l) later

filter_in : (bs : List Block) (n : ℕ) → contains n (numbers (filter has_bits bs)) ≡ true
    → contains n (numbers bs) ≡ true
filter_in [] n h = h
filter_in (b ∷ bs) n h = of (b.bits == 0) h (filter_in bs n) where
  of : (t : Bool) → contains n (numbers (cond (not t) (b ∷ filter has_bits bs) (filter has_bits bs))) ≡ true
      → (contains n (numbers (filter has_bits bs)) ≡ true → contains n (numbers bs) ≡ true)
      → contains n (numbers (b ∷ bs)) ≡ true
  of true k later = has_tail n b.number (numbers bs) (later k)
  of false k later = elim (or_cases (b.number == n) (contains n (numbers (filter has_bits bs))) k) [
    | inl e ↦ or_left (b.number == n) (contains n (numbers bs)) e
    | inr e ↦ has_tail n b.number (numbers bs) (later e)
  ]

filter_rising : (bs : List Block) → IsRising (numbers bs) → IsRising (numbers (filter has_bits bs))
filter_rising [] r = r
filter_rising (b ∷ bs) r = of (b.bits == 0) (filter_rising bs r.1) where
  of : (t : Bool) → IsRising (numbers (filter has_bits bs))
      → IsRising (numbers (cond (not t) (b ∷ filter has_bits bs) (filter has_bits bs)))
  of true later = later
  of false later = (λ n h. r.0 n (filter_in bs n h), later)

filter_full : (bs : List Block) → AreFull (filter has_bits bs)
filter_full [] n h = absurd cc
filter_full (b ∷ bs) n h = of (b.bits == 0) refl h (filter_full bs n) where
  here : (u : Bool) → (b.bits == 0) ≡ false → (u || contains n (numbers (filter has_bits bs))) ≡ true
      → (contains n (numbers (filter has_bits bs)) ≡ true → 0 < bits_of (filter has_bits bs) n)
      → 0 < cond u b.bits (bits_of (filter has_bits bs) n)
  here true is k later = elim (eqb_tells b.bits 0) [
    | inl e ↦ absurd (not_both (b.bits == 0) e.0 is)
    | inr e ↦ omega (arith, e.1)
  ]
  here false is k later = later k

  of : (t : Bool) → (b.bits == 0) ≡ t
      → contains n (numbers (cond (not t) (b ∷ filter has_bits bs) (filter has_bits bs))) ≡ true
      → (contains n (numbers (filter has_bits bs)) ≡ true → 0 < bits_of (filter has_bits bs) n)
      → 0 < bits_of (cond (not t) (b ∷ filter has_bits bs) (filter has_bits bs)) n
  of true is k later = later k
  of false is k later = here (b.number == n) is k later

pub blocks_filter : (bs : List Block) → IsRising (numbers bs) → AreInRange bs → AreBlocks (filter has_bits bs)
blocks_filter bs r range = (filter_rising bs r, (filter_full bs, λ n h. range n (filter_in bs n h)))

-- ---- The first block, and those after it.
pub first_block : (b : Block) (bs : List Block) → AreBlocks (b ∷ bs) → AreBlocks (b ∷ [])
first_block b bs h = (
  one_rising b,
  (
    λ n k. only n (or_cases (b.number == n) false k) (h.1.0 b.number (has_head b.number (numbers bs))),
    λ n k. within n (or_cases (b.number == n) false k),
  ),
) where
  only : (n : ℕ) → ((b.number == n) ≡ true) ⊎ (false ≡ true) → 0 < cond (b.number == b.number) b.bits (bits_of bs b.number)
      → 0 < cond (b.number == n) b.bits 0
  only n (inl e) some = omega (
    arith,
    some,
    ap (λ t. cond t b.bits (bits_of bs b.number)) (same_number b.number),
    ap (λ t. cond t b.bits 0) e,
  )
  only n (inr e) some = absurd cc

  within : (n : ℕ) → ((b.number == n) ≡ true) ⊎ (false ≡ true) → n < 2 ^ 58
  within n (inl e) = omega (arith, h.1.1 b.number (has_head b.number (numbers bs)), (Decides-eqb b.number n).0 e)
  within n (inr e) = absurd cc

pub later_blocks : (b : Block) (bs : List Block) → AreBlocks (b ∷ bs) → AreBlocks bs
later_blocks b bs h = (
  h.0.1,
  (
    λ n k. omega (
      arith,
      h.1.0 n (has_tail n b.number (numbers bs) k),
      ap (λ t. cond t b.bits (bits_of bs n)) (other_number b.number n (h.0.0 n k)),
    ),
    λ n k. h.1.1 n (has_tail n b.number (numbers bs) k),
  ),
)

-- ---- The lowest id from an id on.
least_left : (x : ℕ) (xs ys : List ℕ) (r : Option ℕ) → AllBelow x xs → IsLeastFrom x ys r → IsLeastFrom x (xs ++ ys) r
least_left x xs ys None none least =
    λ i h. elim (append_cases i xs ys h) [ inl a ↦ none i a | inr a ↦ least i a ]
least_left x xs ys (Some y) none least = (
  append_has_right y xs ys least.0,
  least.1,
  λ i h from. elim (append_cases i xs ys h) [
    | inl a ↦ absurd (omega (arith, none i a, from))
    | inr a ↦ least.2 i a from
  ],
)

least_right : (x y : ℕ) (xs ys : List ℕ) → IsLeastFrom x xs (Some y) → ((i : ℕ) → contains i ys ≡ true → y ≤ i)
    → IsLeastFrom x (xs ++ ys) (Some y)
least_right x y xs ys least high = (
  append_has_left y xs ys least.0,
  least.1,
  λ i h from. elim (append_cases i xs ys h) [ inl a ↦ least.2 i a from | inr a ↦ high i a ],
)

least_higher : (x : ℕ) (xs : List ℕ) (r : Option ℕ) → ((i : ℕ) → contains i xs ≡ true → x ≤ i)
    → IsLeastFrom 0 xs r → IsLeastFrom x xs r
least_higher x xs None high least = λ i h. absurd (omega (arith, least i h))
least_higher x xs (Some y) high least = (least.0, high y least.0, λ i h from. least.2 i h (omega arith))

rising_drop : (bs : List Block) (at : ℕ) → IsRising (numbers bs) → IsRising (numbers (drop at bs))
rising_drop bs zero r = r
rising_drop [] (suc at) r = r
rising_drop (b ∷ bs) (suc at) r = rising_drop bs at r.1

-- The ids after a block are higher than its own.
ids_after : (b : Block) (bs : List Block) (i : ℕ) → IsRising (numbers (b ∷ bs)) → contains i (block_ids bs) ≡ true
    → 64 * b.number + 64 ≤ i
ids_after b bs i r h = omega (arith, r.0 (i / 64) (in_numbers bs i h))

behind : (bs : List Block) (at x : ℕ) (r : Option ℕ)
    → ((j : ℕ) → j < at → 64 * slice_index_or (numbers bs) j 0 + 64 ≤ x)
    → IsLeastFrom x (block_ids (drop at bs)) r → IsLeastFrom x (block_ids bs) r
behind bs zero x r before least = least
behind [] (suc at) x r before least = least
behind (b ∷ bs) (suc at) x r before least = least_left x (window 64 (64 * b.number) b.bits) (block_ids bs) r
    (λ i h. omega (arith, (window_has 64 (64 * b.number) b.bits i h).high, before 0 (omega arith)))
    (behind bs at x r (λ j h. before (suc j) (omega (arith, h))) least)

pub first_is : (bs : List Block) (at : ℕ) (d : Block) (z : ℕ) → AreBlocks bs → at < length bs
    → (slice_index_or bs at d).bits < 2 ^ 64 → z ≡ trailing_zeros w64 (slice_index_or bs at d).bits
    → (z < 64) × IsLeastFrom 0 (block_ids (drop at bs)) (Some (64 * (slice_index_or bs at d).number + z))
first_is bs at d z sound within small is =
    let b = slice_index_or bs at d in
    let some : 0 < b.bits = omega (arith, sound.1.0 b.number (has_number bs at d within), bits_found bs at d sound.0 within) in
    let none : b.bits / 2 ^ 0 ≡ b.bits = omega arith in
    let found = found_from (64 * b.number) b.bits 0 z small (omega (arith, some)) (is ∙ ap (trailing_zeros w64) (sym none)) in
    let rest : drop at bs ≡ b ∷ drop (at + 1) bs = drop_more bs at d within in
    let order = subst (λ (l : List Block). IsRising (numbers l)) rest (rising_drop bs at sound.0) in
    let place : (64 * b.number + 0) + z ≡ 64 * b.number + z = omega arith in (
      omega (arith, found.0),
      subst (λ (l : List Block). IsLeastFrom 0 (block_ids l) (Some (64 * b.number + z))) (sym rest)
          (least_right 0 (64 * b.number + z) (window 64 (64 * b.number) b.bits) (block_ids (drop (at + 1) bs))
          (least_lower 0 (64 * b.number + 0) (window 64 (64 * b.number) b.bits) (Some (64 * b.number + z))
          (λ i h. omega (arith, (window_has 64 (64 * b.number) b.bits i h).low)) (omega arith)
          (subst (λ (y : ℕ). IsLeastFrom (64 * b.number + 0) (window 64 (64 * b.number) b.bits) (Some y)) place found.1))
          (λ i h. omega (arith, ids_after b (drop (at + 1) bs) i order h, found.0))),
    )

pub none_next : (bs : List Block) (at id : ℕ) → ((j : ℕ) → j < at → slice_index_or (numbers bs) j 0 < id / 64)
    → length bs ≤ at → AllBelow (id + 1) (block_ids bs)
none_next bs at id before past i h =
    omega (arith, none_at (id / 64) (numbers bs) at before (omega (arith, past, length_numbers bs)) (i / 64) (in_numbers bs i h))

module _ (bs : List Block) (at id : ℕ) (d : Block) (r : IsRising (numbers bs))
    (before : (j : ℕ) → j < at → slice_index_or (numbers bs) j 0 < id / 64) (within : at < length bs) where
  rest : drop at bs ≡ slice_index_or bs at d ∷ drop (at + 1) bs
  rest = drop_more bs at d within

  order : IsRising (numbers (slice_index_or bs at d ∷ drop (at + 1) bs))
  order = subst (λ (l : List Block). IsRising (numbers l)) rest (rising_drop bs at r)

  pub next_here : (y : ℕ)
      → IsLeastFrom (id + 1) (window 64 (64 * (slice_index_or bs at d).number) (slice_index_or bs at d).bits) (Some y)
      → IsLeastFrom (id + 1) (block_ids bs) (Some y)
  next_here y least =
      let b = slice_index_or bs at d in
      behind bs at (id + 1) (Some y) (λ j h. omega (arith, before j h))
      (subst (λ (l : List Block). IsLeastFrom (id + 1) (block_ids l) (Some y)) (sym rest)
      (least_right (id + 1) y (window 64 (64 * b.number) b.bits) (block_ids (drop (at + 1) bs)) least
      (λ i h. omega (
        arith,
        ids_after b (drop (at + 1) bs) i order h,
        (window_has 64 (64 * b.number) b.bits y least.0).high,
      ))))

  pub next_after : (x : Option ℕ) → id / 64 ≤ (slice_index_or bs at d).number
      → AllBelow (id + 1) (window 64 (64 * (slice_index_or bs at d).number) (slice_index_or bs at d).bits)
      → IsLeastFrom 0 (block_ids (drop (at + 1) bs)) x → IsLeastFrom (id + 1) (block_ids bs) x
  next_after x high none least =
      let b = slice_index_or bs at d in
      behind bs at (id + 1) x (λ j h. omega (arith, before j h))
      (subst (λ (l : List Block). IsLeastFrom (id + 1) (block_ids l) x) (sym rest)
      (least_left (id + 1) (window 64 (64 * b.number) b.bits) (block_ids (drop (at + 1) bs)) x none
      (least_higher (id + 1) (block_ids (drop (at + 1) bs)) x
      (λ i h. omega (arith, ids_after b (drop (at + 1) bs) i order h, high)) least)))

-- ---- A block with one id.
pub one_id : (id : ℕ) → window 64 (64 * (id / 64)) (1 * 2 ^ (id % 64) % 2 ^ 64) ≡ id ∷ []
one_id id =
    let bit : 1 * 2 ^ (id % 64) % 2 ^ 64 ≡ 2 ^ (id % 64) = one_shl (id % 64) 64 (omega arith) in
    same_rising (window 64 (64 * (id / 64)) (1 * 2 ^ (id % 64) % 2 ^ 64)) (id ∷ [])
    (rising_window 64 (64 * (id / 64)) (1 * 2 ^ (id % 64) % 2 ^ 64)) ((λ i h. absurd (no h)), tt)
    (λ i h.
    let w = window_has 64 (64 * (id / 64)) (1 * 2 ^ (id % 64) % 2 ^ 64) i h in
    elim (eqb_tells i id) [
      | inl e ↦ subst (λ (k : ℕ). contains k (id ∷ []) ≡ true) (sym e.1) (has_head id [])
      | inr e ↦ absurd (omega (
        arith,
        w.set,
        ap (λ (x : ℕ). bit_at x (i - 64 * (id / 64))) bit,
        bit_at-pow_other (id % 64) (i - 64 * (id / 64)) (λ k. e.1 (omega (arith, k, w.low))),
      ))
    ])
    (λ i h.
    let e = one_has i id h in
    window_of 64 (64 * (id / 64)) (1 * 2 ^ (id % 64) % 2 ^ 64) i (record {
      low = omega (arith, e);
      high = omega (arith, e);
      set = ap (λ (x : ℕ). bit_at x (i - 64 * (id / 64))) bit
          ∙ ap (bit_at (2 ^ (id % 64))) (omega (arith, e)) ∙ bit_at-pow_same (id % 64);
    })) where
      no : false ≡ true → ⊥
      no k = cc

      one_has : (i x : ℕ) → contains i (x ∷ []) ≡ true → i ≡ x
      one_has i x h = elim (or_cases (x == i) false h) [
        | inl e ↦ sym ((Decides-eqb x i).0 e)
        | inr e ↦ absurd (no e)
      ]
