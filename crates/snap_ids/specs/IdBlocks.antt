-- Internal: ids as blocks of bits, in increasing order.
use Rattle.std.specs.Prelude.{ℕ, ◌≡◌, ◌<◌, ◌-◌, ◌*◌, ◌^◌, ◌==◌, nat_lt, Bool, true, not, List, [], ◌∷◌, ◌++◌, if◌then◌else◌, bit_and, slice_index_or}
use Rattle.std.specs.Coded.{×_prop, Π_prop, le_prop}
use Rattle.rt_values.specs.Maps.{contains}
use Rattle.snap_ids.specs.IdLists.{IsRising, IsRising-prop}
use Rattle.snap_ids.specs.IdWindows.{window}
use Rattle.snap_ids.specs.declared.blocks.Block.{Block}

-- The ids of blocks.
abbrev pub block_ids : List Block → List ℕ
block_ids [] = []
block_ids (b ∷ bs) = window 64 (64 * b.number) b.bits ++ block_ids bs

-- The numbers of blocks.
abbrev pub numbers : List Block → List ℕ
numbers [] = []
numbers (b ∷ bs) = b.number ∷ numbers bs

-- The bits of the block with this number. No bits, if there is no such block.
abbrev pub bits_of : List Block → ℕ → ℕ
bits_of [] n = 0
bits_of (b ∷ bs) n = if b.number == n then b.bits else bits_of bs n

-- Each block has bits.
abbrev pub AreFull : List Block → Type 0
AreFull bs = (n : ℕ) → contains n (numbers bs) ≡ true → 0 < bits_of bs n

-- The ids of each block are 64-bit numbers.
abbrev pub AreInRange : List Block → Type 0
AreInRange bs = (n : ℕ) → contains n (numbers bs) ≡ true → n < 2 ^ 58

-- The blocks are in increasing order, and each has bits.
abbrev pub AreBlocks : List Block → Type 0
AreBlocks bs = IsRising (numbers bs) × (AreFull bs × AreInRange bs)

AreFull-prop : (bs : List Block) → IsProp (AreFull bs)
AreFull-prop bs = Π_prop (λ n. Π_prop (λ h. le_prop))

AreInRange-prop : (bs : List Block) → IsProp (AreInRange bs)
AreInRange-prop bs = Π_prop (λ n. Π_prop (λ h. le_prop))

-- The fact has at most one proof, as the field of a type needs.
pub AreBlocks-prop : (bs : List Block) → IsProp (AreBlocks bs)
AreBlocks-prop bs = ×_prop (IsRising-prop (numbers bs)) (×_prop (AreFull-prop bs) (AreInRange-prop bs))

-- The block at an index. An index past the end has an empty block.
abbrev pub block_at : List Block → ℕ → Block
block_at bs n = slice_index_or bs n (record { number = 0; bits = 0 })

-- The block without some bits.
abbrev pub cleared : Block → ℕ → Block
cleared b bits = record b { bits = bit_and b.bits (2 ^ 64 - 1 - bits) }

-- The blocks with one block in place of that with its number.
abbrev pub with_block : Block → List Block → List Block
with_block b [] = b ∷ []
with_block b (c ∷ cs) =
    if nat_lt b.number c.number then b ∷ c ∷ cs else if b.number == c.number then b ∷ cs else c ∷ with_block b cs

-- Whether the block has bits.
abbrev pub has_bits : Block → Bool
has_bits b = not (b.bits == 0)
