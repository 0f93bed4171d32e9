-- Trusted: what reads and writes do to the known bytes of a stream, to its count of bytes and to its count of faults.
use Rattle.std.specs.Prelude.{◌≡◌, ℕ, ◌+◌, ◌-◌, ◌%◌, ◌^◌, ◌<◌, ◌≤◌, ◌⊎◌, min, List, ◌++◌, length, take, OnErr}
use Rattle.std.specs.declared.result.Result.{Result}
use Rattle.std.specs.declared.option.Option.{Option}
use Rattle.std.specs.Io.KnownBytes.{Consumes, Appends, IsAtEnd}

-- The next value of a 64-bit counter that stops at its last value.
abbrev pub next_count : ℕ → ℕ
next_count count = min (count + 1) (2 ^ 64 - 1)

-- A count of faults rose, or is at its last value.
abbrev pub Rose : ℕ → ℕ → Type 0
Rose before now = next_count before ≤ now

-- A count of faults did not fall, and rose if the call failed.
pub record HasCause {T E : Type 0} (before now : ℕ) (result : Result T E) : Type 0 where
  pub later : before ≤ now
  pub failed : OnErr result (Rose before now)

-- The difference of two values of a counter modulo 2^64.
abbrev pub rise : ℕ → ℕ → ℕ
rise before now = (now + (2 ^ 64 - before % 2 ^ 64)) % 2 ^ 64

-- A read copied the next n bytes that were left to the start of `buf`. Zero bytes into a non-empty buffer mean the end.
pub record HandsOut (before now : Option (List ℕ)) (n : ℕ) (buf : List ℕ) : Type 0 where
  pub bytes : Consumes before now (take n buf)
  pub end : n ≡ 0 → 0 < length buf → IsAtEnd now

-- The known bytes lost n bytes at their front.
pub record LosesFront (before now : Option (List ℕ)) (n : ℕ) : Type 0 where
  pub bytes : List ℕ
  pub many : length bytes ≡ n
  pub lost : Consumes before now bytes

-- A write took n bytes of a piece of this length: at least one, or all of an empty piece.
abbrev pub IsTaken : ℕ → ℕ → Type 0
IsTaken n length = (0 < n) ⊎ (length ≡ 0)

-- A counter modulo 2^64 rose by n.
abbrev pub CountsBytes : ℕ → ℕ → ℕ → Type 0
CountsBytes before now n = now ≡ (before + n) % 2 ^ 64

-- A prefix of `bytes` was appended.
abbrev pub AppendsPart : Option (List ℕ) → Option (List ℕ) → List ℕ → Type 0
AppendsPart before now bytes = (done rest : List ℕ) × (done ++ rest ≡ bytes) × Appends before now done
