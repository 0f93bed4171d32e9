-- Trusted: the source and the sink in memory that tests use, and which of their calls fail.
use Rattle.std.specs.Prelude.{ℕ, List, Bool, true, not, ◌&&◌, ◌==◌, Ok, Err}
use Rattle.std.specs.declared.result.Result.{Result}
use Rattle.rt_streams.specs.declared.source.Failed.{Failed}
use Rattle.std.specs.List.{list_any}
use Rattle.rt_streams.specs.Streams.{next_count}

-- The numbers, from 1, of the calls that fail, the number of calls so far, and the number of those that failed.
pub record CallCounts : Type 0 where
  pub failing : List ℕ
  pub made : ℕ
  pub faults : ℕ

-- A source in memory. `left` are the bytes not yet read, `taken` is the number of bytes read, modulo 2^64, and `piece`
-- is the most that one call reads. `failing` are the numbers, from 1, of the calls that fail, `calls` is the number of
-- calls so far, and `faults` the number of those that failed.
pub record Feed : Type 0 where
  pub left : List ℕ
  pub taken : ℕ
  pub piece : ℕ
  pub failing : List ℕ
  pub calls : ℕ
  pub faults : ℕ

-- A sink in memory. `written` are the bytes written, `room` is the number of bytes that still fit, and `piece` is the
-- most that one call writes. The other fields are those of a source; a call that took no byte of a non-empty piece is
-- a fault too.
pub record Store : Type 0 where
  pub written : List ℕ
  pub room : ℕ
  pub piece : ℕ
  pub failing : List ℕ
  pub calls : ℕ
  pub faults : ℕ

-- Whether the next call fails.
abbrev pub fails_next : List ℕ → ℕ → Bool
fails_next failing calls = list_any (λ n. n == next_count calls) failing

-- Whether a write of a piece of this length is a fault: it failed, or took no byte of a non-empty piece.
abbrev pub is_fault : Result ℕ Failed → ℕ → Bool
is_fault (Err failed) length = true
is_fault (Ok n) length = (n == 0) && not (length == 0)
