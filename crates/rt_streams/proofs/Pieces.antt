-- What the next piece adds to what a whole read has read so far, and what is left where it stops.
use Rattle.std.proofs.Common.{rules, ◌≡◌, ◌+◌, ◌^◌, ◌<◌, ◌≤◌, ◌↔◌, ◌∙◌, ◌++◌, ℕ, List, length, take, min, Some, None, refl, sym, ap, arith, length-append, length-take, append-nil, Bool, Ok, Err, subst}
use Rattle.std.specs.declared.result.Result.{Result}
use Rattle.std.specs.Result.{IfErr}
use Rattle.std.specs.declared.option.Option.{Option}
use Rattle.std.specs.Io.KnownBytes.{Consumes, Keeps}
use Rattle.std.proofs.KnownBytes.{Consumes-trans, Consumes-kept}
use Rattle.rt_streams.specs.Streams.{Rose, CountsBytes, rise}
use Rattle.rt_streams.specs.Pieces.{SourceState, HasRead, StopsReading}
use Rattle.rt_streams.specs.declared.source.ReadStop.{ReadStop}
use Rattle.rt_streams.specs.declared.source.ReadStop.TheVariants.{ReadFault, TooLong, NoMemory}

-- Bytes that were read are a front of the bytes that were known.
read_within : (a b : Option (List ℕ)) (read known : List ℕ) → Consumes a b read → a ≡ Some known
    → length read ≤ length known
read_within None b read known reads is = absurd none where
  none : ⊥
  none = search rules
read_within (Some x) None read known reads is = absurd reads
read_within (Some x) (Some y) read known reads is =
    let e : length x ≡ length read + length y = ap length reads ∙ length-append read y in
    let f : length x ≡ length known = ap (λ o. elim o [ None ↦ 0 | Some l ↦ length l ]) is in
    omega (arith, e, f)

-- A counter rises by the sum of two rises that stay below 2^64.
rise_more : (before now next n k : ℕ) → rise before now ≡ n → CountsBytes now next k → n + k < 2 ^ 64
    → rise before next ≡ n + k
rise_more before now next n k first more small = omega (arith, first, more, small)

min_left : (n k : ℕ) → n ≤ k → min n k ≡ n
min_left n k low = omega (arith, low)

-- What was read with the next piece: the first n bytes of a buffer.
record HasTaken (before next : SourceState) (all buf : List ℕ) (n : ℕ) : Type 0 where
  bytes : Consumes before.left next.left (all ++ take n buf)
  many : length (all ++ take n buf) ≡ length all + n
  counts : rise before.taken next.taken ≡ length (all ++ take n buf)
  clean : next.faults ≡ before.faults

-- A read of n bytes into a buffer.
pub record ReadsPiece (now next : SourceState) (buf : List ℕ) (n : ℕ) : Type 0 where
  pub bound : n ≤ length buf
  pub bytes : Consumes now.left next.left (take n buf)
  pub counts : CountsBytes now.taken next.taken n
  pub clean : next.faults ≡ now.faults

piece_taken : (limit : ℕ) (before now next : SourceState) (all buf : List ℕ) (n : ℕ) → HasRead limit before now all
    → ReadsPiece now next buf n → length all + n < 2 ^ 64 → HasTaken before next all buf n
piece_taken limit before now next all buf n read piece small = record {
  bytes = Consumes-trans before.left now.left next.left all (take n buf) read.bytes piece.bytes;
  many = both;
  counts = rise_more before.taken now.taken next.taken (length all) n read.counts piece.counts small ∙ sym both;
  clean = piece.clean ∙ read.clean;
} where
  both : length (all ++ take n buf) ≡ length all + n
  both = length-append all (take n buf)
      ∙ ap (λ k. length all + k) (length-take n buf ∙ min_left n (length buf) piece.bound)

-- A piece that the limit has room for.
pub piece_read : (limit : ℕ) (before now next : SourceState) (all buf : List ℕ) (n : ℕ) → HasRead limit before now all
    → ReadsPiece now next buf n → limit < 2 ^ 64 → length all + n ≤ limit
    → (items : List ℕ) → items ≡ all ++ take n buf → HasRead limit before next items
piece_read limit before now next all buf n read piece wide fits items is =
    let t = piece_taken limit before now next all buf n read piece (omega (arith, wide, fits)) in
    subst (λ l. HasRead limit before next l) (sym is)
    (record { within = omega (arith, t.many, fits); bytes = t.bytes; counts = t.counts; clean = t.clean })

-- A read that stops after these bytes.
stops_after : (limit : ℕ) (before next : SourceState) (all : List ℕ) (stop : ReadStop)
    → Consumes before.left next.left all → rise before.taken next.taken ≡ length all → length all ≤ limit + 1
    → ((stop ≡ TooLong) ↔ (limit < length all)) → ((stop ≡ ReadFault → ⊥) → next.faults ≡ before.faults)
    → (stop ≡ ReadFault → Rose before.faults next.faults) → before.faults ≤ next.faults
    → StopsReading limit before next stop
stops_after limit before next all stop bytes counts most long stopped fault later = record {
  too_long = subst (λ n. (stop ≡ TooLong) ↔ (limit < n)) (sym counts) long;
  at_most = subst (λ n. n ≤ limit + 1) (sym counts) most;
  told =
      λ known is. subst (λ n. n ≤ length known) (sym counts) (read_within before.left next.left all known bytes is);
  gone = record { bytes = all; many = sym counts; lost = bytes };
  stopped = stopped;
  fault = fault;
  later = later;
}

-- A piece that goes past the limit.
pub piece_past : (limit : ℕ) (before now next : SourceState) (all buf : List ℕ) (n : ℕ) → HasRead limit before now all
    → ReadsPiece now next buf n → length all + n < 2 ^ 64 → length all + n ≤ limit + 1 → limit < length all + n
    → StopsReading limit before next TooLong
piece_past limit before now next all buf n read piece small most past =
    let t = piece_taken limit before now next all buf n read piece small in
    stops_after limit before next (all ++ take n buf) TooLong t.bytes t.counts (omega (arith, t.many, most))
    ((λ _. omega (arith, t.many, past)), (λ _. refl)) (λ _. t.clean) (λ is. absurd (too_long_no_fault is))
    (omega (arith, t.clean)) where
      too_long_no_fault : TooLong ≡ ReadFault → ⊥
      too_long_no_fault is = search rules

-- A read that stops although the limit has room for all that was read, for want of memory.
pub stops_within : (limit : ℕ) (before next : SourceState) (all : List ℕ) → HasRead limit before next all
    → StopsReading limit before next NoMemory
stops_within limit before next all read =
    stops_after limit before next all NoMemory read.bytes read.counts (omega (arith, read.within))
    ((λ long. absurd (no_memory_not_long long)), (λ past. absurd (omega (arith, read.within, past))))
    (λ _. read.clean) (λ fault. absurd (no_memory_no_fault fault)) (omega (arith, read.clean)) where
      no_memory_not_long : NoMemory ≡ TooLong → ⊥
      no_memory_not_long is = search rules

      no_memory_no_fault : NoMemory ≡ ReadFault → ⊥
      no_memory_no_fault is = search rules

-- A piece for which there was no memory.
pub piece_lost : (limit : ℕ) (before now next : SourceState) (all buf : List ℕ) (n : ℕ) → HasRead limit before now all
    → ReadsPiece now next buf n → limit < 2 ^ 64 → length all + n ≤ limit
    → (result : Result Bool ReadStop) → result ≡ Err NoMemory → IfErr result (StopsReading limit before next)
piece_lost limit before now next all buf n read piece wide fits result is =
    subst (λ s. IfErr s (StopsReading limit before next)) (sym is)
    (stops_within limit before next (all ++ take n buf)
    (piece_read limit before now next all buf n read piece wide fits (all ++ take n buf) refl))

-- A read that failed.
pub piece_fault : (limit : ℕ) (before now next : SourceState) (all : List ℕ) → HasRead limit before now all
    → Keeps now.left next.left → next.taken ≡ now.taken → Rose now.faults next.faults → now.faults ≤ next.faults
    → (result : Result Bool ReadStop) → result ≡ Err ReadFault → IfErr result (StopsReading limit before next)
piece_fault limit before now next all read kept same rose later result is =
    subst (λ s. IfErr s (StopsReading limit before next)) (sym is)
    (stops_after limit before next all ReadFault (Consumes-kept before.left now.left next.left all read.bytes kept)
    (ap (λ t. rise before.taken t) same ∙ read.counts) (omega (arith, read.within))
    ((λ long. absurd (fault_not_long long)), (λ past. absurd (omega (arith, read.within, past))))
    (λ not. absurd (not refl)) (λ _. subst (λ k. Rose k next.faults) read.clean rose)
    (omega (arith, read.clean, later))) where
      fault_not_long : ReadFault ≡ TooLong → ⊥
      fault_not_long is = search rules

-- A read at the end of the input.
pub piece_none : (limit : ℕ) (before now next : SourceState) (all buf : List ℕ) (n : ℕ) → n ≡ 0
    → HasRead limit before now all → ReadsPiece now next buf n → limit < 2 ^ 64 → HasRead limit before next all
piece_none limit before now next all buf n none read piece wide =
    piece_read limit before now next all buf n read piece wide (omega (arith, none, read.within)) all
    (sym (ap (λ k. all ++ take k buf) none ∙ append-nil all))

-- The end of the input is not past the limit.
pub not_past : (limit : ℕ) (before next : SourceState) (all : List ℕ) → HasRead limit before next all
    → limit < rise before.taken next.taken → ⊥
not_past limit before next all read past = omega (arith, read.within, read.counts, past)

-- A result that is this error is no other.
pub same_error : {T E : Type 0} (stop other : E) (result : Result T E) → result ≡ Err stop → result ≡ Err other
    → stop ≡ other
same_error stop other result is too =
    ap (λ r. elim r [ Ok _ ↦ stop | Err e ↦ e ]) (sym is ∙ too)
