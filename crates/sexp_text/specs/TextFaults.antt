-- Trusted: why bytes are refused, and where. The offset is that of the first byte with which they begin no text that
-- nests at most 100 deep. So of a byte that is wrong and a list that is too deep, the one with the lesser offset is
-- reported.
use Rattle.std.specs.Prelude.{◌≡◌, ◌≤◌, ◌<◌, ◌++◌, ℕ, suc, List, length, take, slice_index}
use Rattle.std.specs.Str.{IsUtf8}
use Rattle.std.specs.Str.Lossy.{utf8_valid_len}
use Rattle.sexp_text.specs.declared.stop.TextStop.{TextStop}
use Rattle.sexp_text.specs.declared.stop.TextStop.TheVariants as stops
use Rattle.sexp_text.specs.Forest.{Forest, list_nesting}
use Rattle.sexp_text.specs.Grammar.{Spells}

-- The bytes are a prefix of a source text.
pub record IsTextFront (bytes : List ℕ) : Type 0 where
  pub more : List ℕ
  pub forest : Forest
  pub spells : Spells (bytes ++ more) forest

-- The bytes are a prefix of a source text whose lists nest at most 100 deep.
pub record IsShallowTextFront (bytes : List ℕ) : Type 0 where
  pub more : List ℕ
  pub forest : Forest
  pub spells : Spells (bytes ++ more) forest
  pub shallow : list_nesting forest ≤ 100

-- The bytes before the offset are a prefix of a text that nests at most 100 deep. With the byte at the offset they
-- are a prefix of none; or the offset is their end, and they are no text.
pub record IsBadAt (bytes : List ℕ) (at : ℕ) : Type 0 where
  pub utf8 : IsUtf8 bytes
  pub within : at ≤ length bytes
  pub before : IsShallowTextFront (take at bytes)
  pub stuck : at < length bytes → ¬ IsTextFront (take (suc at) bytes)
  pub unfinished : at ≡ length bytes → (f : Forest) → ¬ Spells bytes f

-- The bytes before the offset are a prefix of a text that nests at most 100 deep. The byte at the offset is `(`, and
-- with it they are only prefixes of deeper texts.
pub record IsTooDeepAt (bytes : List ℕ) (at : ℕ) : Type 0 where
  pub utf8 : IsUtf8 bytes
  pub within : at < length bytes
  pub before : IsShallowTextFront (take at bytes)
  pub opens : slice_index bytes at ≡ 40
  pub begins : IsTextFront (take (suc at) bytes)
  pub deep : ¬ IsShallowTextFront (take (suc at) bytes)

-- The cause of a refusal. Bytes that are not UTF-8 are refused for that, at the length of their longest prefix that
-- is UTF-8. A lack of memory has no cause in the bytes.
abbrev pub Cause : List ℕ → TextStop → Type 0
Cause bytes (stops.NotUtf8 at) = ¬ IsUtf8 bytes × (at ≡ utf8_valid_len bytes)
Cause bytes (stops.Bad at) = IsBadAt bytes at
Cause bytes (stops.TooDeep at) = IsTooDeepAt bytes at
Cause bytes stops.NoMemory = Unit {0}
