-- Lemmas about prefixes of the bytes to be written, for callers of `write_all` that write in several calls.
use Rattle.std.proofs.Common.{ℕ, List, [], ◌++◌, refl, sym, ap, ◌∙◌, append_assoc, take, drop, take-append-drop, append-nil}
use Rattle.std.specs.declared.option.Option.{Option}
use Rattle.std.specs.Io.KnownBytes.{Appends, Keeps}
use Rattle.std.proofs.KnownBytes.{Appends-trans, Appends-nil, Appends-kept}
use Rattle.rt_streams.specs.Streams.{AppendsPart}

-- All of xs and then a prefix of ys is a prefix of both.
pub part-behind : (a b c : Option (List ℕ)) (xs ys : List ℕ) → Appends a b xs → AppendsPart b c ys
    → AppendsPart a c (xs ++ ys)
part-behind a b c xs ys all part = (
  xs ++ part.0,
  part.1,
  append_assoc xs part.0 part.1 ∙ ap (λ l. xs ++ l) part.2,
  Appends-trans a b c xs part.0 all part.3,
)

-- A prefix of xs is a prefix of xs ++ ys.
pub part-front : (a b : Option (List ℕ)) (xs ys : List ℕ) → AppendsPart a b xs → AppendsPart a b (xs ++ ys)
part-front a b xs ys part = (
  part.0,
  part.1 ++ ys,
  sym (append_assoc part.0 part.1 ys)
      ∙ ap (λ l. l ++ ys) part.2,
  part.3,
)

-- An append of the first `n` bytes appends a prefix.
pub part-take : (a b : Option (List ℕ)) (n : ℕ) (xs : List ℕ) → Appends a b (take n xs) → AppendsPart a b xs
part-take a b n xs front = (take n xs, drop n xs, take-append-drop n xs, front)

-- An append of no bytes appends a prefix.
pub part-none : (a : Option (List ℕ)) (xs : List ℕ) → AppendsPart a a xs
part-none a xs = ([], xs, refl, Appends-nil a)

-- All of xs is a prefix of xs ++ ys.
pub part-all : (a b : Option (List ℕ)) (xs ys : List ℕ) → Appends a b xs → AppendsPart a b (xs ++ ys)
part-all a b xs ys all = (xs, ys, refl, all)

-- A step that keeps the bytes keeps what was appended before.
pub appends-kept : (a b c : Option (List ℕ)) (xs : List ℕ) → Appends a b xs → Keeps b c → Appends a c xs
appends-kept a b c xs before kept = Appends-kept a b c xs before kept

-- Appending no byte keeps what was appended before.
pub appends-nothing : (a b c : Option (List ℕ)) (xs : List ℕ) → Appends a b xs → Appends b c [] → Appends a c xs
appends-nothing a b c xs before nothing = rw append-nil at (Appends-trans a b c xs [] before nothing)
