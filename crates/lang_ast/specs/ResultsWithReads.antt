-- Trusted: results together with the state objects that were read for them.
use Rattle.std.specs.Prelude.{ℕ, List, [], ◌++◌}

-- A result with the objects that were read for it, in order, repeats included.
pub record Reading (A : Type 0) : Type 0 where
  pub value : A
  pub reads : List ℕ

-- A result without reads.
abbrev pub pure_reading : {A : Type 0} → A → Reading A
pure_reading a = record { value = a; reads = [] }

-- A function applied to the result.
abbrev pub mapped_reading : {A B : Type 0} → (A → B) → Reading A → Reading B
mapped_reading f r = record { value = f r.value; reads = r.reads }

-- The continuation `go` after `r`: its result, and the reads of both in order.
abbrev pub with : {A B : Type 0} → Reading A → (A → Reading B) → Reading B
with r go = record { value = (go r.value).value; reads = r.reads ++ (go r.value).reads }
