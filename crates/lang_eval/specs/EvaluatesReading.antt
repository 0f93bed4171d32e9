-- Internal: the contract of the functions that evaluate a part of an expression.
use Rattle.std.specs.Prelude.{ℕ, ◌++◌, ◌≡◌, List, Bool, true, false, Result, IfOk, OnOk, OnErr}
use Rattle.rt_values.specs.Maps.{Map}
use Rattle.rt_values.specs.Views.{Grew}
use Rattle.lang_ast.specs.ResultsWithReads.{Reading}

-- The effect of evaluating a part of an expression, where `r` is its value with its reads. A good result is this value,
-- and the view was asked for all reads, which are also noted if `noting` is true. Else the view was asked for a first
-- part of the reads. There is no error if nothing is noted, the view's reads take no memory (`free`) and each part of
-- the expression is a number or a truth value (`flat`).
pub record EvaluatesReading {A E : Type 0} (r : Reading A) (noting : Bool) (free : Type 0) (flat : Bool)
    (asked asked' reads reads' : List ℕ) (result : Result A E) : Type 0 where
  pub value : IfOk result (λ v. v ≡ r.value)
  pub came : OnOk result (asked' ≡ asked ++ r.reads)
  pub noted : noting ≡ true → OnOk result (reads' ≡ reads ++ r.reads)
  pub part : OnErr result (Grew asked asked' r.reads)
  pub no_error : noting ≡ false → free → flat ≡ true → OnErr result ⊥

-- The state of a loop that evaluates operands one by one, where `rest` is the part of the reading `r` that remains.
pub record EvaluationProgress {A : Type 0} (rest r : Reading A) (noting : Bool)
    (asked asked' reads reads' : List ℕ) : Type 0 where
  pub value : rest.value ≡ r.value
  pub came : asked' ++ rest.reads ≡ asked ++ r.reads
  pub noted : noting ≡ true → reads' ++ rest.reads ≡ reads ++ r.reads

-- The contract of evaluating a part of an expression: `t m` is its value with its reads in the map `m`, and `flat m`
-- says whether each part of the expression has a number or a truth value there. The view changes only by reads, and it
-- shows the same maps. The effect is that of the reading in each map that the view shows.
pub record Evaluates {W : Type 0} (shown : W → Map → Type 0) (asked : W → List ℕ) (kept : W → W → Type 0)
    (free : W → Type 0) (noting : Bool) {A E : Type 0} (t : Map → Reading A) (flat : Map → Bool) (view view' : W)
    (reads reads' : List ℕ) (result : Result A E) : Type 0 where
  pub keeps : kept view view'
  pub same : (m : Map) → shown view m → shown view' m
  pub gives : (m : Map) → shown view m →
      EvaluatesReading (t m) noting (free view) (flat m) (asked view) (asked view') reads reads' result
