-- Trusted: histories of calls by several callers.
use Rattle.std.specs.Prelude.{◌≡◌, ℕ, ◌==◌, List, [], ◌∷◌, ◌++◌, if◌then◌else◌}
use Rattle.snap_policy.specs.Rules.{Rules}
use Rattle.snap_api.specs.declared.data.Entry.{Entry}
use Rattle.snap_api.specs.World.{World, IsLegal, world_after}

-- The caller of a log entry.
abbrev pub caller_of : Entry → ℕ
caller_of e = e.caller

-- `StartsWith ys xs`: the history xs is a prefix of ys.
abbrev pub StartsWith : {E : Type 0} → List E → List E → Type 0
StartsWith {E} ys xs = (rest : List E) × (ys ≡ xs ++ rest)

-- The entries of caller n, in order.
abbrev pub calls_by : {E : Type 0} → (E → ℕ) → ℕ → List E → List E
calls_by caller n [] = []
calls_by caller n (e ∷ es) = if caller e == n then e ∷ calls_by caller n es else calls_by caller n es

-- The history is legal from each plain world that the opening world represents.
abbrev pub IsLegalFrom : {W P : Type 0} → Rules P → (W → World P → Type 0) → W → List Entry → Type 0
IsLegalFrom {W} {P} rules stands opening log = (w : World P) → stands opening w → IsLegal rules w log

-- For each plain world that the opening world represents, the history is legal and `now` represents the world after it.
abbrev pub IsWorldAfter : {W P : Type 0} → Rules P → (W → World P → Type 0) → W → List Entry → W → Type 0
IsWorldAfter {W} {P} rules stands opening log now =
    (w : World P) → stands opening w → IsLegal rules w log × stands now (world_after rules w log)
