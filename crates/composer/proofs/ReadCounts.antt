-- The reads of calls, counted when the calls end.
use Rattle.std.proofs.Common.{ℕ, ◌+◌, ◌++◌, ◌≤◌, ◌≡◌, refl, List, length, length-append, ap, Result, Ok, Err, IsErr, OnOk, arith}

-- Reads that the view was asked for and that the innermost call made.
pub counted_after : {U E : Type 0} (result : Result U E) (w now : ℕ) (own own1 own2 a a1 a2 xs : List ℕ) → a1 ≡ a ++ xs
    → own1 ≡ own ++ xs → OnOk result (now + length own2 + length a1 ≡ w + length own1 + length a2) →
    OnOk result (now + length own2 + length a ≡ w + length own + length a2)
counted_after (Ok u) w now own own1 own2 a a1 a2 xs e1 e2 h =
    let f1 = ap (λ (l : List ℕ). length l) e1 in
    let f2 = ap (λ (l : List ℕ). length l) e2 in
    omega (arith, h, f1, f2, length-append a xs, length-append own xs)
counted_after (Err x) w now own own1 own2 a a1 a2 xs e1 e2 h = tt

-- Lengths of lists that grow.
pub longer_on : {U E : Type 0} (result : Result U E) (a b c : ℕ) → a ≤ b → OnOk result (b ≤ c) → OnOk result (a ≤ c)
longer_on (Ok u) a b c h k = omega (arith, h, k)
longer_on (Err x) a b c h k = tt

-- The number of reads after a cell. The keys of the cell read `xs`. The writer has `was` reads after the cell.
pub counted_cell : {U E : Type 0} (result : Result U E) (w was now : ℕ) (own own1 own2 own3 a a1 a2 a3 xs : List ℕ)
    → a1 ≡ a ++ xs → own1 ≡ own ++ xs → length own2 + length a1 ≡ length own1 + length a2 → was ≡ w →
    OnOk result (now + length own3 + length a2 ≡ was + length own2 + length a3)
    → OnOk result (now + length own3 + length a ≡ w + length own + length a3)
counted_cell (Ok u) w was now own own1 own2 own3 a a1 a2 a3 xs e1 e2 e3 e4 h =
    let f1 = ap (λ (l : List ℕ). length l) e1 in
    let f2 = ap (λ (l : List ℕ). length l) e2 in
    omega (arith, h, e3, e4, f1, f2, length-append a xs, length-append own xs)
counted_cell (Err x) w was now own own1 own2 own3 a a1 a2 a3 xs e1 e2 e3 e4 h = tt

-- An error meets every promise about good results.
pub stopped : {U E : Type 0} (A : Type 0) (result : Result U E) (x : E) → result ≡ Err x → OnOk result A
stopped A (Ok u) x e = cc
stopped A (Err y) x e = tt

-- The number of reads after a group that is kept. The writer has `was` reads after it.
pub counted_kept : {U E : Type 0} (result : Result U E) (w was now a a1 : ℕ) → was ≡ w
    → OnOk result (now + a ≡ was + a1) → OnOk result (now + a ≡ w + a1)
counted_kept (Ok u) w was now a a1 e h = omega (arith, e, h)
counted_kept (Err x) w was now a a1 e h = tt

pub failed : {U E : Type 0} (result : Result U E) (x : E) → result ≡ Err x → IsErr result
failed (Ok u) x e = cc
failed (Err y) x e = refl
