-- Sites that are counted rise, so each statement is the first one at its site.
use Rattle.std.proofs.Common.{arith, ◌≡◌, ◌<◌, ◌≤◌, ◌+◌, ◌==◌, ℕ, List, [], ◌∷◌, map, Bool, true, false, Some, None, refl, ap, eqb-true, eq-eqb, if◌then◌else◌}
use Rattle.lang_ast.specs.Terms.{Stmt}
use Rattle.lang_ast.specs.Programs.{site_of, statement_at, Each}
use Rattle.lang_ast.proofs.Statements.{each_follows, each_of_both}
use Rattle.lang_checks.specs.Numbers.{Counts}

-- `Rises k xs`: each number is above the number before it, and the first is above `k`.
abbrev pub Rises : ℕ → List ℕ → Type 0
Rises k [] = Unit {0}
Rises k (x ∷ xs) = (k < x) × Rises x xs

pub counts_rise : (k n : ℕ) (xs : List ℕ) → k < n → Counts n xs → Rises k xs
counts_rise k n [] lt h = tt
counts_rise k n (x ∷ xs) lt h = (omega (arith, lt, h.0), counts_rise x (n + 1) xs (omega (arith, h.0)) h.1)

-- The sites of statements after `k` are above `k`.
above : (k : ℕ) (ss : List Stmt) → Rises k (map site_of ss) → Each (λ s. k < site_of s) ss
above k [] h = tt
above k (s ∷ ss) h = (
  h.0,
  each_follows (λ t. site_of s < site_of t) (λ t. k < site_of t) ss (λ t lt. omega (arith, h.0, lt))
      (above (site_of s) ss h.1),
)

found_later : (s t : Stmt) (ss : List Stmt) → site_of s < site_of t → statement_at (site_of t) ss ≡ Some t
    → statement_at (site_of t) (s ∷ ss) ≡ Some t
found_later s t ss lt e = by (site_of s == site_of t) refl
  where
    by : (b : Bool) → (site_of s == site_of t) ≡ b → (if b then Some s else statement_at (site_of t) ss) ≡ Some t
    by true is = let same = eqb-true (site_of s) (site_of t) is in absurd (omega (arith, lt, same))
    by false is = e

-- Each of some statements with rising sites is the one that a look-up finds at its site.
pub each_is_found : (k : ℕ) (ss : List Stmt) → Rises k (map site_of ss)
    → Each (λ s. statement_at (site_of s) ss ≡ Some s) ss
each_is_found k [] h = tt
each_is_found k (s ∷ ss) h = (
  ap (λ (b : Bool). if b then Some s else statement_at (site_of s) ss) (eq-eqb (site_of s) (site_of s) refl),
  each_of_both (λ t. site_of s < site_of t) (λ t. statement_at (site_of t) ss ≡ Some t)
      (λ t. statement_at (site_of t) (s ∷ ss) ≡ Some t) ss (λ t lt e. found_later s t ss lt e)
      (above (site_of s) ss h.1) (each_is_found (site_of s) ss h.1),
)

-- No statement is at a site before the first.
pub none_before : (k x : ℕ) (ss : List Stmt) → x ≤ k → Rises k (map site_of ss) → statement_at x ss ≡ None
none_before k x [] le h = refl
none_before k x (s ∷ ss) le h = by (site_of s == x) refl (none_before (site_of s) x ss (omega (arith, le, h.0)) h.1)
  where
    by : (b : Bool) → (site_of s == x) ≡ b → statement_at x ss ≡ None
        → (if b then Some s else statement_at x ss) ≡ None
    by true is rest = let same = eqb-true (site_of s) x is in absurd (omega (arith, le, h.0, same))
    by false is rest = rest
