-- Capped chains have the faults of the uncapped ones.
use Rattle.std.proofs.Common.{arith, ◌≡◌, ◌∙◌, ℕ, ◌+◌, min, max, nat_le, List, [], ◌∷◌, ◌++◌, map, refl, sym, ap}
use Rattle.std.proofs.Math.ListN.{get_or-map}
use Rattle.std.proofs.lemmas.Bool.Decides.{nat_tests}
use Rattle.std.proofs.lemmas.List.{map-append}
use Rattle.lang_ast.specs.Terms.{Stmt, Call, If, Block, Stmts, done, next, Func}
use Rattle.lang_checks.specs.declared.faults.CheckKind.TheVariants as kind
use Rattle.lang_checks.specs.declared.faults.ProgramFault.{ProgramFault}
use Rattle.lang_checks.specs.FaultOrder.{fault_unless}
use Rattle.lang_checks.specs.Chains.{most_chain, longest, longest_in, chain, chains_faults}
use Rattle.lang_checks.specs.CappedChains.{extended_chain, capped_chain, capped_faults}

abbrev cap : ℕ → ℕ
cap n = min n 33

max_cap : (a b : ℕ) → max (cap a) (cap b) ≡ cap (max a b)
max_cap a b = omega arith

longer_cap : (n : ℕ) → extended_chain (cap n) ≡ cap (n + 1)
longer_cap n = grind (arith, nat_tests)

le_cap : (n : ℕ) → nat_le (cap n) most_chain ≡ nat_le n most_chain
le_cap n = grind (arith, nat_tests)

mutual
  longest_cap : (ds : List ℕ) (s : Stmt) → longest (map cap ds) s ≡ cap (longest ds s)
  longest_cap ds (Call at site name f arguments) = get_or-map cap ds f 0
  longest_cap ds (If at site condition a b) =
      ap (λ (n : ℕ). max n (longest_in (map cap ds) b)) (longest_in_cap ds a)
      ∙ ap (max (cap (longest_in ds a))) (longest_in_cap ds b)
      ∙ max_cap (longest_in ds a) (longest_in ds b)
  longest_cap ds (Block at site head body) = longest_in_cap ds body

  longest_in_cap : (ds : List ℕ) (ss : Stmts) → longest_in (map cap ds) ss ≡ cap (longest_in ds ss)
  longest_in_cap ds done = refl
  longest_in_cap ds (next s ss) =
      ap (λ (n : ℕ). max n (longest_in (map cap ds) ss)) (longest_cap ds s)
      ∙ ap (max (cap (longest ds s))) (longest_in_cap ds ss)
      ∙ max_cap (longest ds s) (longest_in ds ss)

chain_cap : (ds : List ℕ) (f : Func) → capped_chain (map cap ds) f ≡ cap (chain ds f)
chain_cap ds f = ap extended_chain (longest_in_cap ds f.body) ∙ longer_cap (longest_in ds f.body)

faults_cap : (ds : List ℕ) (fs : List Func) → capped_faults (map cap ds) fs ≡ chains_faults ds fs
faults_cap ds [] = refl
faults_cap ds (f ∷ fs) =
    ap (λ (n : ℕ). fault_unless (nat_le n most_chain) kind.Order f.at ++ capped_faults (map cap ds ++ n ∷ []) fs)
    (chain_cap ds f)
    ∙ ap (λ b. fault_unless b kind.Order f.at ++ capped_faults (map cap ds ++ cap (chain ds f) ∷ []) fs)
    (le_cap (chain ds f))
    ∙ ap (λ (l : List ℕ). fault_unless (nat_le (chain ds f) most_chain) kind.Order f.at ++ capped_faults l fs)
    (sym (map-append cap ds (chain ds f ∷ [])))
    ∙ ap (λ (l : List ProgramFault). fault_unless (nat_le (chain ds f) most_chain) kind.Order f.at ++ l)
    (faults_cap (ds ++ chain ds f ∷ []) fs)

pub capped_is : (fs : List Func) → capped_faults [] fs ≡ chains_faults [] fs
capped_is fs = faults_cap [] fs
