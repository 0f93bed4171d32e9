-- Internal: chains whose lengths are capped at 33, since all lengths over the limit are equally wrong.
use Rattle.std.specs.Prelude.{ℕ, ◌+◌, nat_le, List, [], ◌∷◌, ◌++◌, if◌then◌else◌}
use Rattle.lang_ast.specs.Terms.{Func}
use Rattle.lang_checks.specs.declared.faults.CheckKind.TheVariants as kind
use Rattle.lang_checks.specs.declared.faults.ProgramFault.{ProgramFault}
use Rattle.lang_checks.specs.FaultOrder.{fault_unless}
use Rattle.lang_checks.specs.Chains.{most_chain, longest_in}

-- The length plus one, capped at 33.
abbrev pub extended_chain : ℕ → ℕ
extended_chain n = if nat_le n most_chain then n + 1 else most_chain + 1

-- The number of functions in the longest chain of a function, capped.
abbrev pub capped_chain : List ℕ → Func → ℕ
capped_chain chains f = extended_chain (longest_in chains f.body)

-- The faults of functions whose capped chains are too long.
abbrev pub capped_faults : List ℕ → List Func → List ProgramFault
capped_faults chains [] = []
capped_faults chains (f ∷ fs) = fault_unless (nat_le (capped_chain chains f) most_chain) kind.Order f.at
    ++ capped_faults (chains ++ capped_chain chains f ∷ []) fs
