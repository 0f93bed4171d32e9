-- Trusted: the faults of functions, of states, and of a whole program.
use Rattle.std.specs.Prelude.{ℕ, ◌+◌, ◌==◌, ◌&&◌, ◌||◌, not, nat_lt, Bool, List, [], ◌∷◌, ◌++◌, map, length}
use Rattle.rt_values.specs.Values.{type_of, same_type}
use Rattle.snap_policy.specs.Table.{table_fits}
use Rattle.lang_ast.specs.declared.syntax.Parameter.{Parameter}
use Rattle.lang_ast.specs.declared.program.State.{State}
use Rattle.lang_ast.specs.Terms.{Func}
use Rattle.lang_ast.specs.Programs.{Program, is_root, root_number}
use Rattle.lang_checks.specs.declared.environment.TypedName.{TypedName}
use Rattle.lang_checks.specs.declared.faults.CheckKind.TheVariants as kind
use Rattle.lang_checks.specs.declared.faults.ProgramFault.{ProgramFault}
use Rattle.lang_checks.specs.FaultOrder.{fault_unless}
use Rattle.lang_checks.specs.Scopes.{typed_name, duplicate_faults}
use Rattle.lang_checks.specs.Statements.{stmts_faults}
use Rattle.lang_checks.specs.Chains.{chains_faults}

-- Whether the initial value of a state has its type, and its policy fits the type.
abbrev pub is_well_typed : State → Bool
is_well_typed s = same_type (type_of s.initial) s.ty && table_fits s.policy s.ty

-- The faults of states whose initial value has another type, or whose policy does not fit the type.
abbrev pub states_faults : List State → List ProgramFault
states_faults [] = []
states_faults (s ∷ ss) = fault_unless (is_well_typed s) kind.Type s.at ++ states_faults ss

abbrev pub bound_parameters : List Parameter → List TypedName
bound_parameters ps = map (λ q. typed_name q.name q.ty) ps

-- The faults of a function: duplicate parameters, a root with parameters, and the faults of the body, whose variables
-- are the parameters.
abbrev pub function_faults : List State → List Func → ℕ → Func → List ProgramFault
function_faults states functions me f =
    duplicate_faults [] (map (λ q. q.name) f.parameters)
    ++ (fault_unless (not (is_root f) || (length f.parameters == 0)) kind.Type f.at
    ++ stmts_faults (record { states = states; functions = functions; me = me }) (bound_parameters f.parameters)
    f.body)

-- The faults of functions, the first of which has the number `me`.
abbrev pub functions_faults : List State → List Func → ℕ → List Func → List ProgramFault
functions_faults states functions me [] = []
functions_faults states functions me (f ∷ fs) = function_faults states functions me f
    ++ functions_faults states functions (me + 1) fs

-- The faults of a program: duplicate states and functions, no root, and the faults of states, functions and chains of
-- calls.
abbrev pub program_faults : Program → List ProgramFault
program_faults p =
    duplicate_faults [] (map (λ s. s.name) p.states) ++ (duplicate_faults [] (map (λ f. f.name) p.functions)
    ++ (fault_unless (nat_lt (root_number p.functions) (length p.functions)) kind.Unknown p.header
    ++ (states_faults p.states ++ (functions_faults p.states p.functions 0 p.functions
    ++ chains_faults [] p.functions))))
