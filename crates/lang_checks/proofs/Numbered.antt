-- Functions in memory by their numbers, and the names of parts in memory.
use Rattle.std.proofs.Common.{◌≡◌, ℕ, List, [], ◌∷◌, map, slice_get, option_map, refl, ap}
use Rattle.std.proofs.lemmas.Option.{slice_get-map}
use Rattle.lang_ast.proofs.Functions.{how_many_functions}
use Rattle.lang_ast.specs.Terms.{Named as named, Func}
use Rattle.lang_ast.specs.SyntaxView.{function_view, functions_view, nameds_view}
use Rattle.lang_ast.specs.declared.syntax.Ident.{Ident}
use Rattle.lang_ast.specs.declared.syntax.Named.{Named}
use Rattle.lang_ast.specs.declared.syntax.Function.{Function}

pub function_at : (fs : List Function) (i : ℕ)
    → slice_get (functions_view fs) i ≡ option_map function_view (slice_get fs i)
function_at fs i = slice_get-map function_view fs i

pub names_of : (ns : List Named) → map (λ (n : named). n.name) (nameds_view ns) ≡ map (λ (n : Named). n.name) ns
names_of [] = refl
names_of (n ∷ ns) = ap (λ (rest : List Ident). n.name ∷ rest) (names_of ns)

pub function_names : (fs : List Function)
    → map (λ (f : Func). f.name) (functions_view fs) ≡ map (λ (f : Function). f.name) fs
function_names [] = refl
function_names (f ∷ fs) = ap (λ (rest : List Ident). f.name ∷ rest) (function_names fs)

pub ruleset functions = (function_names, how_many_functions)
