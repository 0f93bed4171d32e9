-- Functions in memory, by their numbers.
use Rattle.std.proofs.Common.{◌≡◌, ℕ, zero, suc, ◌<◌, List, [], ◌∷◌, length, get_or, take, refl, ap, arith}
use Rattle.std.proofs.lemmas.List.{length-map}
use Rattle.lang_ast.specs.Terms.{Func}
use Rattle.lang_ast.specs.SyntaxView.{function_view, functions_view}
use Rattle.lang_ast.specs.declared.syntax.Function.{Function}

pub how_many_functions : (fs : List Function) → length (functions_view fs) ≡ length fs
how_many_functions fs = length-map fs function_view

pub functions_at : (fs : List Function) (j : ℕ) (f : Function) → j < length fs
    → get_or (functions_view fs) j (function_view f) ≡ function_view (get_or fs j f)
functions_at [] j f below = absurd (omega arith)
functions_at (g ∷ fs) zero f below = refl
functions_at (g ∷ fs) (suc j) f below = functions_at fs j f (omega arith)

pub functions_front : (fs : List Function) (j : ℕ) → take j (functions_view fs) ≡ functions_view (take j fs)
functions_front fs zero = refl
functions_front [] (suc j) = refl
functions_front (f ∷ fs) (suc j) = ap (λ (l : List Func). function_view f ∷ l) (functions_front fs j)
