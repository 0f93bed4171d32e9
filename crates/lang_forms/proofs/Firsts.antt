-- The first forms of a program, as many as it may have.
use Rattle.std.proofs.Common.{◌≡◌, ◌∙◌, ℕ, min, List, length, take, map, ap, sym}
use Rattle.std.proofs.Math.Nat.{min_comm}
use Rattle.std.proofs.lemmas.List.{take_min, take-map}
use Rattle.lang_ast.specs.SyntaxView.{function_view, functions_view}
use Rattle.lang_ast.specs.declared.program.State.{State}
use Rattle.lang_ast.specs.declared.syntax.Function.{Function}
use Rattle.lang_ast.specs.Sizes.{most_forms}
use Rattle.lang_forms.specs.Forms.{state_name, function_name}
use Rattle.lang_forms.specs.Views.{state_names}

firsts : {A : Type 0} (xs : List A) (k : ℕ) → k ≡ min (length xs) most_forms → take k xs ≡ take most_forms xs
firsts xs k e = ap (λ (n : ℕ). take n xs) (e ∙ min_comm (length xs) most_forms) ∙ take_min most_forms xs

pub first_states : (ss : List State) (k : ℕ) → k ≡ min (length ss) most_forms
    → state_names (take k ss) ≡ take most_forms (state_names ss)
first_states ss k e = ap state_names (firsts ss k e) ∙ sym (take-map state_name most_forms ss)

pub first_functions : (fs : List Function) (k : ℕ) → k ≡ min (length fs) most_forms
    → map function_name (functions_view (take k fs)) ≡ take most_forms (map function_name (functions_view fs))
first_functions fs k e =
    ap (map function_name) (ap functions_view (firsts fs k e) ∙ sym (take-map function_view most_forms fs))
    ∙ sym (take-map function_name most_forms (functions_view fs))
