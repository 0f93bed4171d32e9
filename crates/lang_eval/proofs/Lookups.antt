-- Looking up variables, and binding parameters.
use Rattle.std.proofs.Common.{◌≡◌, ℕ, List, [], ◌∷◌, ◌++◌, ap, refl, ◌∙◌, length, if◌then◌else◌, arith}
use Rattle.std.specs.Str.{bytes_eq}
use Rattle.rt_values.specs.declared.value.Value.{Value}
use Rattle.rt_values.specs.Values.{no_value}
use Rattle.lang_ast.specs.Evaluation.{Bindings, lookup, lookup_or}
use Rattle.compose_model.specs.Composing.{bind}
use Rattle.lang_ast.specs.declared.syntax.Parameter.{Parameter}
use Rattle.lang_ast.specs.declared.binding.Binding.{Binding}

last_of : (v : Value) (env : Bindings) (b : Binding) (name : List ℕ)
    → lookup_or v (env ++ b ∷ []) name ≡ (if bytes_eq b.name name then b.value else lookup_or v env name)
last_of v [] b name = refl
last_of v (a ∷ env) b name = last_of (if bytes_eq a.name name then a.value else v) env b name

-- The last binding decides if it has the name.
pub lookup_last : (env before : Bindings) (b : Binding) (name : List ℕ) → env ≡ before ++ b ∷ []
    → lookup env name ≡ (if bytes_eq b.name name then b.value else lookup before name)
lookup_last env before b name is = ap (λ e. lookup e name) is ∙ last_of no_value before b name

-- Without arguments no parameter is bound.
pub bind_none : (ps : List Parameter) (vs : List Value) → length vs ≡ 0 → bind ps vs ≡ []
bind_none [] vs e = refl
bind_none (p ∷ ps) [] e = refl
bind_none (p ∷ ps) (v ∷ vs) e = absurd (omega (arith, e))
