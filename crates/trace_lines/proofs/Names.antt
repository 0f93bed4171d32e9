-- Names by number.
use Rattle.std.proofs.Common.{◌≡◌, ◌≤◌, ℕ, List, [], length, map, ap, ◌∙◌}
use Rattle.std.proofs.lemmas.Option.{slice_get-map, slice_get_past}
use Rattle.std.specs.Prelude.{Option, Some, None}
use Rattle.std.specs.Option.{option_map}
use Rattle.std.specs.List.{slice_get, cons_option}
use Rattle.lang_ast.specs.SyntaxView.{function_view, functions_view}
use Rattle.lang_ast.specs.declared.syntax.Function.{Function}
use Rattle.trace_lines.specs.TraceLines.{item_at, function_names}

-- An item of a mapped list, by what is at its index in the list.
pub item_at-map : {A B : Type 0} (f : A → B) (xs : List A) (i : ℕ) (o : Option A) → slice_get xs i ≡ o
    → item_at (map f xs) i ≡ cons_option (option_map f o) []
item_at-map f xs i o there = ap (λ p. cons_option p []) (slice_get-map f xs i ∙ ap (option_map f) there)

-- No name is at an index past the end.
pub name_past : {A : Type 0} (name : A → List ℕ) (xs : List A) (i : ℕ) → length xs ≤ i → item_at (map name xs) i ≡ []
name_past name xs i past = item_at-map name xs i None (slice_get_past xs i past)

-- The name of a function in memory.
pub function_name : (fs : List Function) (i : ℕ) (o : Option Function) → slice_get fs i ≡ o
    → item_at (function_names (functions_view fs)) i ≡ cons_option (option_map (λ f. f.name.text) o) []
function_name fs i None there =
    item_at-map (λ f. f.name.text) (functions_view fs) i None
    (slice_get-map function_view fs i ∙ ap (option_map function_view) there)
function_name fs i (Some f) there =
    item_at-map (λ f. f.name.text) (functions_view fs) i (Some (function_view f))
    (slice_get-map function_view fs i ∙ ap (option_map function_view) there)
