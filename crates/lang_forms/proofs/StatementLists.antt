-- A loop over trees that parses one more statement of a list.
use Rattle.std.proofs.Common.{◌≡◌, ℕ, suc, ◌+◌, ◌<◌, List, [], ◌∷◌, ◌++◌, length, map, drop, drop-cons, get_or, add-one, Option, Some, None, refl, sym, ◌∙◌, ap, append_assoc}
use Rattle.std.specs.Option.{option_map}
use Rattle.sexp_text.specs.declared.tree.Tree.{Tree}
use Rattle.lang_ast.specs.Terms.{Stmt}
use Rattle.lang_ast.specs.SyntaxView.{stmt_view}
use Rattle.lang_ast.specs.declared.syntax.Statement.{Statement}
use Rattle.lang_forms.specs.Forms.{KnownNames}
use Rattle.lang_forms.specs.Readings.{◌>>=◌, stmt_at, stmts_of}
use Rattle.lang_forms.specs.Views.{seen_tree, seen_all}

tree_next : (ts : List Tree) (i : ℕ) (t : Tree) → i < length ts → t ≡ get_or ts i t → drop i ts ≡ t ∷ drop (i + 1) ts
tree_next ts i t h is = rw (add-one) (drop-cons ts i t h ∙ ap (λ (x : Tree). x ∷ drop (suc i) ts) (sym is))

map_more : (ss : List Statement) (s : Statement) → map stmt_view (ss ++ (s ∷ [])) ≡ map stmt_view ss ++ (stmt_view s ∷ [])
map_more [] s = refl
map_more (x ∷ ss) s = ap (λ (l : List Stmt). stmt_view x ∷ l) (map_more ss s)

-- Parsed statements with others ahead of them.
abbrev ahead : List Stmt → List Stmt × ℕ → List Stmt × ℕ
ahead xs r = (xs ++ r.0, r.1)

-- Parsed statements with one ahead of them.
abbrev ahead_of : Stmt → List Stmt × ℕ → List Stmt × ℕ
ahead_of x r = (x ∷ r.0, r.1)

-- Parsed statements and the number of the next statement.
abbrev there : ℕ → List Stmt → Option (List Stmt × ℕ)
there n xs = Some (xs, n)

add_one : (before all : List Stmt) (x : Stmt) (o : Option (List Stmt × ℕ)) → all ≡ before ++ (x ∷ [])
    → option_map (ahead all) o ≡ option_map (ahead before) (option_map (ahead_of x) o)
add_one before all x None e = refl
add_one before all x (Some r) e = ap (λ (l : List Stmt). Some (ahead l r)) e
    ∙ ap (there r.1) (append_assoc before (x ∷ []) r.0)

-- The invariant of the loop after one more statement.
pub one_more_statement : (m : KnownNames) (k n after : ℕ) (ss more : List Statement) (ts : List Tree) (i : ℕ)
    (t : Tree) (s : Statement) → i < length ts → t ≡ get_or ts i t
    → stmt_at m n (seen_tree t) ≡ Some (stmt_view s, after) → more ≡ ss ++ (s ∷ [])
    → option_map (ahead (map stmt_view ss)) (stmts_of m n (seen_all (drop i ts)))
    ≡ stmts_of m k (seen_all ts)
    → option_map (ahead (map stmt_view more)) (stmts_of m after (seen_all (drop (i + 1) ts)))
    ≡ stmts_of m k (seen_all ts)
unfolding stmts_of
one_more_statement m k n after ss more ts i t s h is first grown so_far =
    add_one (map stmt_view ss) (map stmt_view more) (stmt_view s) (stmts_of m after (seen_all (drop (i + 1) ts)))
    (ap (λ (l : List Statement). map stmt_view l) grown ∙ map_more ss s)
    ∙ ap (λ (o : Option (List Stmt × ℕ)). option_map (ahead (map stmt_view ss)) o)
    (sym (ap (λ (l : List Tree). stmts_of m n (seen_all l)) (tree_next ts i t h is)
    ∙ ap (λ (o : Option (Stmt × ℕ)). o >>= λ x. option_map (ahead_of x.0)
    (stmts_of m x.1 (seen_all (drop (i + 1) ts)))) first))
    ∙ so_far
