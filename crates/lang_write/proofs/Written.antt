-- Forests that grow at their end.
use Rattle.std.proofs.Common.{◌≡◌, ℕ, suc, ◌+◌, ◌≤◌, ◌<◌, List, [], ◌∷◌, refl, length, get_or, drop, sym, ap, ◌∙◌, drop-cons, add-one, arith, codes, None}
use Rattle.std.proofs.lemmas.Grind.{common_steps}
use Rattle.std.specs.Fmt.{signed_decimal}
use Rattle.sexp_text.specs.Forest.{Forest, empty, atom, text, list, joined_trees, without_offsets}
use Rattle.sexp_text.specs.View.{forest_view}
use Rattle.sexp_text.specs.declared.tree.Tree.{Tree}
use Rattle.sexp_text.proofs.Trees.{joined_trees-empty, joined_trees_assoc, forest_view-push, view-Atom, view-Text, view-List}
use Rattle.lang_ast.specs.Terms.{Expr, Stmts, If, more, next, Func}
use Rattle.lang_ast.specs.declared.program.State.{State}
use Rattle.lang_ast.specs.declared.script.DoForm.{DoForm}
use Rattle.lang_ast.specs.SyntaxView.{expr_view, exprs_view, stmt_view, stmts_view}
use Rattle.lang_ast.specs.declared.syntax.Expression.{Expression}
use Rattle.lang_ast.specs.declared.syntax.Statement.{Statement}
use Rattle.lang_forms.specs.Sketch.{Sketch, nothing, leaf, numeral, string, group, sequence, Fits, unplaced_sketch}
use Rattle.lang_forms.specs.Forms.{word, name, literal, expr_forms, exprs_forms, stmt_forms, stmts_forms, parameters_forms, states_forms, functions_forms, scripts_forms, top_forms, text_forms}
use Rattle.lang_forms.specs.Sources.{Source}
use Rattle.lang_write.specs.Appends.{AppendsForms, StartsForm}
use Rattle.rt_values.specs.Keywords.{type_word}
use Rattle.lang_forms.specs.Words.{version_word, policy_word}

-- What a walk that adds trees needs.
pub ruleset written = (forest_view-push, joined_trees_assoc, joined_trees-empty, view-Atom, view-Text, view-List)

pub exprs_step : (es : List Expression) (i : ℕ) (e : Expression) → i < length es → e ≡ get_or es i e →
    unplaced_sketch (exprs_forms (exprs_view (drop i es)))
    ≡ unplaced_sketch (expr_forms (expr_view e) (exprs_forms (exprs_view (drop (i + 1) es))))
exprs_step es i e h is =
    ap (λ (l : List Expression). unplaced_sketch (exprs_forms (exprs_view l))) (drop-cons es i e h)
    ∙ ap (λ (x : Expression). unplaced_sketch (exprs_forms (more (expr_view x) (exprs_view (drop (suc i) es)))))
    (sym is)
    ∙ ap (λ (k : ℕ). unplaced_sketch (exprs_forms (more (expr_view e) (exprs_view (drop k es))))) (sym (add-one i))

pub stmts_step : (ss : List Statement) (i : ℕ) (s : Statement) → i < length ss → s ≡ get_or ss i s →
    unplaced_sketch (stmts_forms (stmts_view (drop i ss)))
    ≡ unplaced_sketch (stmt_forms (stmt_view s) (stmts_forms (stmts_view (drop (i + 1) ss))))
stmts_step ss i s h is =
    ap (λ (l : List Statement). unplaced_sketch (stmts_forms (stmts_view l))) (drop-cons ss i s h)
    ∙ ap (λ (x : Statement). unplaced_sketch (stmts_forms (next (stmt_view x) (stmts_view (drop (suc i) ss))))) (sym is)
    ∙ ap (λ (k : ℕ). unplaced_sketch (stmts_forms (next (stmt_view s) (stmts_view (drop k ss))))) (sym (add-one i))

past_none : {A : Type 0} (xs : List A) (i : ℕ) → length xs ≤ i → drop i xs ≡ []
past_none xs i h = grind (arith, common_steps)

-- No tree is left to append.
pub all_there : {A : Type 0} (trees : List A → Forest) → trees [] ≡ empty → (f r : Forest) (xs : List A) (i : ℕ)
    → length xs ≤ i → joined_trees f (trees (drop i xs)) ≡ r → f ≡ r
all_there trees none f r xs i h was =
    sym (ap (joined_trees f) (ap trees (past_none xs i h) ∙ none) ∙ joined_trees-empty f) ∙ was

-- The trees of a forest that fits a sketch, except for offsets.
pub fits_unplaced : (f : Forest) (s : Sketch) → Fits f s → without_offsets f ≡ unplaced_sketch s
fits_unplaced f nothing h = ap without_offsets h
fits_unplaced f (leaf p a g) h = ap without_offsets h.2 ∙ ap (atom 0 a) (fits_unplaced h.1 g h.4)
fits_unplaced f (numeral p z g) h = ap without_offsets h.2 ∙ ap (atom 0 (signed_decimal z)) (fits_unplaced h.1 g h.4)
fits_unplaced f (string p s g) h = ap without_offsets h.2 ∙ ap (text 0 s) (fits_unplaced h.1 g h.4)
fits_unplaced f (group p i g) h = ap without_offsets h.3
    ∙ ap (λ (x : Forest). list 0 x (without_offsets h.2)) (fits_unplaced h.1 i h.5)
    ∙ ap (list 0 (unplaced_sketch i)) (fits_unplaced h.2 g h.6)
fits_unplaced f (sequence p i g) h = ap without_offsets h.3
    ∙ ap (λ (x : Forest). list 0 x (without_offsets h.2)) (fits_unplaced h.1 i h.5)
    ∙ ap (list 0 (unplaced_sketch i)) (fits_unplaced h.2 g h.6)

-- No item is left to append.
pub none_left : {A : Type 0} (trees : List A → Forest) → trees [] ≡ empty → (f r : Forest) (xs : List A) → length xs ≡ 0
    → joined_trees f (trees xs) ≡ r → f ≡ r
none_left trees none f r xs h was = all_there trees none f r xs 0 (omega (arith, h)) was

-- A form with its start and a body of statements.
pub body_put : (start : Sketch → Sketch) (body : Stmts) (old new inner : List Tree) → StartsForm inner start →
    forest_view new ≡ joined_trees (forest_view old)
    (list 0 (joined_trees (forest_view inner) (unplaced_sketch (stmts_forms body))) empty) →
    AppendsForms old new (λ g. group None (start (stmts_forms body)) g)
body_put start body old new inner starts put g =
    ap (λ (x : Forest). joined_trees x (unplaced_sketch g))
    (put ∙ ap (λ (x : Forest). joined_trees (forest_view old) (list 0 x empty)) (starts (stmts_forms body)))
    ∙ joined_trees_assoc (forest_view old) _ (unplaced_sketch g)

-- The list of an if.
pub if_put : (e : Expr) (a b : Stmts) (old new i0 i1 i2 : Forest) → i0 ≡ atom 0 (codes "if") empty → ((g : Sketch) → joined_trees i1 (unplaced_sketch g) ≡ joined_trees i0 (unplaced_sketch (expr_forms e g)))
    → i2 ≡ joined_trees i1 (unplaced_sketch (group None (stmts_forms a) (group None (stmts_forms b) nothing)))
    → new ≡ joined_trees old (list 0 i2 empty)
    → (at site : ℕ) (g : Sketch)
    → joined_trees new (unplaced_sketch g) ≡ joined_trees old (unplaced_sketch (stmt_forms (If at site e a b) g))
if_put e a b old new i0 i1 i2 head expr branches put at site g =
    let both = group None (stmts_forms a) (group None (stmts_forms b) nothing) in
    let inner : i2 ≡ atom 0 (codes "if") (unplaced_sketch (expr_forms e both)) = branches ∙ expr both ∙ ap (λ (x : Forest). joined_trees x (unplaced_sketch (expr_forms e both))) head in
    ap (λ (x : Forest). joined_trees x (unplaced_sketch g))
    (put ∙ ap (λ (x : Forest). joined_trees old (list 0 x empty)) inner)
    ∙ joined_trees_assoc old _ (unplaced_sketch g)

-- The trees of a script come after those of its program.

states_then : (ss : List State) (g : Sketch)
    → unplaced_sketch (states_forms ss g) ≡ joined_trees (unplaced_sketch (states_forms ss nothing)) (unplaced_sketch g)
states_then [] g = refl
states_then (s ∷ ss) g =
    ap (list 0 (unplaced_sketch (word (codes "state") (name s.name (word (type_word s.ty) (word (policy_word s.policy) (literal None s.initial nothing))))))) (states_then ss g)

functions_then : (cs : List Func) (g : Sketch)
    → unplaced_sketch (functions_forms cs g)
    ≡ joined_trees (unplaced_sketch (functions_forms cs nothing)) (unplaced_sketch g)
functions_then [] g = refl
functions_then (c ∷ cs) g =
    ap (list 0 (unplaced_sketch (word (codes "fun") (name c.name (group None (parameters_forms c.parameters) (stmts_forms c.body)))))) (functions_then cs g)

tops_then : (ss : List State) (cs : List Func) (ds : List DoForm) →
    unplaced_sketch (top_forms ss cs ds)
    ≡ joined_trees (unplaced_sketch (top_forms ss cs [])) (unplaced_sketch (scripts_forms ds))
tops_then ss cs ds =
    states_then ss (functions_forms cs (scripts_forms ds))
    ∙ ap (joined_trees (unplaced_sketch (states_forms ss nothing))) (functions_then cs (scripts_forms ds))
    ∙ sym (joined_trees_assoc (unplaced_sketch (states_forms ss nothing)) (unplaced_sketch (functions_forms cs nothing))
    (unplaced_sketch (scripts_forms ds)))
    ∙ ap (λ (f : Forest). joined_trees f (unplaced_sketch (scripts_forms ds)))
    (sym (states_then ss (functions_forms cs nothing)))

pub script_follows : (t : Source)
    → unplaced_sketch (text_forms t)
    ≡ joined_trees (unplaced_sketch (text_forms (record { program = t.program; script = [] })))
    (unplaced_sketch (scripts_forms t.script))
script_follows t = ap (list 0 (atom 0 (codes "compose") (atom 0 (version_word t.program.version) empty))) (tops_then t.program.states t.program.functions t.script)
