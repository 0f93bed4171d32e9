-- Each site of a checked program identifies a statement: whether the statement makes a node, and of which shape.
use Rattle.std.proofs.Common.{arith, ◌≡◌, ◌||◌, ℕ, List, [], ◌∷◌, ◌++◌, map, Bool, true, false, Option, Some, None, refl, sym, ap, ◌∙◌, subst, inl, inr, append_assoc}
use Rattle.std.specs.List.{list_any}
use Rattle.std.specs.Str.{bytes_eq}
use Rattle.std.proofs.lemmas.Bool.{true≢false, cases_Bool, not-true as not_false}
use Rattle.std.proofs.lemmas.Slice.Eq.{bytes_eq-Decides}
use Rattle.lang_ast.specs.declared.syntax.Ident.{Ident}
use Rattle.lang_ast.specs.declared.program.State.{State}
use Rattle.lang_ast.specs.Terms.{Named, Node, Stmt, Block, Func}
use Rattle.lang_ast.specs.Programs.{Program, site_of, functions_statements, statement_at, Each}
use Rattle.lang_ast.proofs.Limits.{none_in}
use Rattle.lang_ast.proofs.Statements.{each_of_both}
use Rattle.lang_checks.specs.Scopes.{duplicate_faults}
use Rattle.lang_checks.specs.Statements.{names}
use Rattle.lang_checks.specs.Numbers.{IsNumberedProgram}
use Rattle.lang_checks.specs.ProgramFaults.{program_faults}
use Rattle.lang_checks.proofs.RisingSites.{Rises, counts_rise, each_is_found, none_before}
use Rattle.lang_checks.proofs.Fine.{held}
use Rattle.checked_laws.proofs.Parts.{IsFineIn, functions_are_fine, bodies}

-- The kind and the attribute names of the nodes of a statement.
pub record Shape : Type 0 where
  pub kind : List ℕ
  pub names : List (List ℕ)

abbrev pub texts : List Named → List (List ℕ)
texts ns = map (λ n. n.name.text) ns

-- The statement at a site: `None` if no statement is there, else the shape of its nodes, if it makes nodes.
abbrev pub Told : Type 0
Told = Option (Option Shape)

abbrev pub node_shape : Ident → List Named → Option Shape
node_shape kind attributes = Some (record { kind = kind.text; names = texts attributes })

-- The shape of the nodes of the statement that a look-up finds, if it makes nodes.
abbrev pub statement_shape : Option Stmt → Told
statement_shape None = None
statement_shape (Some (Block at site (Node kind attributes) body)) = Some (node_shape kind attributes)
statement_shape (Some _) = Some None

-- No name equals a later one.
abbrev pub AreApart : List (List ℕ) → Type 0
AreApart [] = Unit {0}
AreApart (n ∷ ns) = (list_any (λ m. bytes_eq m n) ns ≡ false) × AreApart ns

-- `look` returns the shape at the site of a statement, and the attributes of a node have distinct names.
abbrev pub IsTold : (ℕ → Told) → Stmt → Type 0
IsTold look (Block at site (Node kind attributes) body) =
    (look site ≡ Some (node_shape kind attributes)) × AreApart (texts attributes)
IsTold look s = look (site_of s) ≡ Some None

abbrev pub FunctionsAreTold : (ℕ → Told) → List Func → Type 0
FunctionsAreTold look functions = Each (IsTold look) (functions_statements functions)

-- The attribute names of a node without faults are apart.

any_append : (f : Ident → Bool) (xs ys : List Ident) → list_any f (xs ++ ys) ≡ false
    → (list_any f xs ≡ false) × (list_any f ys ≡ false)
any_append f [] ys e = (refl, e)
any_append f (x ∷ xs) ys e = by (f x) e (λ g. any_append f xs ys g)
  where
    by : (b : Bool) → (b || list_any f (xs ++ ys)) ≡ false
        → (list_any f (xs ++ ys) ≡ false → (list_any f xs ≡ false) × (list_any f ys ≡ false))
        → ((b || list_any f xs) ≡ false) × (list_any f ys ≡ false)
    by true e go = absurd (true≢false e)
    by false e go = go e

head_false : (b c : Bool) → (b || c) ≡ false → b ≡ false
head_false true c e = absurd (true≢false e)
head_false false c e = refl

turned : (xs ys : List ℕ) → bytes_eq xs ys ≡ false → bytes_eq ys xs ≡ false
turned xs ys e = elim (cases_Bool (bytes_eq ys xs)) [
  | inl h ↦ let same : ys ≡ xs = (bytes_eq-Decides ys xs).0 h in
      absurd (true≢false (sym (ap (λ (l : List ℕ). bytes_eq l ys) (sym same) ∙ ap (λ (l : List ℕ). bytes_eq ys l) refl
      ∙ (bytes_eq-Decides ys ys).1 refl) ∙ e))
  | inr h ↦ h
]

-- The later names differ from an earlier one.
later_differ : (n : Ident) (before after rest : List Ident) → duplicate_faults (before ++ n ∷ after) rest ≡ []
    → list_any (λ m. bytes_eq m n.text) (map (λ (m : Ident). m.text) rest) ≡ false
later_differ n before after [] e = refl
later_differ n before after (m ∷ ms) e =
    let both = none_in _ _ e in
    let free : list_any (λ (o : Ident). bytes_eq o.text m.text) (before ++ n ∷ after) ≡ false =
    not_false _ (held _ _ _ both.0) in
    let here : bytes_eq n.text m.text ≡ false =
    head_false _ _ (any_append (λ (o : Ident). bytes_eq o.text m.text) before (n ∷ after) free).1 in
    let later = later_differ n before (after ++ m ∷ []) ms
    (ap (λ (l : List Ident). duplicate_faults l ms) (sym (append_assoc before (n ∷ after) (m ∷ []))) ∙ both.1) in
    ap (λ (b : Bool). b || list_any (λ o. bytes_eq o n.text) (map (λ (o : Ident). o.text) ms))
    (turned n.text m.text here) ∙ later

apart_after : (earlier ns : List Ident) → duplicate_faults earlier ns ≡ [] → AreApart (map (λ (n : Ident). n.text) ns)
apart_after earlier [] e = tt
apart_after earlier (n ∷ ns) e =
    let both = none_in _ _ e in
    (later_differ n earlier [] ns both.1, apart_after (earlier ++ n ∷ []) ns both.1)

same_texts : (ns : List Named) → map (λ (n : Ident). n.text) (names ns) ≡ texts ns
same_texts [] = refl
same_texts (n ∷ ns) = ap (λ l. n.name.text ∷ l) (same_texts ns)

names_apart : (ns : List Named) → duplicate_faults [] (names ns) ≡ [] → AreApart (texts ns)
names_apart ns e = subst (λ (l : List (List ℕ)). AreApart l) (same_texts ns) (apart_after [] (names ns) e)

-- The sites of all statements are looked up.

is_told : (states : List State) (functions : List Func) (all : List Stmt) (s : Stmt) → IsFineIn states functions s
    → statement_at (site_of s) all ≡ Some s → IsTold (λ x. statement_shape (statement_at x all)) s
is_told states functions all (Block at site (Node kind attributes) body) fine found =
    (ap statement_shape found, names_apart attributes (none_in _ _ (none_in _ _ fine.1.none).0).0)
is_told states functions all _ fine found = ap statement_shape found

-- The statement of the program at a site. The site 0 of the root's call has no statement.
abbrev pub look_up : List Func → ℕ → Told
look_up functions x = statement_shape (statement_at x (functions_statements functions))

rising : (p : Program) → IsNumberedProgram p → Rises 0 (map site_of (functions_statements p.functions))
rising p h = counts_rise 0 1 _ (omega arith) h.sites

pub functions_are_told : (p : Program) → IsNumberedProgram p → program_faults p ≡ []
    → FunctionsAreTold (look_up p.functions) p.functions
functions_are_told p h e =
    let all = functions_statements p.functions in
    each_of_both (IsFineIn p.states p.functions) (λ s. statement_at (site_of s) all ≡ Some s)
    (IsTold (look_up p.functions)) all (is_told p.states p.functions all)
    (functions_are_fine p.states p.functions 0 p.functions (bodies p e)) (each_is_found 0 all (rising p h))

-- No statement is at site 0.
pub none_at_root : (p : Program) → IsNumberedProgram p → look_up p.functions 0 ≡ None
none_at_root p h = ap statement_shape (none_before 0 0 (functions_statements p.functions) (omega arith) (rising p h))
