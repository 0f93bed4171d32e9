-- A program that has the forms of a text is numbered.
use Rattle.std.proofs.Common.{arith, ◌≡◌, ◌<◌, ◌≤◌, ◌+◌, ℕ, List, [], ◌∷◌, ◌++◌, Bool, true, false, Option, Some, None, Result, Ok, Err, IfOk, refl, sym, ap, ◌∙◌, subst, length, map, append_assoc, take_all}
use Rattle.std.specs.Str.{bytes_eq}
use Rattle.std.proofs.lemmas.List.{map-append, length-map, length-append}
use Rattle.sexp_text.specs.Forest.{Forest}
use Rattle.lang_ast.specs.Terms.{Stmt, Call, If, Block, Stmts, done, next, Func}
use Rattle.lang_ast.specs.Programs.{program_view, site_of, statement_with_inner, statements_in, functions_statements, Each}
use Rattle.lang_ast.proofs.Statements.{each_joined}
use Rattle.lang_ast.specs.declared.program.Program as memory
use Rattle.lang_ast.specs.declared.script.Rest.{Rest}
use Rattle.lang_limits.specs.Clamped.{clamped_trees}
use Rattle.lang_limits.specs.Sizes.{program_limits}
use Rattle.lang_ast.specs.Sizes.{most_forms}
use Rattle.lang_forms.specs.Names.{number_in, number_of_name}
use Rattle.lang_forms.specs.Forms.{HasForms, KnownNames, state_name, function_name, site_after, site_after_all, SpelledStmt, SpelledStmts, SpelledFunctions}
use Rattle.lang_forms.specs.Sources.{Source, parsed_source_view}
use Rattle.lang_checks.specs.Scopes.{first_named}
use Rattle.lang_checks.specs.Numbers.{Counts, HasItsNumber, CallHasItsNumber, FunctionsCalls, IsNumberedProgram}
use Rattle.play_core.proofs.Uniques.{few_functions}

counts_on : (k n : ℕ) (xs ys : List Stmt) → Counts k (map site_of xs) → k + length xs ≡ n → Counts n (map site_of ys)
    → Counts k (map site_of (xs ++ ys))
counts_on k n [] ys h many g = subst (λ j. Counts j (map site_of ys)) (sym many ∙ omega arith) g
counts_on k n (x ∷ xs) ys h many g = (h.0, counts_on (k + 1) n xs ys h.1 (omega (arith, many)) g)

-- Statements with the sites from `k` to before `n`.
abbrev HaveSites : List Stmt → ℕ → ℕ → Type 0
HaveSites xs k n = Counts k (map site_of xs) × (k + length xs ≡ n)

first_site : (s : Stmt) (k n : ℕ) (xs : List Stmt) → site_of s ≡ k → HaveSites xs (k + 1) n → HaveSites (s ∷ xs) k n
first_site s k n xs e h = ((e, h.0), omega (arith, h.1))

joined_sites : (xs ys : List Stmt) (k n p : ℕ) → HaveSites xs k n → HaveSites ys n p → HaveSites (xs ++ ys) k p
joined_sites xs ys k n p h g =
    (counts_on k n xs ys h.0 h.1 g.0, let all = length-append xs ys in omega (arith, all, h.1, g.1))

mutual
  stmt_has_sites : (m : KnownNames) (k : ℕ) (s : Stmt) → SpelledStmt m k s
      → HaveSites (statement_with_inner s) k (site_after k s)
  stmt_has_sites m k (Call at site n function es) h =
      first_site (Call at site n function es) k _ [] h.0 (tt, omega arith)
  stmt_has_sites m k (If at site e a b) h =
      first_site (If at site e a b) k _ _ h.0
      (joined_sites (statements_in a) (statements_in b) (k + 1) (site_after_all (k + 1) a) _
      (stmts_have_sites m (k + 1) a h.2) (stmts_have_sites m (site_after_all (k + 1) a) b h.3))
  stmt_has_sites m k (Block at site head body) h =
      first_site (Block at site head body) k _ _ h.0 (stmts_have_sites m (k + 1) body h.2)

  stmts_have_sites : (m : KnownNames) (k : ℕ) (ss : Stmts) → SpelledStmts m k ss
      → HaveSites (statements_in ss) k (site_after_all k ss)
  stmts_have_sites m k done h = (tt, omega arith)
  stmts_have_sites m k (next s ss) h =
      joined_sites (statement_with_inner s) (statements_in ss) k (site_after k s) _ (stmt_has_sites m k s h.0)
      (stmts_have_sites m (site_after k s) ss h.1)

functions_count : (m : KnownNames) (k : ℕ) (fs : List Func) → SpelledFunctions m k fs
    → Counts k (map site_of (functions_statements fs))
functions_count m k [] h = tt
functions_count m k (f ∷ fs) h =
    let here = stmts_have_sites m k f.body h.2 in
    counts_on k (site_after_all k f.body) (statements_in f.body) (functions_statements fs) here.0 here.1
    (functions_count (record { states = m.states; functions = m.functions ++ function_name f ∷ [] })
    (site_after_all k f.body) fs h.3)

abbrev number_found : Option (ℕ × Func) → ℕ
number_found None = 0
number_found (Some p) = p.0

same_number : (p q : ℕ × Func) → Some p ≡ Some q → p.0 ≡ q.0
same_number p q h = ap number_found h

not_before : (fs : List Func) (name : List ℕ) (j i : ℕ) (f : Func) → first_named fs name j ≡ Some (i, f) → j ≤ i
not_before [] name j i f h = absurd cc
not_before (c ∷ cs) name j i f h = by (λ g. not_before cs name (j + 1) i f g) (bytes_eq c.name.text name) refl
  where
    by : (first_named cs name (j + 1) ≡ Some (i, f) → j + 1 ≤ i) → (b : Bool) → bytes_eq c.name.text name ≡ b → j ≤ i
    by more true e = let is = same_number (j, c) (i, f) (rw e at h) in omega (arith, is)
    by more false e = let on = more (rw e at h) in omega (arith, on)

-- If the first function with a name is among those before a call, the parser finds its number.
found_before : (before rest : List Func) (name : List ℕ) (j i : ℕ) (f : Func)
    → first_named (before ++ rest) name j ≡ Some (i, f) → i < j + length before
    → j + number_in name (map function_name before) ≡ i
found_before [] rest name j i f h lt = let on = not_before rest name j i f h in absurd (omega (arith, on, lt))
found_before (c ∷ cs) rest name j i f h lt =
    by (λ g. found_before cs rest name (j + 1) i f g (omega (arith, lt))) (bytes_eq c.name.text name) refl
  where
    by : (first_named (cs ++ rest) name (j + 1) ≡ Some (i, f) → j + 1 + number_in name (map function_name cs) ≡ i)
        → (b : Bool) → bytes_eq c.name.text name ≡ b → j + number_in name (map function_name (c ∷ cs)) ≡ i
    by more true e = let is = same_number (j, c) (i, f) (rw e at h) in rw e (omega (arith, is))
    by more false e = let on = more (rw e at h) in rw e (omega (arith, on))

named_before : (functions before rest : List Func) (m : KnownNames) (name : List ℕ) → functions ≡ before ++ rest
    → m.functions ≡ map function_name before → length before ≤ most_forms
    → HasItsNumber functions (length before) name (number_of_name name m.functions)
named_before functions before rest m name all names few i f h lt =
    let many : length (map function_name before) ≤ most_forms =
    subst (λ n. n ≤ most_forms) (sym (length-map before function_name)) few in
    let found = found_before before rest name 0 i f (subst (λ fs. first_named fs name 0 ≡ Some (i, f)) all h)
    (omega (arith, lt)) in
    ap (λ l. number_of_name name l) names
    ∙ ap (λ l. number_in name l) (take_all most_forms (map function_name before) many)
    ∙ omega (arith, found)

mutual
  stmt_calls : (functions : List Func) (me : ℕ) (m : KnownNames) (k : ℕ) (s : Stmt)
      → ((name : List ℕ) → HasItsNumber functions me name (number_of_name name m.functions)) → SpelledStmt m k s
      → Each (CallHasItsNumber functions me) (statement_with_inner s)
  stmt_calls functions me m k (Call at site n function es) named h = (λ i f e lt. h.2 ∙ named n.text i f e lt, tt)
  stmt_calls functions me m k (If at site e a b) named h = (
    tt,
    each_joined (CallHasItsNumber functions me) (statements_in a) (statements_in b)
        (stmts_calls functions me m (k + 1) a named h.2)
        (stmts_calls functions me m (site_after_all (k + 1) a) b named h.3),
  )
  stmt_calls functions me m k (Block at site head body) named h =
      (tt, stmts_calls functions me m (k + 1) body named h.2)

  stmts_calls : (functions : List Func) (me : ℕ) (m : KnownNames) (k : ℕ) (ss : Stmts)
      → ((name : List ℕ) → HasItsNumber functions me name (number_of_name name m.functions)) → SpelledStmts m k ss
      → Each (CallHasItsNumber functions me) (statements_in ss)
  stmts_calls functions me m k done named h = tt
  stmts_calls functions me m k (next s ss) named h =
      each_joined (CallHasItsNumber functions me) (statement_with_inner s) (statements_in ss)
      (stmt_calls functions me m k s named h.0) (stmts_calls functions me m (site_after k s) ss named h.1)

functions_calls : (functions before fs : List Func) (m : KnownNames) (me k : ℕ) → functions ≡ before ++ fs
    → m.functions ≡ map function_name before → me ≡ length before → length functions ≤ most_forms
    → SpelledFunctions m k fs → FunctionsCalls functions me fs
functions_calls functions before [] m me k all names here few h = tt
functions_calls functions before (f ∷ fs) m me k all names here few h =
    let many : length before ≤ most_forms = let sum = ap length all ∙ length-append before (f ∷ fs) in
    omega (arith, sum, few) in
    let named : (name : List ℕ) → HasItsNumber functions me name (number_of_name name m.functions) =
    λ name. subst (λ n. HasItsNumber functions n name (number_of_name name m.functions)) (sym here)
    (named_before functions before (f ∷ fs) m name all names many) in (
      stmts_calls functions me m k f.body named h.2,
      functions_calls functions (before ++ f ∷ []) fs
          (record { states = m.states; functions = m.functions ++ function_name f ∷ [] }) (me + 1)
          (site_after_all k f.body)
          (all ∙ sym (append_assoc before (f ∷ []) fs))
          (ap (λ l. l ++ function_name f ∷ []) names ∙ sym (map-append function_name before (f ∷ [])))
          (let one = length-append before (f ∷ []) in omega (arith, one, here)) few h.3,
    )

-- The program of a text within the limits is numbered.
pub numbered : (f g : Forest) (t : Source) → HasForms f t → program_limits g t.program ≡ []
    → IsNumberedProgram t.program
numbered f g t forms small =
    let known : KnownNames = record { states = map state_name t.program.states; functions = [] } in
    record {
      sites = functions_count known 1 t.program.functions forms.spelled.functions;
      calls = functions_calls t.program.functions [] t.program.functions known 0 1 refl refl refl
          (few_functions g t.program small) forms.spelled.functions;
    }

-- A parsed program within the limits is numbered.
pub parsed_is_numbered : {E : Type 0} (f : Forest) (r : Result (memory.Program × Rest) E)
    → IfOk r (λ p. HasForms (clamped_trees f) (parsed_source_view p)) → IfOk r (λ p. program_limits f (program_view p.0) ≡ [])
    → IfOk r (λ p. IsNumberedProgram (program_view p.0))
parsed_is_numbered f (Ok p) forms small = numbered (clamped_trees f) f (parsed_source_view p) forms small
parsed_is_numbered f (Err e) forms small = tt
