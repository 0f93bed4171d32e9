-- A program without faults has none at other offsets.
use Rattle.std.proofs.Common.{◌≡◌, ℕ, suc, ◌+◌, ◌==◌, max, nat_lt, nat_le, not, ◌||◌, Bool, true, false, List, [], ◌∷◌, ◌++◌, map, length, slice_get, refl, sym, ap, ◌∙◌, subst, cond, Option, Some, None}
use Rattle.std.proofs.lemmas.List.{length-map, map-append}
use Rattle.std.proofs.lemmas.Option.{slice_get-map}
use Rattle.std.specs.Option.{is_some, option_map}
use Rattle.std.specs.Str.{bytes_eq}
use Rattle.rt_values.specs.declared.value.Ty.{Ty}
use Rattle.rt_values.specs.declared.value.Ty.TheVariants as ty
use Rattle.rt_values.specs.Values.{same_type}
use Rattle.lang_ast.specs.Terms.{Expr, Literal, Variable, Get, Apply, Exprs, none, more, Named, Head, Node, Key, For, Let, Remember, Stmt, Call, If, Block, Stmts, done, next, Func}
use Rattle.lang_ast.specs.Programs.{Program, is_root, root_number}
use Rattle.lang_ast.specs.declared.syntax.Ident.{Ident}
use Rattle.lang_ast.specs.declared.syntax.Parameter.{Parameter}
use Rattle.lang_ast.specs.declared.syntax.Source.{Source}
use Rattle.lang_ast.specs.declared.syntax.Source.TheVariants as sources
use Rattle.lang_ast.specs.declared.program.State.{State}
use Rattle.lang_ast.proofs.Limits.{none_in}
use Rattle.lang_checks.specs.declared.environment.TypedName.{TypedName}
use Rattle.lang_checks.specs.declared.faults.CheckKind.{CheckKind}
use Rattle.lang_checks.specs.declared.faults.CheckKind.TheVariants as kind
use Rattle.lang_checks.specs.FaultOrder.{fault_unless}
use Rattle.lang_checks.specs.Scopes.{typed_name, bound_type, is_unbound, is_listed, duplicate_faults, type_if_named, state_type, source_type, first_named, numbered_or, named_function}
use Rattle.lang_checks.specs.Operands.{same_types, accepts_types, result_type}
use Rattle.lang_checks.specs.Expressions.{ExpressionScope, or_int, type, types_of, expr_faults, exprs_faults, values_faults, typed_names}
use Rattle.lang_checks.specs.Statements.{StatementContext, plain_scope, inside, names, parameter_types, callee_faults, binding_faults, bound_by, head_faults, stmt_faults, stmts_faults}
use Rattle.lang_checks.specs.Chains.{most_chain, longest, longest_in, chain, chains_faults}
use Rattle.lang_checks.specs.ProgramFaults.{is_well_typed, states_faults, bound_parameters, function_faults, functions_faults, program_faults}
use Rattle.text_laws.specs.OtherOffsets.{placed_name, placed_expr, placed_exprs, placed_pair, placed_head, placed_stmt, placed_stmts, placed_parameter, placed_function, placed_state, placed_program}
use Rattle.text_laws.proofs.PlacedForests.{join_none}

no_fault : (b c : Bool) (k : CheckKind) (at bt : ℕ) → c ≡ b → fault_unless b k at ≡ [] → fault_unless c k bt ≡ []
no_fault true c k at bt e h = ap (λ t. fault_unless t k bt) e
no_fault false c k at bt e h = absurd cc

module _ (g : ℕ → ℕ) where
  -- What names refer to.

  abbrev states_at : List State → List State
  states_at ss = map (placed_state g) ss

  abbrev functions_at : List Func → List Func
  functions_at fs = map (placed_function g) fs

  state_type-placed : (ss : List State) (name : List ℕ) (number : ℕ)
      → state_type (states_at ss) name number ≡ state_type ss name number
  state_type-placed ss name number =
      ap (type_if_named name) (slice_get-map (placed_state g) ss number) ∙ by (slice_get ss number)
    where
      by : (o : Option State) → type_if_named name (option_map (placed_state g) o) ≡ type_if_named name o
      by None = refl
      by (Some s) = refl

  source_type-placed : (ss : List State) (name : List ℕ) (source : Source)
      → source_type (states_at ss) name source ≡ source_type ss name source
  source_type-placed ss name (sources.State number) = state_type-placed ss name number

  -- A function with its number, at other offsets.
  abbrev named_at : ℕ × Func → ℕ × Func
  named_at f = (f.0, placed_function g f.1)

  first_named-placed : (fs : List Func) (name : List ℕ) (i : ℕ)
      → first_named (functions_at fs) name i ≡ option_map named_at (first_named fs name i)
  first_named-placed [] name i = refl
  first_named-placed (f ∷ fs) name i = by (bytes_eq f.name.text name) (first_named-placed fs name (i + 1))
    where
      by : (b : Bool)
          → first_named (functions_at fs) name (i + 1) ≡ option_map named_at (first_named fs name (i + 1))
          → cond b (Some (i, placed_function g f)) (first_named (functions_at fs) name (i + 1))
          ≡ option_map named_at (cond b (Some (i, f)) (first_named fs name (i + 1)))
      by true e = refl
      by false e = e

  numbered_or-placed : (name : List ℕ) (number : ℕ) (o : Option Func) (other : Option (ℕ × Func))
      → numbered_or name number (option_map (placed_function g) o) (option_map named_at other)
      ≡ option_map named_at (numbered_or name number o other)
  numbered_or-placed name number None other = refl
  numbered_or-placed name number (Some f) other = by (bytes_eq f.name.text name)
    where
      by : (b : Bool) → cond b (Some (number, placed_function g f)) (option_map named_at other)
          ≡ option_map named_at (cond b (Some (number, f)) other)
      by true = refl
      by false = refl

  named_function-placed : (fs : List Func) (name : List ℕ) (number : ℕ)
      → named_function (functions_at fs) name number ≡ option_map named_at (named_function fs name number)
  named_function-placed fs name number =
      ap (λ o. numbered_or name number o (first_named (functions_at fs) name 0))
      (slice_get-map (placed_function g) fs number)
      ∙ ap (numbered_or name number (option_map (placed_function g) (slice_get fs number)))
      (first_named-placed fs name 0)
      ∙ numbered_or-placed name number (slice_get fs number) (first_named fs name 0)

  among-placed : (name : List ℕ) (ns : List Ident) → is_listed name (map (placed_name g) ns) ≡ is_listed name ns
  among-placed name [] = refl
  among-placed name (n ∷ ns) = ap (λ b. bytes_eq n.text name || b) (among-placed name ns)

  duplicates-placed : (earlier ns : List Ident) → duplicate_faults earlier ns ≡ []
      → duplicate_faults (map (placed_name g) earlier) (map (placed_name g) ns) ≡ []
  duplicates-placed earlier [] h = refl
  duplicates-placed earlier (n ∷ ns) h =
      let both = none_in (fault_unless (not (is_listed n.text earlier)) kind.Double n.at)
      (duplicate_faults (earlier ++ n ∷ []) ns) h in
      join_none _ _ (no_fault (not (is_listed n.text earlier)) (not (is_listed n.text (map (placed_name g) earlier)))
      kind.Double n.at (g n.at) (ap not (among-placed n.text earlier)) both.0)
      (subst (λ l. duplicate_faults l (map (placed_name g) ns) ≡ []) (map-append (placed_name g) earlier (n ∷ []))
      (duplicates-placed (earlier ++ n ∷ []) ns both.1))

  -- Expressions.

  abbrev scope_at : ExpressionScope → ExpressionScope
  scope_at l = record { states = states_at l.states; scope = l.scope; keys = l.keys; calculating = l.calculating }

  mutual
    type-placed : (l : ExpressionScope) (e : Expr) → type (scope_at l) (placed_expr g e) ≡ type l e
    type-placed l (Literal at v) = refl
    type-placed l (Variable n) = refl
    type-placed l (Get at n source) = ap or_int (source_type-placed l.states n.text source)
    type-placed l (Apply at op es) = ap (result_type op) (types-placed l es)

    types-placed : (l : ExpressionScope) (es : Exprs) → types_of (scope_at l) (placed_exprs g es) ≡ types_of l es
    types-placed l none = refl
    types-placed l (more e es) =
        ap (λ t. t ∷ types_of (scope_at l) (placed_exprs g es)) (type-placed l e)
        ∙ ap (λ ts. type l e ∷ ts) (types-placed l es)

  mutual
    expr-fine : (l : ExpressionScope) (e : Expr) → expr_faults l e ≡ [] → expr_faults (scope_at l) (placed_expr g e) ≡ []
    expr-fine l (Literal at v) h = refl
    expr-fine l (Variable n) h =
        let known = is_some (bound_type n.text l.keys) || is_some (bound_type n.text l.scope) in
        let key = not l.calculating || is_some (bound_type n.text l.keys) in
        let both = none_in (fault_unless known kind.Unknown n.at) (fault_unless key kind.Remember n.at) h in
        join_none _ _ (no_fault known known kind.Unknown n.at (g n.at) refl both.0)
        (no_fault key key kind.Remember n.at (g n.at) refl both.1)
    expr-fine l (Get at n source) h =
        let known = is_some (source_type l.states n.text source) in
        let both = none_in (fault_unless known kind.Unknown at) (fault_unless (not l.calculating) kind.Remember at) h in
        join_none _ _ (no_fault known (is_some (source_type (states_at l.states) n.text source)) kind.Unknown at (g at)
        (ap is_some (source_type-placed l.states n.text source)) both.0)
        (no_fault (not l.calculating) (not l.calculating) kind.Remember at (g at) refl both.1)
    expr-fine l (Apply at op es) h =
        let both = none_in (exprs_faults l es) (fault_unless (accepts_types op (types_of l es)) kind.Type at) h in
        join_none _ _ (exprs-fine l es both.0)
        (no_fault (accepts_types op (types_of l es)) (accepts_types op (types_of (scope_at l) (placed_exprs g es)))
        kind.Type at (g at) (ap (accepts_types op) (types-placed l es)) both.1)

    exprs-fine : (l : ExpressionScope) (es : Exprs) → exprs_faults l es ≡ []
        → exprs_faults (scope_at l) (placed_exprs g es) ≡ []
    exprs-fine l none h = refl
    exprs-fine l (more e es) h =
        let both = none_in (expr_faults l e) (exprs_faults l es) h in
        join_none _ _ (expr-fine l e both.0) (exprs-fine l es both.1)

  values-fine : (l : ExpressionScope) (ns : List Named) → values_faults l ns ≡ []
      → values_faults (scope_at l) (map (placed_pair g) ns) ≡ []
  values-fine l [] h = refl
  values-fine l (n ∷ ns) h =
      let both = none_in (expr_faults l n.value) (values_faults l ns) h in
      join_none _ _ (expr-fine l n.value both.0) (values-fine l ns both.1)

  typed_names-placed : (l : ExpressionScope) (ns : List Named)
      → typed_names (scope_at l) (map (placed_pair g) ns) ≡ typed_names l ns
  typed_names-placed l [] = refl
  typed_names-placed l (n ∷ ns) =
      ap (λ t. typed_name n.name t ∷ typed_names (scope_at l) (map (placed_pair g) ns)) (type-placed l n.value)
      ∙ ap (λ ts. typed_name n.name (type l n.value) ∷ ts) (typed_names-placed l ns)

  names-placed : (ns : List Named) → names (map (placed_pair g) ns) ≡ map (placed_name g) (names ns)
  names-placed [] = refl
  names-placed (n ∷ ns) = ap (λ l. placed_name g n.name ∷ l) (names-placed ns)

  pair_names-fine : (ns : List Named) → duplicate_faults [] (names ns) ≡ []
      → duplicate_faults [] (names (map (placed_pair g) ns)) ≡ []
  pair_names-fine ns h = ap (duplicate_faults []) (names-placed ns) ∙ duplicates-placed [] (names ns) h

  -- The calculation of a remember has the same names.
  inside-placed : (states : List State) (scope : List TypedName) (ks : List Named)
      → inside (states_at states) scope (map (placed_pair g) ks) ≡ scope_at (inside states scope ks)
  inside-placed states scope ks =
      ap (λ keys. record { states = states_at states; scope = scope; keys = keys; calculating = true })
      (typed_names-placed (plain_scope states scope) ks)

  -- Statements.

  abbrev context_at : StatementContext → StatementContext
  context_at p = record { states = states_at p.states; functions = functions_at p.functions; me = p.me }

  parameter_types-placed : (ps : List Parameter) → parameter_types (map (placed_parameter g) ps) ≡ parameter_types ps
  parameter_types-placed [] = refl
  parameter_types-placed (p ∷ ps) = ap (λ ts. p.ty ∷ ts) (parameter_types-placed ps)

  call-fine : (me at bt : ℕ) (ts : List Ty) (o : Option (ℕ × Func)) → callee_faults me at ts o ≡ []
      → callee_faults me bt ts (option_map named_at o) ≡ []
  call-fine me at bt ts None h = absurd cc
  call-fine me at bt ts (Some f) h =
      let both = none_in (fault_unless (nat_lt f.0 me) kind.Order at)
      (fault_unless (same_types (parameter_types f.1.parameters) ts) kind.Type at) h in
      join_none _ _ (no_fault (nat_lt f.0 me) (nat_lt f.0 me) kind.Order at bt refl both.0)
      (no_fault (same_types (parameter_types f.1.parameters) ts)
      (same_types (parameter_types (map (placed_parameter g) f.1.parameters)) ts) kind.Type at bt
      (ap (λ us. same_types us ts) (parameter_types-placed f.1.parameters)) both.1)

  binding-fine : (scope : List TypedName) (n : Ident) → binding_faults scope n ≡ []
      → binding_faults scope (placed_name g n) ≡ []
  binding-fine scope n h = no_fault (is_unbound n.text scope) (is_unbound n.text scope) kind.Double n.at (g n.at) refl h

  bound_by-placed : (p : StatementContext) (scope : List TypedName) (h : Head)
      → bound_by (context_at p) scope (placed_head g h) ≡ bound_by p scope h
  bound_by-placed p scope (Node n ns) = refl
  bound_by-placed p scope (Key e) = refl
  bound_by-placed p scope (For n e) = refl
  bound_by-placed p scope (Let n e) = ap (λ t. typed_name n t ∷ []) (type-placed (plain_scope p.states scope) e)
  bound_by-placed p scope (Remember n ks e) =
      ap (λ t. typed_name n t ∷ []) (ap (λ s. type s (placed_expr g e)) (inside-placed p.states scope ks)
      ∙ type-placed (inside p.states scope ks) e)

  head-fine : (p : StatementContext) (scope : List TypedName) (at bt : ℕ) (h : Head) → head_faults p scope at h ≡ []
      → head_faults (context_at p) scope bt (placed_head g h) ≡ []
  head-fine p scope at bt (Node n ns) h =
      let both = none_in (duplicate_faults [] (names ns)) _ h in
      join_none _ _ (pair_names-fine ns both.0) (values-fine (plain_scope p.states scope) ns both.1)
  head-fine p scope at bt (Key e) h = expr-fine (plain_scope p.states scope) e h
  head-fine p scope at bt (For n e) h =
      let l = plain_scope p.states scope in
      let one = none_in (expr_faults (plain_scope p.states scope) e) _ h in
      let two = none_in (fault_unless (same_type (type (plain_scope p.states scope) e) ty.Ints) kind.Type at) _ one.1 in
      join_none _ _ (expr-fine l e one.0)
      (join_none _ _ (no_fault (same_type (type l e) ty.Ints) (same_type (type (scope_at l) (placed_expr g e)) ty.Ints)
      kind.Type at bt (ap (λ t. same_type t ty.Ints) (type-placed l e)) two.0) (binding-fine scope n two.1))
  head-fine p scope at bt (Let n e) h =
      let both = none_in (expr_faults (plain_scope p.states scope) e) _ h in
      join_none _ _ (expr-fine (plain_scope p.states scope) e both.0) (binding-fine scope n both.1)
  head-fine p scope at bt (Remember n ks e) h =
      let one = none_in (duplicate_faults [] (names ks)) _ h in
      let two = none_in (values_faults (plain_scope p.states scope) ks) _ one.1 in
      let three = none_in (expr_faults (inside p.states scope ks) e) _ two.1 in
      join_none _ _ (pair_names-fine ks one.0)
      (join_none _ _ (values-fine (plain_scope p.states scope) ks two.0)
      (join_none _ _ (ap (λ s. expr_faults s (placed_expr g e)) (inside-placed p.states scope ks)
      ∙ expr-fine (inside p.states scope ks) e three.0) (binding-fine scope n three.1)))

  mutual
    stmt-fine : (p : StatementContext) (scope : List TypedName) (s : Stmt) → stmt_faults p scope s ≡ []
        → stmt_faults (context_at p) scope (placed_stmt g s) ≡ []
    stmt-fine p scope (Call at site n function es) h =
        let l = plain_scope p.states scope in
        let one = none_in (exprs_faults (plain_scope p.states scope) es) _ h in
        join_none _ _ (exprs-fine l es one.0)
        (ap (λ ts. callee_faults p.me (g at) ts (named_function (functions_at p.functions) n.text function))
        (types-placed l es)
        ∙ ap (callee_faults p.me (g at) (types_of l es)) (named_function-placed p.functions n.text function)
        ∙ call-fine p.me at (g at) (types_of l es) (named_function p.functions n.text function) one.1)
    stmt-fine p scope (If at site e a b) h =
        let l = plain_scope p.states scope in
        let one = none_in (expr_faults (plain_scope p.states scope) e) _ h in
        let two = none_in (fault_unless (same_type (type (plain_scope p.states scope) e) ty.Bool) kind.Type at) _ one.1 in
        let three = none_in (stmts_faults p scope a) _ two.1 in
        join_none _ _ (expr-fine l e one.0)
        (join_none _ _ (no_fault (same_type (type l e) ty.Bool) (same_type (type (scope_at l) (placed_expr g e)) ty.Bool)
        kind.Type at (g at) (ap (λ t. same_type t ty.Bool) (type-placed l e)) two.0)
        (join_none _ _ (stmts-fine p scope a three.0) (stmts-fine p scope b three.1)))
    stmt-fine p scope (Block at site head body) h =
        let both = none_in (head_faults p scope at head) _ h in
        join_none _ _ (head-fine p scope at (g at) head both.0)
        (subst (λ t. stmts_faults (context_at p) (scope ++ t) (placed_stmts g body) ≡ [])
        (sym (bound_by-placed p scope head)) (stmts-fine p (scope ++ bound_by p scope head) body both.1))

    stmts-fine : (p : StatementContext) (scope : List TypedName) (ss : Stmts) → stmts_faults p scope ss ≡ []
        → stmts_faults (context_at p) scope (placed_stmts g ss) ≡ []
    stmts-fine p scope done h = refl
    stmts-fine p scope (next s ss) h =
        let both = none_in (stmt_faults p scope s) (stmts_faults p scope ss) h in
        join_none _ _ (stmt-fine p scope s both.0) (stmts-fine p scope ss both.1)

  -- Functions and chains of calls.

  parameter_names-placed : (ps : List Parameter)
      → map (λ (q : Parameter). q.name) (map (placed_parameter g) ps) ≡ map (placed_name g) (map (λ q. q.name) ps)
  parameter_names-placed [] = refl
  parameter_names-placed (p ∷ ps) = ap (λ l. placed_name g p.name ∷ l) (parameter_names-placed ps)

  bound-placed : (ps : List Parameter) → bound_parameters (map (placed_parameter g) ps) ≡ bound_parameters ps
  bound-placed [] = refl
  bound-placed (p ∷ ps) = ap (λ l. typed_name p.name p.ty ∷ l) (bound-placed ps)

  function-fine : (states : List State) (functions : List Func) (me : ℕ) (f : Func)
      → function_faults states functions me f ≡ []
      → function_faults (states_at states) (functions_at functions) me (placed_function g f) ≡ []
  function-fine states functions me f h =
      let context : StatementContext = record { states = states; functions = functions; me = me } in
      let one = none_in (duplicate_faults [] (map (λ q. q.name) f.parameters)) _ h in
      let two = none_in (fault_unless (not (is_root f) || (length f.parameters == 0)) kind.Type f.at) _ one.1 in
      join_none _ _ (ap (duplicate_faults []) (parameter_names-placed f.parameters)
      ∙ duplicates-placed [] (map (λ q. q.name) f.parameters) one.0)
      (join_none _ _ (no_fault (not (is_root f) || (length f.parameters == 0))
      (not (is_root f) || (length (map (placed_parameter g) f.parameters) == 0)) kind.Type f.at (g f.at)
      (ap (λ n. not (is_root f) || (n == 0)) (length-map f.parameters (placed_parameter g))) two.0)
      (subst (λ scope. stmts_faults (context_at context) scope (placed_stmts g f.body) ≡ [])
      (sym (bound-placed f.parameters)) (stmts-fine context (bound_parameters f.parameters) f.body two.1)))

  functions-fine : (states : List State) (functions : List Func) (me : ℕ) (fs : List Func)
      → functions_faults states functions me fs ≡ []
      → functions_faults (states_at states) (functions_at functions) me (functions_at fs) ≡ []
  functions-fine states functions me [] h = refl
  functions-fine states functions me (f ∷ fs) h =
      let both = none_in (function_faults states functions me f) (functions_faults states functions (me + 1) fs) h in
      join_none _ _ (function-fine states functions me f both.0) (functions-fine states functions (me + 1) fs both.1)

  mutual
    longest-placed : (chains : List ℕ) (s : Stmt) → longest chains (placed_stmt g s) ≡ longest chains s
    longest-placed chains (Call at site n function es) = refl
    longest-placed chains (If at site e a b) =
        ap (λ k. max k (longest_in chains (placed_stmts g b))) (longest_in-placed chains a)
        ∙ ap (max (longest_in chains a)) (longest_in-placed chains b)
    longest-placed chains (Block at site head body) = longest_in-placed chains body

    longest_in-placed : (chains : List ℕ) (ss : Stmts) → longest_in chains (placed_stmts g ss) ≡ longest_in chains ss
    longest_in-placed chains done = refl
    longest_in-placed chains (next s ss) =
        ap (λ k. max k (longest_in chains (placed_stmts g ss))) (longest-placed chains s)
        ∙ ap (max (longest chains s)) (longest_in-placed chains ss)

  chains-fine : (chains : List ℕ) (fs : List Func) → chains_faults chains fs ≡ [] → chains_faults chains (functions_at fs) ≡ []
  chains-fine chains [] h = refl
  chains-fine chains (f ∷ fs) h =
      let same : chain chains (placed_function g f) ≡ chain chains f = ap (λ k. k + 1) (longest_in-placed chains f.body) in
      let both = none_in (fault_unless (nat_le (chain chains f) most_chain) kind.Order f.at)
      (chains_faults (chains ++ chain chains f ∷ []) fs) h in
      join_none _ _ (no_fault (nat_le (chain chains f) most_chain)
      (nat_le (chain chains (placed_function g f)) most_chain) kind.Order f.at (g f.at)
      (ap (λ k. nat_le k most_chain) same) both.0)
      (subst (λ k. chains_faults (chains ++ k ∷ []) (functions_at fs) ≡ []) (sym same)
      (chains-fine (chains ++ chain chains f ∷ []) fs both.1))

  states-fine : (ss : List State) → states_faults ss ≡ [] → states_faults (states_at ss) ≡ []
  states-fine [] h = refl
  states-fine (s ∷ ss) h =
      let both = none_in (fault_unless (is_well_typed s) kind.Type s.at) (states_faults ss) h in
      join_none _ _ (no_fault (is_well_typed s) (is_well_typed s) kind.Type s.at (g s.at) refl both.0)
      (states-fine ss both.1)

  state_names-placed : (ss : List State)
      → map (λ (s : State). s.name) (states_at ss) ≡ map (placed_name g) (map (λ s. s.name) ss)
  state_names-placed [] = refl
  state_names-placed (s ∷ ss) = ap (λ l. placed_name g s.name ∷ l) (state_names-placed ss)

  function_names-placed : (fs : List Func)
      → map (λ (f : Func). f.name) (functions_at fs) ≡ map (placed_name g) (map (λ f. f.name) fs)
  function_names-placed [] = refl
  function_names-placed (f ∷ fs) = ap (λ l. placed_name g f.name ∷ l) (function_names-placed fs)

  pub root-placed : (fs : List Func) → root_number (functions_at fs) ≡ root_number fs
  root-placed [] = refl
  root-placed (f ∷ fs) = ap (λ k. cond (is_root f) 0 (suc k)) (root-placed fs)

  pub program-fine : (p : Program) → program_faults p ≡ [] → program_faults (placed_program g p) ≡ []
  program-fine p h =
      let one = none_in (duplicate_faults [] (map (λ s. s.name) p.states)) _ h in
      let two = none_in (duplicate_faults [] (map (λ f. f.name) p.functions)) _ one.1 in
      let three = none_in (fault_unless (nat_lt (root_number p.functions) (length p.functions)) kind.Unknown p.header) _
      two.1 in
      let four = none_in (states_faults p.states) _ three.1 in
      let five = none_in (functions_faults p.states p.functions 0 p.functions) _ four.1 in
      join_none _ _ (ap (duplicate_faults []) (state_names-placed p.states)
      ∙ duplicates-placed [] (map (λ s. s.name) p.states) one.0)
      (join_none _ _ (ap (duplicate_faults []) (function_names-placed p.functions)
      ∙ duplicates-placed [] (map (λ f. f.name) p.functions) two.0)
      (join_none _ _ (no_fault (nat_lt (root_number p.functions) (length p.functions))
      (nat_lt (root_number (functions_at p.functions)) (length (functions_at p.functions))) kind.Unknown p.header
      (g p.header) (ap (λ k. nat_lt k (length (functions_at p.functions))) (root-placed p.functions)
      ∙ ap (nat_lt (root_number p.functions)) (length-map p.functions (placed_function g))) three.0)
      (join_none _ _ (states-fine p.states four.0)
      (join_none _ _ (functions-fine p.states p.functions 0 p.functions five.0) (chains-fine [] p.functions five.1)))))
