-- A program within the limits of size is so at other offsets.
use Rattle.std.proofs.Common.{◌≡◌, ℕ, suc, ◌+◌, max, nat_lt, Bool, List, [], ◌∷◌, ◌++◌, map, length, slice_get, refl, sym, ap, ◌∙◌, Option, Some, None}
use Rattle.std.proofs.lemmas.List.{length-map}
use Rattle.std.proofs.lemmas.Option.{slice_get-map}
use Rattle.std.specs.Option.{option_map}
use Rattle.lang_ast.specs.Terms.{Expr, Literal, Variable, Get, Apply, Exprs, none, more, Named, Head, Node, Key, For, Let, Remember, Stmt, Call, If, Block, Stmts, done, next, Func, operand_count}
use Rattle.lang_ast.specs.Programs.{Program}
use Rattle.lang_ast.specs.Offsets.{expr_offset}
use Rattle.lang_ast.specs.Sizes.{offset_if, most_forms, most_parts, most_nesting, most_name_bytes, name_sizes, is_long_list, expr_lengths, exprs_lengths, nesting, deepest, expr_sizes, exprs_sizes, named_sizes, head_sizes, stmt_sizes, stmts_sizes, parameters_sizes, function_sizes, functions_sizes, states_sizes, first_excess, state_offset, function_offset}
use Rattle.lang_ast.specs.declared.syntax.Ident.{Ident}
use Rattle.lang_ast.specs.declared.syntax.Parameter.{Parameter}
use Rattle.lang_ast.specs.declared.program.State.{State}
use Rattle.lang_ast.proofs.Limits.{none_in}
use Rattle.lang_limits.specs.Sizes.{program_sizes}
use Rattle.text_laws.specs.OtherOffsets.{placed_name, placed_expr, placed_exprs, placed_pair, placed_head, placed_stmt, placed_stmts, placed_parameter, placed_function, placed_state, placed_program}
use Rattle.text_laws.proofs.PlacedForests.{join_none, no_offset}

-- No item is in several lists, one after the other.
pub none_in_3 : {A : Type 0} (a b c : List A) → (a ++ b) ++ c ≡ [] → (a ≡ []) × (b ≡ []) × (c ≡ [])
none_in_3 a b c h = let last = none_in (a ++ b) c h in let two = none_in a b last.0 in (two.0, two.1, last.1)

pub none_in_4 : {A : Type 0} (a b c d : List A) → ((a ++ b) ++ c) ++ d ≡ []
    → (a ≡ []) × (b ≡ []) × (c ≡ []) × (d ≡ [])
none_in_4 a b c d h =
    let last = none_in ((a ++ b) ++ c) d h in let three = none_in_3 a b c last.0 in
    (three.0, three.1, three.2, last.1)

pub join_3 : {A : Type 0} (a b c : List A) → a ≡ [] → b ≡ [] → c ≡ [] → (a ++ b) ++ c ≡ []
join_3 a b c e f g = join_none (a ++ b) c (join_none a b e f) g

pub join_4 : {A : Type 0} (a b c d : List A) → a ≡ [] → b ≡ [] → c ≡ [] → d ≡ [] → ((a ++ b) ++ c) ++ d ≡ []
join_4 a b c d e f g h = join_none ((a ++ b) ++ c) d (join_3 a b c e f g) h

excess_none : (places : List ℕ) → first_excess places ≡ [] → slice_get places most_forms ≡ None
excess_none places h = by (slice_get places most_forms) refl
  where
    by : (o : Option ℕ) → slice_get places most_forms ≡ o → o ≡ None
    by None e = refl
    by (Some at) e = let bad : at ∷ [] ≡ [] = rw e at h in absurd cc

none_excess : (places : List ℕ) → slice_get places most_forms ≡ None → first_excess places ≡ []
none_excess places e = rw e refl

module _ (g : ℕ → ℕ) where
  no_excess : {A : Type 0} (place : A → ℕ) (move : A → A) → ((x : A) → place (move x) ≡ g (place x)) → (xs : List A)
      → first_excess (map place xs) ≡ [] → first_excess (map place (map move xs)) ≡ []
  no_excess place move same xs h =
      none_excess (map place (map move xs))
      (places xs most_forms ∙ ap (λ o. option_map g o) (excess_none (map place xs) h))
    where
      places : (xs : List _) (i : ℕ)
          → slice_get (map place (map move xs)) i ≡ option_map g (slice_get (map place xs) i)
      places xs i =
          slice_get-map place (map move xs) i ∙ ap (λ o. option_map place o) (slice_get-map move xs i)
          ∙ by (slice_get xs i) ∙ sym (ap (λ o. option_map g o) (slice_get-map place xs i))
        where
          by : (o : Option _) → option_map place (option_map move o) ≡ option_map g (option_map place o)
          by None = refl
          by (Some x) = ap Some (same x)

  same_offset : (b : Bool) (at bt : ℕ) → offset_if b at ≡ [] → offset_if b bt ≡ []
  same_offset b at bt h = no_offset b b at bt refl h

  name-sized : (n : Ident) → name_sizes n ≡ [] → name_sizes (placed_name g n) ≡ []
  name-sized n h = same_offset (nat_lt most_name_bytes (length n.text)) n.at (g n.at) h

  operand_count-placed : (es : Exprs) → operand_count (placed_exprs g es) ≡ operand_count es
  operand_count-placed none = refl
  operand_count-placed (more e es) = ap (λ n. suc n) (operand_count-placed es)

  mutual
    expr-lengths : (e : Expr) → expr_lengths e ≡ [] → expr_lengths (placed_expr g e) ≡ []
    expr-lengths (Literal at v) h = refl
    expr-lengths (Variable n) h = name-sized n h
    expr-lengths (Get at n source) h = name-sized n h
    expr-lengths (Apply at op es) h =
        let both = none_in (offset_if (is_long_list op (operand_count es)) at) (exprs_lengths es) h in
        join_none _ _ (no_offset (is_long_list op (operand_count es)) (is_long_list op (operand_count (placed_exprs g es)))
        at (g at) (ap (is_long_list op) (operand_count-placed es)) both.0) (exprs-lengths es both.1)

    exprs-lengths : (es : Exprs) → exprs_lengths es ≡ [] → exprs_lengths (placed_exprs g es) ≡ []
    exprs-lengths none h = refl
    exprs-lengths (more e es) h =
        let both = none_in (expr_lengths e) (exprs_lengths es) h in
        join_none _ _ (expr-lengths e both.0) (exprs-lengths es both.1)

  mutual
    nesting-placed : (e : Expr) → nesting (placed_expr g e) ≡ nesting e
    nesting-placed (Literal at v) = refl
    nesting-placed (Variable n) = refl
    nesting-placed (Get at n source) = refl
    nesting-placed (Apply at op es) = ap (λ k. k + 1) (deepest-placed es)

    deepest-placed : (es : Exprs) → deepest (placed_exprs g es) ≡ deepest es
    deepest-placed none = refl
    deepest-placed (more e es) =
        ap (λ k. max k (deepest (placed_exprs g es))) (nesting-placed e) ∙ ap (max (nesting e)) (deepest-placed es)

  expr-sized : (e : Expr) → expr_sizes e ≡ [] → expr_sizes (placed_expr g e) ≡ []
  expr-sized e h =
      let both = none_in (offset_if (nat_lt most_nesting (nesting e)) (expr_offset e)) (expr_lengths e) h in
      join_none _ _ (no_offset (nat_lt most_nesting (nesting e)) (nat_lt most_nesting (nesting (placed_expr g e)))
      (expr_offset e) (expr_offset (placed_expr g e)) (ap (nat_lt most_nesting) (nesting-placed e)) both.0)
      (expr-lengths e both.1)

  exprs-sized : (es : Exprs) → exprs_sizes es ≡ [] → exprs_sizes (placed_exprs g es) ≡ []
  exprs-sized none h = refl
  exprs-sized (more e es) h =
      let both = none_in (expr_sizes e) (exprs_sizes es) h in
      join_none _ _ (expr-sized e both.0) (exprs-sized es both.1)

  pairs-sized : (ns : List Named) → named_sizes ns ≡ [] → named_sizes (map (placed_pair g) ns) ≡ []
  pairs-sized [] h = refl
  pairs-sized (n ∷ ns) h =
      let parts = none_in_3 (name_sizes n.name) (expr_sizes n.value) (named_sizes ns) h in
      join_3 _ _ _ (name-sized n.name parts.0) (expr-sized n.value parts.1) (pairs-sized ns parts.2)

  count-sized : {A : Type 0} (move : A → A) (xs : List A) (at bt : ℕ) → offset_if (nat_lt most_parts (length xs)) at ≡ []
      → offset_if (nat_lt most_parts (length (map move xs))) bt ≡ []
  count-sized move xs at bt h =
      no_offset (nat_lt most_parts (length xs)) (nat_lt most_parts (length (map move xs))) at bt
      (ap (nat_lt most_parts) (length-map xs move)) h

  head-sized : (at bt : ℕ) (h : Head) → head_sizes at h ≡ [] → head_sizes bt (placed_head g h) ≡ []
  head-sized at bt (Node n ns) h =
      let parts = none_in_3 (name_sizes n) (offset_if (nat_lt most_parts (length ns)) at) (named_sizes ns) h in
      join_3 _ _ _ (name-sized n parts.0) (count-sized (placed_pair g) ns at bt parts.1) (pairs-sized ns parts.2)
  head-sized at bt (Key e) h = expr-sized e h
  head-sized at bt (For n e) h =
      let both = none_in (name_sizes n) (expr_sizes e) h in
      join_none _ _ (name-sized n both.0) (expr-sized e both.1)
  head-sized at bt (Let n e) h =
      let both = none_in (name_sizes n) (expr_sizes e) h in
      join_none _ _ (name-sized n both.0) (expr-sized e both.1)
  head-sized at bt (Remember n ks e) h =
      let parts = none_in_4 (name_sizes n) (offset_if (nat_lt most_parts (length ks)) at) (named_sizes ks)
      (expr_sizes e) h in
      join_4 _ _ _ _ (name-sized n parts.0) (count-sized (placed_pair g) ks at bt parts.1) (pairs-sized ks parts.2)
      (expr-sized e parts.3)

  mutual
    stmt-sized : (d : ℕ) (s : Stmt) → stmt_sizes d s ≡ [] → stmt_sizes d (placed_stmt g s) ≡ []
    stmt-sized d (Call at site n function es) h =
        let parts = none_in_3 (name_sizes n) (offset_if (nat_lt most_parts d) at) (exprs_sizes es) h in
        join_3 _ _ _ (name-sized n parts.0) (same_offset (nat_lt most_parts d) at (g at) parts.1) (exprs-sized es parts.2)
    stmt-sized d (If at site e a b) h =
        let parts = none_in_4 (offset_if (nat_lt most_parts d) at) (expr_sizes e) (stmts_sizes (d + 1) a)
        (stmts_sizes (d + 1) b) h in
        join_4 _ _ _ _ (same_offset (nat_lt most_parts d) at (g at) parts.0) (expr-sized e parts.1)
        (stmts-sized (d + 1) a parts.2) (stmts-sized (d + 1) b parts.3)
    stmt-sized d (Block at site head body) h =
        let parts = none_in_3 (offset_if (nat_lt most_parts d) at) (head_sizes at head) (stmts_sizes (d + 1) body) h in
        join_3 _ _ _ (same_offset (nat_lt most_parts d) at (g at) parts.0) (head-sized at (g at) head parts.1)
        (stmts-sized (d + 1) body parts.2)

    stmts-sized : (d : ℕ) (ss : Stmts) → stmts_sizes d ss ≡ [] → stmts_sizes d (placed_stmts g ss) ≡ []
    stmts-sized d done h = refl
    stmts-sized d (next s ss) h =
        let both = none_in (stmt_sizes d s) (stmts_sizes d ss) h in
        join_none _ _ (stmt-sized d s both.0) (stmts-sized d ss both.1)

  parameters-sized : (ps : List Parameter) → parameters_sizes ps ≡ [] → parameters_sizes (map (placed_parameter g) ps) ≡ []
  parameters-sized [] h = refl
  parameters-sized (p ∷ ps) h =
      let both = none_in (name_sizes p.name) (parameters_sizes ps) h in
      join_none _ _ (name-sized p.name both.0) (parameters-sized ps both.1)

  function-sized : (f : Func) → function_sizes f ≡ [] → function_sizes (placed_function g f) ≡ []
  function-sized f h =
      let parts = none_in_4 (name_sizes f.name) (parameters_sizes f.parameters)
      (offset_if (nat_lt most_parts (length f.parameters)) f.at) (stmts_sizes 1 f.body) h in
      join_4 _ _ _ _ (name-sized f.name parts.0) (parameters-sized f.parameters parts.1)
      (count-sized (placed_parameter g) f.parameters f.at (g f.at) parts.2) (stmts-sized 1 f.body parts.3)

  functions-sized : (fs : List Func) → functions_sizes fs ≡ [] → functions_sizes (map (placed_function g) fs) ≡ []
  functions-sized [] h = refl
  functions-sized (f ∷ fs) h =
      let both = none_in (function_sizes f) (functions_sizes fs) h in
      join_none _ _ (function-sized f both.0) (functions-sized fs both.1)

  states-sized : (ss : List State) → states_sizes ss ≡ [] → states_sizes (map (placed_state g) ss) ≡ []
  states-sized [] h = refl
  states-sized (s ∷ ss) h =
      let both = none_in (name_sizes s.name) (states_sizes ss) h in
      join_none _ _ (name-sized s.name both.0) (states-sized ss both.1)

  pub program-sized : (p : Program) → program_sizes p ≡ [] → program_sizes (placed_program g p) ≡ []
  program-sized p h =
      let parts = none_in_3 (first_excess (map state_offset p.states)) (first_excess (map function_offset p.functions))
      (states_sizes p.states ++ functions_sizes p.functions) h in
      let both = none_in (states_sizes p.states) (functions_sizes p.functions) parts.2 in
      join_3 _ _ _ (no_excess state_offset (placed_state g) (λ s. refl) p.states parts.0)
      (no_excess function_offset (placed_function g) (λ f. refl) p.functions parts.1)
      (join_none _ _ (states-sized p.states both.0) (functions-sized p.functions both.1))
