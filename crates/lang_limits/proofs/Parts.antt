-- Parts of programs, in order.
use Rattle.std.proofs.Common.{arith, ◌≡◌, ◌∙◌, ◌≤◌, ◌<◌, ◌+◌, ℕ, suc, add-one, max, min, leb, nat_lt, length, get_or, drop, drop-cons, List, [], ◌∷◌, ◌++◌, map, slice_get, option_map, Option, None, Some, Bool, true, false, ◌||◌, refl, sym, ap, append_assoc}
use Rattle.std.proofs.lemmas.Bool.{lt-ltb, leb-true, leb-false}
use Rattle.std.proofs.lemmas.List.{append-nil, length-map}
use Rattle.std.proofs.lemmas.Option.{slice_get-map}
use Rattle.lang_ast.proofs.Lists.{drop_item}
use Rattle.lang_ast.proofs.Views.{views}
use Rattle.lang_ast.specs.Terms.{Remember, Stmt, Call, If, Block, Stmts, done, next, operand_count}
use Rattle.lang_ast.specs.SyntaxView.{expr_view, exprs_view, named_view, nameds_view, stmt_view, stmts_view, function_view, functions_view}
use Rattle.lang_ast.specs.declared.program.State.{State}
use Rattle.lang_ast.specs.declared.syntax.Expression.{Expression}
use Rattle.lang_ast.specs.declared.syntax.Statement.{Statement}
use Rattle.lang_ast.specs.declared.syntax.Function.{Function}
use Rattle.lang_ast.specs.declared.syntax.Ident.{Ident}
use Rattle.lang_ast.specs.declared.syntax.Parameter.{Parameter}
use Rattle.lang_ast.specs.declared.syntax.Named as named
use Rattle.lang_limits.specs.LeastOffset.{least_offset_from}
use Rattle.lang_ast.specs.Sizes.{most_parts, nesting, deepest, name_sizes, expr_lengths, exprs_lengths, expr_sizes, exprs_sizes, named_sizes, head_sizes, stmt_sizes, stmts_sizes, parameters_sizes, function_sizes, functions_sizes, states_sizes, state_offset, function_offset, offset_if}
use Rattle.lang_limits.proofs.Lesser.{least_append}

-- The view of each form in memory, and the least of one list after another.
pub ruleset parts = (views, least_append, append-nil)

pub deepest_step : (es : List Expression) (i : ℕ) (e : Expression) → i < length es → e ≡ get_or es i e →
    deepest (exprs_view (drop i es)) ≡ max (nesting (expr_view e)) (deepest (exprs_view (drop (i + 1) es)))
deepest_step es i e h is = ap (λ (l : List Expression). deepest (exprs_view l)) (drop_item es i e h is)

pub exprs_step : (es : List Expression) (i : ℕ) (e : Expression) (o : Option ℕ) → i < length es → e ≡ get_or es i e →
    least_offset_from o (exprs_sizes (exprs_view (drop i es)))
    ≡ least_offset_from (least_offset_from o (expr_sizes (expr_view e)))
    (exprs_sizes (exprs_view (drop (i + 1) es)))
exprs_step es i e o h is =
    ap (λ (l : List Expression). least_offset_from o (exprs_sizes (exprs_view l))) (drop_item es i e h is)
    ∙ least_append o (expr_sizes (expr_view e)) (exprs_sizes (exprs_view (drop (i + 1) es)))

pub lengths_step : (es : List Expression) (i : ℕ) (e : Expression) (o : Option ℕ) → i < length es → e ≡ get_or es i e →
    least_offset_from o (exprs_lengths (exprs_view (drop i es)))
    ≡ least_offset_from (least_offset_from o (expr_lengths (expr_view e)))
    (exprs_lengths (exprs_view (drop (i + 1) es)))
lengths_step es i e o h is =
    ap (λ (l : List Expression). least_offset_from o (exprs_lengths (exprs_view l))) (drop_item es i e h is)
    ∙ least_append o (expr_lengths (expr_view e)) (exprs_lengths (exprs_view (drop (i + 1) es)))

-- The number of operands in memory.
pub operands_counted : (es : List Expression) → operand_count (exprs_view es) ≡ length es
operands_counted [] = refl
operands_counted (e ∷ es) = ap suc (operands_counted es)

pub parameters_step : (ps : List Parameter) (i : ℕ) (p : Parameter) (o : Option ℕ) → i < length ps → p ≡ get_or ps i p →
    least_offset_from o (parameters_sizes (drop i ps))
    ≡ least_offset_from (least_offset_from o (name_sizes p.name)) (parameters_sizes (drop (i + 1) ps))
parameters_step ps i p o h is =
    ap (λ (l : List Parameter). least_offset_from o (parameters_sizes l)) (drop_item ps i p h is)
    ∙ least_append o (name_sizes p.name) (parameters_sizes (drop (i + 1) ps))

pub states_step : (ss : List State) (i : ℕ) (s : State) (o : Option ℕ) → i < length ss → s ≡ get_or ss i s →
    least_offset_from o (states_sizes (drop i ss))
    ≡ least_offset_from (least_offset_from o (name_sizes s.name)) (states_sizes (drop (i + 1) ss))
states_step ss i s o h is =
    ap (λ (l : List State). least_offset_from o (states_sizes l)) (drop_item ss i s h is)
    ∙ least_append o (name_sizes s.name) (states_sizes (drop (i + 1) ss))

pub named_step : (ns : List named.Named) (i : ℕ) (n : named.Named) (o : Option ℕ) → i < length ns → n ≡ get_or ns i n →
    least_offset_from o (named_sizes (nameds_view (drop i ns)))
    ≡ least_offset_from (least_offset_from (least_offset_from o (name_sizes n.name)) (expr_sizes (expr_view n.value)))
    (named_sizes (nameds_view (drop (i + 1) ns)))
named_step ns i n o h is =
    ap (λ (l : List named.Named). least_offset_from o (named_sizes (nameds_view l))) (drop_item ns i n h is)
    ∙ least_append o (name_sizes n.name ++ expr_sizes (expr_view n.value)) (named_sizes (nameds_view (drop (i + 1) ns)))
    ∙ ap (λ (p : Option ℕ). least_offset_from p (named_sizes (nameds_view (drop (i + 1) ns))))
    (least_append o (name_sizes n.name) (expr_sizes (expr_view n.value)))

-- The least of a name, of a list of named expressions that may be too long, and of an expression.
pub keyed_sizes : (o : Option ℕ) (at : ℕ) (n : Ident) (ks : List named.Named) (e : Expression) →
    least_offset_from o (head_sizes at (Remember n (nameds_view ks) (expr_view e)))
    ≡ least_offset_from (least_offset_from (least_offset_from (least_offset_from o (name_sizes n))
    (offset_if (nat_lt most_parts (length ks)) at)) (named_sizes (nameds_view ks))) (expr_sizes (expr_view e))
keyed_sizes o at n ks e =
    let part = offset_if (nat_lt most_parts (length ks)) at in
    let keys = named_sizes (nameds_view ks) in
    let value = expr_sizes (expr_view e) in
    ap (λ (k : ℕ). least_offset_from o (name_sizes n ++ offset_if (nat_lt most_parts k) at ++ keys ++ value))
    (length-map ks named_view)
    ∙ least_append o (name_sizes n ++ part ++ keys) value
    ∙ ap (λ (p : Option ℕ). least_offset_from p value)
    (least_append o (name_sizes n ++ part) keys
    ∙ ap (λ (p : Option ℕ). least_offset_from p keys) (least_append o (name_sizes n) part))

pub stmts_step : (d : ℕ) (ss : List Statement) (i : ℕ) (s : Statement) (o : Option ℕ) → i < length ss
    → s ≡ get_or ss i s →
    least_offset_from o (stmts_sizes d (stmts_view (drop i ss)))
    ≡ least_offset_from (least_offset_from o (stmt_sizes d (stmt_view s)))
    (stmts_sizes d (stmts_view (drop (i + 1) ss)))
stmts_step d ss i s o h is =
    ap (λ (l : List Statement). least_offset_from o (stmts_sizes d (stmts_view l))) (drop_item ss i s h is)
    ∙ least_append o (stmt_sizes d (stmt_view s)) (stmts_sizes d (stmts_view (drop (i + 1) ss)))

pub functions_step : (fs : List Function) (i : ℕ) (f : Function) (o : Option ℕ) → i < length fs → f ≡ get_or fs i f →
    least_offset_from o (functions_sizes (functions_view (drop i fs)))
    ≡ least_offset_from (least_offset_from o (function_sizes (function_view f)))
    (functions_sizes (functions_view (drop (i + 1) fs)))
functions_step fs i f o h is =
    ap (λ (l : List Function). least_offset_from o (functions_sizes (functions_view l))) (drop_item fs i f h is)
    ∙ least_append o (function_sizes (function_view f)) (functions_sizes (functions_view (drop (i + 1) fs)))

pub state_at : (ss : List State) (i : ℕ) → slice_get (map state_offset ss) i ≡ option_map state_offset (slice_get ss i)
state_at ss i = slice_get-map state_offset ss i

-- The offsets of functions in memory.
pub function_offsets : (fs : List Function) → map function_offset (functions_view fs) ≡ map (λ (f : Function). f.at) fs
function_offsets [] = refl
function_offsets (f ∷ fs) = ap (λ (rest : List ℕ). f.at ∷ rest) (function_offsets fs)

pub function_at : (fs : List Function) (i : ℕ)
    → slice_get (map (λ (f : Function). f.at) fs) i ≡ option_map (λ (f : Function). f.at) (slice_get fs i)
function_at fs i = slice_get-map (λ (f : Function). f.at) fs i

over_same : (d e at : ℕ) → most_parts < d → most_parts < e
    → offset_if (nat_lt most_parts d) at ≡ offset_if (nat_lt most_parts e) at
over_same d e at h k = rw (lt-ltb most_parts d h, lt-ltb most_parts e k) refl

deeper : (d : ℕ) → most_parts < d → most_parts < d + 1
deeper d h = omega arith

-- Statements that are nested too deep have the same oversized parts at each depth.
mutual
  stmt_same : (s : Stmt) (d e : ℕ) → most_parts < d → most_parts < e → stmt_sizes d s ≡ stmt_sizes e s
  stmt_same (Call at site n f es) d e h k = rw (over_same d e at h k) refl
  stmt_same (If at site x a b) d e h k =
      rw (
        over_same d e at h k,
        stmts_same a (d + 1) (e + 1) (deeper d h) (deeper e k),
        stmts_same b (d + 1) (e + 1) (deeper d h) (deeper e k),
      ) refl
  stmt_same (Block at site head body) d e h k =
      rw (over_same d e at h k, stmts_same body (d + 1) (e + 1) (deeper d h) (deeper e k)) refl

  stmts_same : (ss : Stmts) (d e : ℕ) → most_parts < d → most_parts < e → stmts_sizes d ss ≡ stmts_sizes e ss
  stmts_same done d e h k = refl
  stmts_same (next s ss) d e h k = rw (stmt_same s d e h k, stmts_same ss d e h k) refl

-- A depth counts only to the first that is too deep.
pub too_deep : (d : ℕ) (ss : Stmts) → stmts_sizes (min d most_parts + 1) ss ≡ stmts_sizes (d + 1) ss
too_deep d ss = by (leb d most_parts) refl
  where
    by : (b : Bool) → leb d most_parts ≡ b → stmts_sizes (min d most_parts + 1) ss ≡ stmts_sizes (d + 1) ss
    by true h =
        let small : d ≤ most_parts = leb-true d most_parts h in
        let same : min d most_parts ≡ d = omega arith in
        ap (λ (x : ℕ). stmts_sizes (x + 1) ss) same
    by false h =
        let large : most_parts < d = leb-false d most_parts h in
        stmts_same ss (min d most_parts + 1) (d + 1) (omega arith) (omega arith)
