-- The effect of evaluating, one lemma for each way to evaluate a part of an expression.
use Rattle.std.proofs.Common.{◌≡◌, ℕ, ◌+◌, ◌<◌, ◌≤◌, List, [], ◌∷◌, ◌++◌, length, get_or, drop, take, map, refl, sym, ap, subst, ◌∙◌, ℤ, append_assoc, append-nil, drop-cons, add-one, Bool, true, false, Vec, Global, Result, Ok, Err, IsErr}
use Rattle.std.specs.Prelude.{IfOk, OnErr}
use Rattle.std.proofs.lemmas.List.{drop_all}
use Rattle.rt_values.specs.declared.value.Value.{Value}
use Rattle.rt_values.specs.declared.value.Value.TheVariants as value
use Rattle.rt_values.specs.Limits.{most_items}
use Rattle.rt_values.specs.Values.{is_flat, no_value}
use Rattle.rt_values.specs.Operators.{number_of}
use Rattle.rt_values.specs.Maps.{Map, value_at}
use Rattle.rt_values.specs.Views.{Grew}
use Rattle.lang_ast.specs.ResultsWithReads.{Reading, pure_reading, mapped_reading, with}
use Rattle.lang_ast.specs.Evaluation.{Bindings, lookup, source_reading, eval, eval_all, eval_nth, first, second, apply, is_pick, operand_taken}
use Rattle.lang_ast.specs.Terms.{Expr, Exprs, Apply}
use Rattle.lang_ast.specs.SyntaxView.{expr_view, exprs_view}
use Rattle.lang_ast.specs.declared.syntax.Ident.{Ident}
use Rattle.lang_ast.specs.declared.syntax.Expression.{Expression, Literal as LiteralOf, Variable as VariableOf, Get as GetOf, Apply as ApplyOf}
use Rattle.lang_ast.specs.declared.syntax.Operator.{Operator}
use Rattle.lang_ast.specs.declared.syntax.Operator.TheVariants as operator
use Rattle.lang_ast.specs.declared.syntax.Source.{Source}
use Rattle.lang_ast.specs.declared.syntax.Source.TheVariants as source
use Rattle.lang_ast.proofs.Views.{view-Literal, view-Variable, view-Get, view-Apply}
use Rattle.lang_eval.specs.Flatness.{is_flat_expr, are_flat, is_flat_nth}
use Rattle.lang_eval.specs.Operands.{is_list, pair, pair_from, list_with_all}
use Rattle.lang_eval.specs.EvaluatesReading.{EvaluatesReading, EvaluationProgress}
use Rattle.lang_eval.specs.declared.applying.Pair.{Pair}
use Rattle.lang_eval.proofs.Flats.{both_second, both_first, flat_nth}
use Rattle.lang_eval.proofs.Grows.{grew_none, grew_front, grew_behind}
use Rattle.lang_eval.proofs.Operands.{apply_two, all_part, filled_whole, gathered_whole}

-- A result without reads.
pub evaluated_pure : {A E : Type 0} (r : Reading A) (w : A) (noting : Bool) (free : Type 0) (flat : Bool)
    (asked reads : List ℕ) (result : Result A E) → r ≡ pure_reading w → IfOk result (λ v. v ≡ w)
    → (flat ≡ true → OnErr result ⊥) → EvaluatesReading r noting free flat asked asked reads reads result
evaluated_pure {A} r w noting free flat asked reads (Ok v) is e f = record {
  value = e ∙ ap (λ (x : Reading A). x.value) (sym is);
  came = sym (append-nil asked) ∙ ap (λ (x : Reading A). asked ++ x.reads) (sym is);
  noted = λ n. sym (append-nil reads) ∙ ap (λ (x : Reading A). reads ++ x.reads) (sym is);
  part = tt;
  no_error = λ n q g. tt;
}
evaluated_pure r w noting free flat asked reads (Err x) is e f =
    record { value = tt; came = tt; noted = λ n. tt; part = grew_none _ _; no_error = λ n q g. f g }

-- Out of memory after a part of the reads.
pub evaluated_stop : {A E : Type 0} (r : Reading A) (noting : Bool) (free : Type 0) (flat : Bool)
    (asked asked' reads reads' : List ℕ) (result : Result A E) → IsErr result → Grew asked asked' r.reads
    → (noting ≡ false → free → flat ≡ true → ⊥)
    → EvaluatesReading r noting free flat asked asked' reads reads' result
evaluated_stop r noting free flat asked asked' reads reads' (Ok v) e g f = cc
evaluated_stop r noting free flat asked asked' reads reads' (Err x) e g f =
    record { value = tt; came = tt; noted = λ n. tt; part = g; no_error = f }

-- An equal reading.
pub evaluated_as : {A E : Type 0} (r s : Reading A) (noting : Bool) (free : Type 0) (flat flat' : Bool)
    (asked asked' reads reads' : List ℕ) (result : Result A E) → r ≡ s → (flat ≡ true → flat' ≡ true)
    → EvaluatesReading s noting free flat' asked asked' reads reads' result
    → EvaluatesReading r noting free flat asked asked' reads reads' result
evaluated_as {A} r s noting free flat flat' asked asked' reads reads' result e f h =
    subst (λ (x : Reading A). EvaluatesReading x noting free flat asked asked' reads reads' result) (sym e)
    (record { value = h.value; came = h.came; noted = h.noted; part = h.part; no_error = λ n q g. h.no_error n q (f g) })

-- A reading, and then one that depends on its value.
pub evaluated_then : {A B E : Type 0} (r : Reading A) (go : A → Reading B) (a : A) (noting : Bool) (free free' : Type 0)
    (flat : Bool) (asked mid asked' reads between reads' : List ℕ) (result : Result B E) → a ≡ r.value
    → mid ≡ asked ++ r.reads → (noting ≡ true → between ≡ reads ++ r.reads) → (free → free')
    → EvaluatesReading (go a) noting free' flat mid asked' between reads' result
    → EvaluatesReading (with r go) noting free flat asked asked' reads reads' result
evaluated_then {A} r go a noting free free' flat asked mid asked' reads between reads' (Ok b) v e f q h = record {
  value = h.value ∙ ap (λ (x : A). (go x).value) v;
  came = h.came ∙ ap (λ l. l ++ (go a).reads) e ∙ append_assoc asked r.reads (go a).reads
      ∙ ap (λ (x : A). asked ++ (r.reads ++ (go x).reads)) v;
  noted = λ n. h.noted n ∙ ap (λ l. l ++ (go a).reads) (f n) ∙ append_assoc reads r.reads (go a).reads
      ∙ ap (λ (x : A). reads ++ (r.reads ++ (go x).reads)) v;
  part = tt;
  no_error = λ n p g. tt;
}
evaluated_then {A} r go a noting free free' flat asked mid asked' reads between reads' (Err x) v e f q h = record {
  value = tt;
  came = tt;
  noted = λ n. tt;
  part = grew_behind asked mid asked' r.reads (go r.value).reads e
      (subst (λ (x : A). Grew mid asked' (go x).reads) v h.part);
  no_error = λ n p g. h.no_error n (q p) g;
}

-- Literals, variables and reads of state objects.

pub literal_evaluated : {E : Type 0} (m : Map) (e : Expression) (at : ℕ) (v : Value) (env : Bindings) (noting : Bool)
    (free : Type 0) (asked reads : List ℕ) (result : Result Value E) → e ≡ LiteralOf at v → IfOk result (λ w. w ≡ v)
    → (is_flat v ≡ true → OnErr result ⊥)
    → EvaluatesReading (eval m (expr_view e) env) noting free (is_flat_expr m (expr_view e) env) asked asked reads reads
    result
literal_evaluated m e at v env noting free asked reads result is value f =
    let view = ap expr_view is ∙ view-Literal at v in
    evaluated_pure _ v _ _ _ _ _ _ (ap (λ (x : Expr). eval m x env) view) value
    (λ g. f (ap (λ (x : Expr). is_flat_expr m x env) (sym view) ∙ g))

pub variable_evaluated : {E : Type 0} (m : Map) (e : Expression) (name : Ident) (text : List ℕ) (env : Bindings)
    (noting : Bool) (free : Type 0) (asked reads : List ℕ) (result : Result Value E) → e ≡ VariableOf name
    → text ≡ name.text → IfOk result (λ w. w ≡ lookup env text) → (is_flat (lookup env text) ≡ true → OnErr result ⊥)
    → EvaluatesReading (eval m (expr_view e) env) noting free (is_flat_expr m (expr_view e) env) asked asked reads reads
    result
variable_evaluated m e name text env noting free asked reads result is named value f =
    let view = ap expr_view is ∙ view-Variable name in
    evaluated_pure _ (lookup env text) _ _ _ _ _ _ (ap (λ (x : Expr). eval m x env) view
    ∙ ap (λ (n : List ℕ). pure_reading (lookup env n)) (sym named)) value
    (λ g. f (ap (λ (n : List ℕ). is_flat (lookup env n)) named ∙ ap (λ (x : Expr). is_flat_expr m x env) (sym view) ∙ g))

-- The reading of a state object.
pub state_evaluated : {E : Type 0} (m : Map) (s : Source) (x : ℕ) (noting : Bool) (free : Type 0)
    (asked asked' reads reads' : List ℕ) (result : Result Value E) → s ≡ source.State x
    → EvaluatesReading (source_reading m (source.State x)) noting free (is_flat (value_at m x)) asked asked' reads reads'
    result
    → EvaluatesReading (source_reading m s) noting free (is_flat (source_reading m s).value) asked asked' reads reads'
    result
state_evaluated m s x noting free asked asked' reads reads' result is h =
    evaluated_as _ _ _ _ _ _ _ _ _ _ _ (ap (λ (y : Source). source_reading m y) is)
    (λ g. ap (λ (y : Source). is_flat (source_reading m y).value) (sym is) ∙ g) h

-- A `Get` is evaluated by reading what its name stands for.
pub get_evaluated : {E : Type 0} (m : Map) (e : Expression) (at : ℕ) (name : Ident) (source : Source) (env : Bindings)
    (noting : Bool) (free : Type 0) (asked asked' reads reads' : List ℕ) (result : Result Value E)
    → e ≡ GetOf at name source
    → EvaluatesReading (source_reading m source) noting free (is_flat (source_reading m source).value) asked asked' reads
    reads' result
    → EvaluatesReading (eval m (expr_view e) env) noting free (is_flat_expr m (expr_view e) env) asked asked' reads
    reads' result
get_evaluated m e at name source env noting free asked asked' reads reads' result is h =
    let view = ap expr_view is ∙ view-Get at name source in
    evaluated_as _ _ _ _ _ _ _ _ _ _ _ (ap (λ (x : Expr). eval m x env) view)
    (λ g. ap (λ (x : Expr). is_flat_expr m x env) (sym view) ∙ g) h

-- Operators.

pub apply_view : (e : Expression) (at : ℕ) (op : Operator) (operands : Vec Expression Global) (slice : List Expression)
    → e ≡ ApplyOf at op operands → slice ≡ operands.items → expr_view e ≡ Apply at op (exprs_view slice)
apply_view e at op operands slice is items = ap expr_view is ∙ view-Apply at op operands
    ∙ ap (λ (l : List Expression). Apply at op (exprs_view l)) (sym items)

flat_operands : (m : Map) (x : Expr) (at : ℕ) (op : Operator) (es : Exprs) (env : Bindings) → x ≡ Apply at op es
    → is_flat_expr m x env ≡ true → are_flat m es env ≡ true
flat_operands m x at op es env is f = both_second (is_flat (eval m (Apply at op es) env).value) (are_flat m es env)
    (ap (λ (y : Expr). is_flat_expr m y env) (sym is) ∙ f)

flat_value : (m : Map) (x : Expr) (at : ℕ) (op : Operator) (es : Exprs) (env : Bindings) → x ≡ Apply at op es
    → is_flat_expr m x env ≡ true → is_flat (eval m (Apply at op es) env).value ≡ true
flat_value m x at op es env is f = both_first (is_flat (eval m (Apply at op es) env).value) (are_flat m es env)
    (ap (λ (y : Expr). is_flat_expr m y env) (sym is) ∙ f)

pick_reading : (m : Map) (x : Expr) (at : ℕ) (op : Operator) (es : Exprs) (env : Bindings) → x ≡ Apply at op es
    → is_pick op ≡ true
    → eval m x env ≡ with (eval_nth m es 0 env) (λ c. eval_nth m es (operand_taken c) env)
pick_reading m x at op es env is pick = ap (λ (y : Expr). eval m y env) is ∙ rw pick refl

other_reading : (m : Map) (at : ℕ) (op : Operator) (es : Exprs) (env : Bindings) → is_pick op ≡ false
    → eval m (Apply at op es) env ≡ mapped_reading (apply op) (eval_all m es env)
other_reading m at op es env other = rw other refl

-- The condition of a pick could not be evaluated.
pub pick_stop : {E : Type 0} (m : Map) (x : Expr) (at : ℕ) (op : Operator) (es : Exprs) (env : Bindings) (noting : Bool)
    (free : Type 0) (asked asked' reads reads' : List ℕ) (result : Result Value E) → x ≡ Apply at op es
    → is_pick op ≡ true → IsErr result → Grew asked asked' (eval_nth m es 0 env).reads
    → (noting ≡ false → free → is_flat_nth m es 0 env ≡ true → ⊥)
    → EvaluatesReading (eval m x env) noting free (is_flat_expr m x env) asked asked' reads reads' result
pick_stop m x at op es env noting free asked asked' reads reads' result is pick err part f =
    evaluated_stop _ _ _ _ _ _ _ _ _ err
    (subst (λ (r : Reading Value). Grew asked asked' r.reads) (sym (pick_reading m x at op es env is pick))
    (grew_front asked asked' (eval_nth m es 0 env).reads _ part))
    (λ n q g. f n q (flat_nth m es 0 env (flat_operands m x at op es env is g)))

-- The condition of a pick, and then the operand that it takes.
pub pick_evaluated : {E : Type 0} (m : Map) (x : Expr) (at : ℕ) (op : Operator) (es es' : Exprs) (env : Bindings)
    (n : ℕ) (c : Value) (noting : Bool) (free free' : Type 0) (asked mid asked' reads between reads' : List ℕ)
    (result : Result Value E) → x ≡ Apply at op es → es' ≡ es → is_pick op ≡ true → c ≡ (eval_nth m es 0 env).value
    → n ≡ operand_taken c → mid ≡ asked ++ (eval_nth m es 0 env).reads
    → (noting ≡ true → between ≡ reads ++ (eval_nth m es 0 env).reads) → (free → free')
    → EvaluatesReading (eval_nth m es' n env) noting free' (is_flat_nth m es' n env) mid asked' between reads' result
    → EvaluatesReading (eval m x env) noting free (is_flat_expr m x env) asked asked' reads reads' result
pick_evaluated m x at op es es' env n c noting free free' asked mid asked' reads between reads' result is again pick value
    choice came noted q h =
    let second = subst (λ (l : Exprs). EvaluatesReading (eval_nth m l n env) noting free' (is_flat_nth m l n env) mid asked'
    between reads' result) again h in
    evaluated_as _ _ _ _ _ (is_flat_nth m es n env) _ _ _ _ _ (pick_reading m x at op es env is pick)
    (λ g. flat_nth m es n env (flat_operands m x at op es env is g))
    (evaluated_then (eval_nth m es 0 env) (λ k. eval_nth m es (operand_taken k) env) c _ _ _ _ _ _ _ _ _ _ _ value came
    noted q (subst (λ (k : ℕ). EvaluatesReading (eval_nth m es k env) noting free' (is_flat_nth m es n env) mid asked'
    between reads' result) choice second))

-- A list takes the numbers of its operands.

list_apply : (o : Operator) (vs : List Value) → is_list o ≡ true
    → apply o vs ≡ value.Ints (take most_items (map number_of vs))
list_apply operator.Ints vs h = refl
list_apply _ vs h = cc

list_reading : (m : Map) (x : Expr) (at : ℕ) (op : Operator) (es : Exprs) (env : Bindings) → x ≡ Apply at op es
    → is_pick op ≡ false → is_list op ≡ true → eval m x env
    ≡ mapped_reading (λ vs. value.Ints (take most_items (map number_of vs))) (eval_all m es env)
list_reading m x at op es env is other list = ap (λ (y : Expr). eval m y env) is ∙ other_reading m at op es env other
    ∙ ap (λ (v : Value). record { value = v; reads = (eval_all m es env).reads })
    (list_apply op (eval_all m es env).value list)

no_flat_list : (m : Map) (x : Expr) (at : ℕ) (op : Operator) (es : Exprs) (env : Bindings) → x ≡ Apply at op es
    → is_pick op ≡ false → is_list op ≡ true → is_flat_expr m x env ≡ true → ⊥
no_flat_list m x at op es env is other list f =
    let e = ap (λ (r : Reading Value). is_flat r.value) (sym (list_reading m (Apply at op es) at op es env refl other list))
    ∙ flat_value m x at op es env is f in cc

pub list_stop : {E : Type 0} (m : Map) (x : Expr) (at : ℕ) (op : Operator) (es : Exprs) (env : Bindings) (noting : Bool)
    (free : Type 0) (asked asked' reads reads' : List ℕ) (result : Result Value E) → x ≡ Apply at op es
    → is_pick op ≡ false → is_list op ≡ true → IsErr result → Grew asked asked' (eval_all m es env).reads
    → EvaluatesReading (eval m x env) noting free (is_flat_expr m x env) asked asked' reads reads' result
list_stop m x at op es env noting free asked asked' reads reads' result is other list err part =
    evaluated_stop _ _ _ _ _ _ _ _ _ err
    (subst (λ (r : Reading Value). Grew asked asked' r.reads) (sym (list_reading m x at op es env is other list)) part)
    (λ n q g. no_flat_list m x at op es env is other list g)

pub list_evaluated : {E : Type 0} (m : Map) (x : Expr) (at : ℕ) (op : Operator) (es : Exprs) (env : Bindings)
    (noting : Bool) (free : Type 0) (asked asked' reads reads' : List ℕ) (l : List ℤ) → x ≡ Apply at op es
    → is_pick op ≡ false → is_list op ≡ true → l ≡ take most_items (map number_of (eval_all m es env).value)
    → asked' ≡ asked ++ (eval_all m es env).reads → (noting ≡ true → reads' ≡ reads ++ (eval_all m es env).reads)
    → EvaluatesReading {E = E} (eval m x env) noting free (is_flat_expr m x env) asked asked' reads reads'
    (Ok (value.Ints l))
list_evaluated m x at op es env noting free asked asked' reads reads' l is other list v came noted =
    evaluated_as _ _ _ _ _ (is_flat_expr m x env) _ _ _ _ _ (list_reading m x at op es env is other list) (λ g. g)
    (record { value = ap value.Ints v; came = came; noted = noted; part = tt; no_error = λ n q g. tt })

-- The other operators take the first two values.

two_reading : (m : Map) (x : Expr) (at : ℕ) (op : Operator) (es : Exprs) (env : Bindings) (p : Pair)
    → x ≡ Apply at op es → is_pick op ≡ false → is_list op ≡ false
    → p ≡ pair (first (eval_all m es env).value) (second (eval_all m es env).value)
    → eval m x env ≡ record { value = apply op (p.first ∷ p.second ∷ []); reads = (eval_all m es env).reads }
two_reading m x at op es env p is other list e = ap (λ (y : Expr). eval m y env) is
    ∙ other_reading m at op es env other
    ∙ ap (λ (v : Value). record { value = v; reads = (eval_all m es env).reads })
    (apply_two op (eval_all m es env).value list
    ∙ ap (λ (q : Pair). apply op (q.first ∷ q.second ∷ [])) (sym e))

pub two_stop : {E : Type 0} (m : Map) (x : Expr) (at : ℕ) (op : Operator) (es : Exprs) (env : Bindings) (noting : Bool)
    (free : Type 0) (asked asked' reads reads' : List ℕ) (result : Result Value E) → x ≡ Apply at op es
    → is_pick op ≡ false → IsErr result → Grew asked asked' (eval_all m es env).reads
    → (noting ≡ false → free → are_flat m es env ≡ true → ⊥)
    → EvaluatesReading (eval m x env) noting free (is_flat_expr m x env) asked asked' reads reads' result
two_stop m x at op es env noting free asked asked' reads reads' result is other err part f =
    evaluated_stop _ _ _ _ _ _ _ _ _ err
    (subst (λ (r : Reading Value). Grew asked asked' r.reads)
    (sym (ap (λ (y : Expr). eval m y env) is ∙ other_reading m at op es env other)) part)
    (λ n q g. f n q (flat_operands m x at op es env is g))

pub two_evaluated : {E : Type 0} (m : Map) (x : Expr) (at : ℕ) (op : Operator) (es : Exprs) (env : Bindings)
    (p : Pair) (noting : Bool) (free : Type 0) (asked asked' reads reads' : List ℕ) (result : Result Value E)
    → x ≡ Apply at op es → is_pick op ≡ false → is_list op ≡ false
    → p ≡ pair (first (eval_all m es env).value) (second (eval_all m es env).value)
    → asked' ≡ asked ++ (eval_all m es env).reads → (noting ≡ true → reads' ≡ reads ++ (eval_all m es env).reads)
    → IfOk result (λ v. v ≡ apply op (p.first ∷ p.second ∷ []))
    → (is_flat (apply op (p.first ∷ p.second ∷ [])) ≡ true → OnErr result ⊥)
    → EvaluatesReading (eval m x env) noting free (is_flat_expr m x env) asked asked' reads reads' result
two_evaluated m x at op es env p noting free asked asked' reads reads' (Ok v) is other list e came noted value f =
    evaluated_as _ _ _ _ _ (is_flat_expr m x env) _ _ _ _ _ (two_reading m x at op es env p is other list e) (λ g. g)
    (record { value = value; came = came; noted = noted; part = tt; no_error = λ n q g. tt })
two_evaluated m x at op es env p noting free asked asked' reads reads' (Err y) is other list e came noted value f =
    evaluated_as _ _ _ _ _ (is_flat_expr m x env) _ _ _ _ _ (two_reading m x at op es env p is other list e) (λ g. g)
    (record {
      value = tt;
      came = tt;
      noted = λ n. tt;
      part = record { rest = []; is = append-nil asked' ∙ came };
      no_error = λ n q g. f (ap (λ (r : Reading Value). is_flat r.value)
          (sym (two_reading m (Apply at op es) at op es env p refl other list e)) ∙ flat_value m x at op es env is g);
    })

-- Operands one after another.

pub progress_first : {A : Type 0} (rest r : Reading A) (noting : Bool) (asked reads : List ℕ) → rest ≡ r
    → EvaluationProgress rest r noting asked asked reads reads
progress_first {A} rest r noting asked reads e = record {
  value = ap (λ (x : Reading A). x.value) e;
  came = ap (λ (x : Reading A). asked ++ x.reads) e;
  noted = λ n. ap (λ (x : Reading A). reads ++ x.reads) e;
}

-- The values of the operands from index i on, to which f is applied.
abbrev pub operands_from : {A : Type 0} → Map → (List Value → A) → List Expression → ℕ → Bindings → Reading A
operands_from m f es i env = mapped_reading f (eval_all m (exprs_view (drop i es)) env)

pub progress_more : {A : Type 0} (m : Map) (es : List Expression) (i : ℕ) (e : Expression) (env : Bindings)
    (f g : List Value → A) (r : Reading A) (v : Value) (noting : Bool)
    (asked mid asked' reads between reads' : List ℕ) → i < length es → e ≡ get_or es i e
    → EvaluationProgress (operands_from m f es i env) r noting asked mid reads between
    → v ≡ (eval m (expr_view e) env).value → asked' ≡ mid ++ (eval m (expr_view e) env).reads
    → (noting ≡ true → reads' ≡ between ++ (eval m (expr_view e) env).reads)
    → ((vs : List Value) → g vs ≡ f (v ∷ vs))
    → EvaluationProgress (operands_from m g es (i + 1) env) r noting asked asked' reads reads'
progress_more {A} m es i e env f g r v noting asked mid asked' reads between reads' below is h value came noted step =
    let more = eval_all m (exprs_view (drop (i + 1) es)) env in
    let head = eval m (expr_view e) env in
    let split : drop i es ≡ e ∷ drop (i + 1) es =
    drop-cons es i e below ∙ ap (λ (n : ℕ). get_or es i e ∷ drop n es) (sym (add-one i))
    ∙ ap (λ (x : Expression). x ∷ drop (i + 1) es) (sym is) in
    record {
      value = step more.value ∙ ap (λ (w : Value). f (w ∷ more.value)) value
          ∙ sym (ap (λ (l : List Expression). f (eval_all m (exprs_view l) env).value) split) ∙ h.value;
      came = ap (λ l. l ++ more.reads) came ∙ append_assoc mid head.reads more.reads
          ∙ sym (ap (λ (l : List Expression). mid ++ (eval_all m (exprs_view l) env).reads) split) ∙ h.came;
      noted = λ n. ap (λ l. l ++ more.reads) (noted n) ∙ append_assoc between head.reads more.reads
          ∙ sym (ap (λ (l : List Expression). between ++ (eval_all m (exprs_view l) env).reads) split) ∙ h.noted n;
    }

pub progress_done : {A E : Type 0} (m : Map) (es : List Expression) (i : ℕ) (env : Bindings) (f : List Value → A)
    (r : Reading A) (noting : Bool) (free : Type 0) (flat : Bool) (asked asked' reads reads' : List ℕ) → length es ≤ i
    → EvaluationProgress (operands_from m f es i env) r noting asked asked' reads reads'
    → EvaluatesReading {E = E} r noting free flat asked asked' reads reads' (Ok (f []))
progress_done m es i env f r noting free flat asked asked' reads reads' past h =
    let none = drop_all i es past in
    record {
      value = sym (ap (λ (l : List Expression). f (eval_all m (exprs_view l) env).value) none) ∙ h.value;
      came = sym (append-nil asked')
          ∙ sym (ap (λ (l : List Expression). asked' ++ (eval_all m (exprs_view l) env).reads) none) ∙ h.came;
      noted = λ n. sym (append-nil reads')
          ∙ sym (ap (λ (l : List Expression). reads' ++ (eval_all m (exprs_view l) env).reads) none) ∙ h.noted n;
      part = tt;
      no_error = λ n q g. tt;
    }

-- No operand was evaluated yet.

pub pairs_first : (m : Map) (es : List Expression) (env : Bindings) (p : Pair) → p ≡ pair no_value no_value
    → operands_from m (pair_from p 0) es 0 env
    ≡ mapped_reading (λ vs. pair (first vs) (second vs)) (eval_all m (exprs_view es) env)
pairs_first m es env p is = ap (λ (q : Pair). mapped_reading (pair_from q 0) (eval_all m (exprs_view es) env)) is
    ∙ ap (λ (q : Pair). record { value = q; reads = (eval_all m (exprs_view es) env).reads })
    (filled_whole (eval_all m (exprs_view es) env).value)

pub numbers_first : (m : Map) (es : List Expression) (env : Bindings) (l : List ℤ) → l ≡ []
    → operands_from m (λ vs. list_with_all l (map number_of vs)) es 0 env
    ≡ mapped_reading (λ vs. take most_items (map number_of vs)) (eval_all m (exprs_view es) env)
numbers_first m es env l is = ap (λ (k : List ℤ). mapped_reading (λ vs. list_with_all k (map number_of vs))
    (eval_all m (exprs_view es) env)) is
    ∙ ap (λ (k : List ℤ). record { value = k; reads = (eval_all m (exprs_view es) env).reads })
    (gathered_whole (map number_of (eval_all m (exprs_view es) env).value))

-- An operand could not be evaluated.
pub progress_stop : {A E : Type 0} (m : Map) (es : List Expression) (i : ℕ) (e : Expression) (env : Bindings)
    (f g : List Value → A) (noting : Bool) (free : Type 0) (flat : Bool)
    (asked mid asked' reads between reads' : List ℕ) (result : Result A E) → IsErr result → i < length es
    → e ≡ get_or es i e
    → EvaluationProgress (operands_from m f es i env) (mapped_reading g (eval_all m (exprs_view es) env)) noting asked
    mid reads between → Grew mid asked' (eval m (expr_view e) env).reads
    → (noting ≡ false → free → flat ≡ true → ⊥)
    → EvaluatesReading (mapped_reading g (eval_all m (exprs_view es) env)) noting free flat asked asked' reads reads'
    result
progress_stop m es i e env f g noting free flat asked mid asked' reads between reads' result err below is h part f2 =
    evaluated_stop _ _ _ _ _ _ _ _ _ err (all_part m es i e env asked mid asked' below is h.came part) f2
