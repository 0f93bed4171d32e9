-- Evaluating expressions one by one, where their reads are noted.
use Rattle.std.proofs.Common.{◌≡◌, ℕ, ◌+◌, ◌<◌, ◌≤◌, List, [], ◌∷◌, ◌++◌, length, get_or, drop, refl, sym, ap, subst, ◌∙◌, append_assoc, append-nil, drop-cons, add-one, true, Result, Ok, IsErr}
use Rattle.std.specs.Prelude.{IfOk, OnOk, OnErr}
use Rattle.std.proofs.lemmas.List.{drop_all}
use Rattle.rt_values.specs.declared.value.Value.{Value}
use Rattle.rt_values.specs.Maps.{Map}
use Rattle.rt_values.specs.Views.{Grew}
use Rattle.lang_ast.specs.declared.binding.Binding.{Binding}
use Rattle.lang_ast.specs.declared.syntax.Expression.{Expression}
use Rattle.lang_ast.specs.declared.syntax.Named.{Named}
use Rattle.lang_ast.specs.ResultsWithReads.{Reading, mapped_reading, with}
use Rattle.lang_ast.specs.Evaluation.{Bindings, eval, eval_named, new_binding}
use Rattle.lang_ast.specs.SyntaxView.{expr_view, nameds_view}
use Rattle.lang_eval.specs.EvaluatesReading.{EvaluatesReading, EvaluationProgress}
use Rattle.lang_eval.proofs.Grows.{grew_front, grew_left}
use Rattle.lang_eval.proofs.Evaluating.{evaluated_stop, operands_from, progress_done}

-- The effect of evaluating `r` where its reads are noted. Any error is allowed.
abbrev pub EvaluatesNoting : {A E : Type 0} → Reading A → List ℕ → List ℕ → List ℕ → List ℕ → Result A E → Type 0
EvaluatesNoting r asked asked' reads reads' result = EvaluatesReading r true ⊥ true asked asked' reads reads' result

-- The state of a loop that notes the reads, where `rest` is the part of the reading `r` that remains.
abbrev pub NotingProgress : {A : Type 0} → Reading A → Reading A → List ℕ → List ℕ → List ℕ → List ℕ → Type 0
NotingProgress rest r asked asked' reads reads' = EvaluationProgress rest r true asked asked' reads reads'

-- The clauses of a function that evaluates `t m` in each map `m` that the view shows, and notes the reads.
pub noting_clauses : {A E Keeps Same : Type 0} (shown : Map → Type 0) (t : Map → Reading A)
    (asked asked' noted noted' : List ℕ) (result : Result A E) → Keeps → Same
    → ((m : Map) → shown m → EvaluatesNoting (t m) asked asked' noted noted' result)
    → record {
      keeps : Keeps;
      same : Same;
      value : (m : Map) → shown m → IfOk result (λ v. v ≡ (t m).value);
      asks : (m : Map) → shown m → OnOk result (asked' ≡ asked ++ (t m).reads);
      reads : (m : Map) → shown m → OnOk result (noted' ≡ noted ++ (t m).reads);
      part : (m : Map) → shown m → OnErr result (Grew asked asked' (t m).reads);
    }
noting_clauses shown t asked asked' noted noted' result keeps same gives = record {
  keeps = keeps;
  same = same;
  value = λ m h. (gives m h).value;
  asks = λ m h. (gives m h).came;
  reads = λ m h. (gives m h).noted refl;
  part = λ m h. (gives m h).part;
}

-- The loop has evaluated all operands, and `vs` are their values.
pub operands_done : {E : Type 0} (m : Map) (vs : List Value) (es : List Expression) (i : ℕ) (env : Bindings)
    (r : Reading (List Value)) (asked asked' reads reads' : List ℕ) → length es ≤ i
    → NotingProgress (operands_from m (λ ws. vs ++ ws) es i env) r asked asked' reads reads'
    → EvaluatesNoting {E = E} r asked asked' reads reads' (Ok vs)
operands_done {E} m vs es i env r asked asked' reads reads' past h =
    subst (λ (l : List Value). EvaluatesNoting {E = E} r asked asked' reads reads' (Ok l)) (append-nil vs)
    (progress_done m es i env (λ ws. vs ++ ws) _ _ _ _ _ _ _ _ past h)

-- Named expressions. A loop has made the items `xs` of the first names with their values. The value of the reading is
-- `xs` with the items that `items` makes of the names from index i on with their values.
abbrev pub named_from : {A : Type 0} → Map → (List Binding → List A) → List A → List Named → ℕ → Bindings
    → Reading (List A)
named_from m items xs ns i env = mapped_reading (λ bs. xs ++ items bs) (eval_named m (nameds_view (drop i ns)) env)

-- The expression at index i, and then the expressions after it.
named_at : {A : Type 0} (m : Map) (items : List Binding → List A) (item : Binding → A) (xs : List A) (ns : List Named)
    (i : ℕ) (n : Named) (env : Bindings) → ((b : Binding) (bs : List Binding) → items (b ∷ bs) ≡ item b ∷ items bs)
    → i < length ns → n ≡ get_or ns i n → named_from m items xs ns i env
    ≡ with (eval m (expr_view n.value) env)
    (λ v. named_from m items (xs ++ item (new_binding n.name.text v) ∷ []) ns (i + 1) env)
named_at {A} m items item xs ns i n env one below is =
    let more = eval_named m (nameds_view (drop (i + 1) ns)) env in
    let head = eval m (expr_view n.value) env in
    let b = new_binding n.name.text head.value in
    let split : drop i ns ≡ n ∷ drop (i + 1) ns =
    drop-cons ns i n below ∙ ap (λ (k : ℕ). get_or ns i n ∷ drop k ns) (sym (add-one i))
    ∙ ap (λ (x : Named). x ∷ drop (i + 1) ns) (sym is) in
    ap (λ (l : List Named). mapped_reading (λ bs. xs ++ items bs) (eval_named m (nameds_view l) env)) split
    ∙ ap (λ (l : List A). record { value = l; reads = head.reads ++ more.reads })
    (ap (λ (l : List A). xs ++ l) (one b more.value) ∙ sym (append_assoc xs (item b ∷ []) (items more.value)))

pub named_more : {A : Type 0} (m : Map) (items : List Binding → List A) (item : Binding → A) (xs xs' : List A)
    (ns : List Named) (i : ℕ) (n : Named) (v : Value) (env : Bindings) (r : Reading (List A))
    (asked mid asked' reads between reads' : List ℕ)
    → ((b : Binding) (bs : List Binding) → items (b ∷ bs) ≡ item b ∷ items bs) → i < length ns → n ≡ get_or ns i n
    → NotingProgress (named_from m items xs ns i env) r asked mid reads between
    → v ≡ (eval m (expr_view n.value) env).value → asked' ≡ mid ++ (eval m (expr_view n.value) env).reads
    → reads' ≡ between ++ (eval m (expr_view n.value) env).reads → xs' ≡ xs ++ item (new_binding n.name.text v) ∷ []
    → NotingProgress (named_from m items xs' ns (i + 1) env) r asked asked' reads reads'
named_more {A} m items item xs xs' ns i n v env r asked mid asked' reads between reads' one below is h value came noted
    added =
    let more = eval_named m (nameds_view (drop (i + 1) ns)) env in
    let head = eval m (expr_view n.value) env in
    let split = named_at m items item xs ns i n env one below is in
    record {
      value = ap (λ (l : List A). l ++ items more.value) added
          ∙ ap (λ (w : Value). (xs ++ item (new_binding n.name.text w) ∷ []) ++ items more.value) value
          ∙ ap (λ (x : Reading (List A)). x.value) (sym split) ∙ h.value;
      came = ap (λ l. l ++ more.reads) came ∙ append_assoc mid head.reads more.reads
          ∙ ap (λ (x : Reading (List A)). mid ++ x.reads) (sym split) ∙ h.came;
      noted = λ q. ap (λ l. l ++ more.reads) noted ∙ append_assoc between head.reads more.reads
          ∙ ap (λ (x : Reading (List A)). between ++ x.reads) (sym split) ∙ h.noted q;
    }

-- Out of memory while the expression at index i is evaluated, or after that.
pub named_stop : {A E : Type 0} (m : Map) (items : List Binding → List A) (item : Binding → A) (xs : List A)
    (ns : List Named) (i : ℕ) (n : Named) (env : Bindings) (r : Reading (List A))
    (asked mid asked' reads between reads' : List ℕ) (result : Result (List A) E)
    → ((b : Binding) (bs : List Binding) → items (b ∷ bs) ≡ item b ∷ items bs) → i < length ns → n ≡ get_or ns i n
    → NotingProgress (named_from m items xs ns i env) r asked mid reads between
    → Grew mid asked' (eval m (expr_view n.value) env).reads → IsErr result
    → EvaluatesNoting r asked asked' reads reads' result
named_stop {A} m items item xs ns i n env r asked mid asked' reads between reads' result one below is h part err =
    let split = named_at m items item xs ns i n env one below is in
    evaluated_stop _ _ _ _ _ _ _ _ _ err
    (grew_left asked mid asked' _ _ (ap (λ (x : Reading (List A)). mid ++ x.reads) (sym split) ∙ h.came)
    (grew_front mid asked' (eval m (expr_view n.value) env).reads _ part)) (λ q. cc)

-- The loop has evaluated all named expressions.
pub named_done : {A E : Type 0} (m : Map) (items : List Binding → List A) (xs : List A) (ns : List Named) (i : ℕ)
    (env : Bindings) (r : Reading (List A)) (asked asked' reads reads' : List ℕ) → items [] ≡ [] → length ns ≤ i
    → NotingProgress (named_from m items xs ns i env) r asked asked' reads reads'
    → EvaluatesNoting {E = E} r asked asked' reads reads' (Ok xs)
named_done {A} m items xs ns i env r asked asked' reads reads' nil past h =
    let none = drop_all i ns past in
    record {
      value = sym (append-nil xs) ∙ ap (λ (l : List A). xs ++ l) (sym nil)
          ∙ sym (ap (λ (l : List Named). xs ++ items (eval_named m (nameds_view l) env).value) none) ∙ h.value;
      came = sym (append-nil asked')
          ∙ sym (ap (λ (l : List Named). asked' ++ (eval_named m (nameds_view l) env).reads) none) ∙ h.came;
      noted = λ q. sym (append-nil reads')
          ∙ sym (ap (λ (l : List Named). reads' ++ (eval_named m (nameds_view l) env).reads) none) ∙ h.noted q;
      part = tt;
      no_error = λ q p f. tt;
    }
