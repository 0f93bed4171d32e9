-- Internal: the parser of forms. Each tree has what it can be parsed as. That it accepts exactly the trees that have
-- the forms is proved.
use Rattle.std.specs.Prelude.{ℕ, ◌+◌, ◌&&◌, List, [], ◌∷◌, length, Bool, true, false, Option, Some, None, if◌then◌else◌, ℤ, codes}
use Rattle.std.specs.Option.{option_and_then, option_map}
use Rattle.std.specs.Fmt.{signed_decimal}
use Rattle.std.specs.Str.{bytes_eq}
use Rattle.std.specs.Str.Parse.{signed_digits_value}
use Rattle.sexp_text.specs.Forest.{Forest, empty, atom, text, list}
use Rattle.rt_values.specs.declared.value.Value.{Value}
use Rattle.rt_values.specs.declared.value.Value.TheVariants as value
use Rattle.lang_ast.specs.Terms.{Expr, Literal, Variable, Get, Apply, Named, Head, Node, Key, For, Let, Remember, Stmt, Call, If, Block, Func, exprs, stmts}
use Rattle.lang_ast.specs.declared.syntax.Ident.{Ident}
use Rattle.lang_ast.specs.declared.syntax.Parameter.{Parameter}
use Rattle.lang_ast.specs.declared.syntax.Source.TheVariants as sources
use Rattle.lang_ast.specs.declared.program.Version.{Version}
use Rattle.lang_ast.specs.declared.program.State.{State}
use Rattle.lang_ast.specs.declared.script.SnapshotRef.{SnapshotRef}
use Rattle.lang_ast.specs.declared.script.SnapshotRef.TheVariants.{Global, Named as NamedSnapshot}
use Rattle.lang_ast.specs.declared.script.CallForm.{CallForm}
use Rattle.lang_ast.specs.declared.script.CallForm.TheVariants as call
use Rattle.lang_ast.specs.declared.script.StepForm.{StepForm}
use Rattle.lang_ast.specs.declared.script.StepForm.TheVariants as step
use Rattle.lang_ast.specs.declared.script.ScriptForm.{ScriptForm}
use Rattle.lang_ast.specs.declared.script.ScriptForm.TheVariants.{Once, Repeat}
use Rattle.lang_ast.specs.declared.script.DoForm.{DoForm}
use Rattle.lang_limits.specs.Tokens.{fits}
use Rattle.lang_forms.specs.Names.{is_name, is_string, is_list_long, number_of_name}
use Rattle.lang_forms.specs.Words.{value_with, version_for_word, type_for_word, policy_for_word, kind_for_word, operator_for_word, takes}
use Rattle.lang_forms.specs.Forms.{KnownNames}
use Rattle.lang_forms.specs.declared.statement_heads.BodyWord.{BodyWord}
use Rattle.lang_forms.specs.declared.statement_heads.BodyWord.TheVariants as body
use Rattle.lang_forms.specs.declared.statement_heads.StatementWord.{StatementWord}
use Rattle.lang_forms.specs.declared.statement_heads.StatementWord.TheVariants as statement

-- Runs a parser on the result of another. None if either fails.
infixl 10 ◌>>=◌
abbrev pub ◌>>=◌ : {A B : Type 0} → Option A → (A → Option B) → Option B
o >>= f = option_and_then f o

-- A value, if a test holds.
abbrev pub when : {A : Type 0} → Bool → A → Option A
when b a = if b then Some a else None

-- The result of `f` if there is a value, and else another.
abbrev pub choose : {A B : Type 0} → Option A → (A → Option B) → Option B → Option B
choose None f other = other
choose (Some a) f other = f a

-- A top form after the header.
pub data Top : Type 0 where
  StateTop : (state : State) → Top
  FunctionTop : (function : Func) → Top
  DoTop : (script : DoForm) → Top

-- What a list can be parsed as. A statement and a top form get the number of their first statement, and return that
-- of the next.
pub record TreeReadings : Type 0 where
  pub expr : List (List ℕ) → Option Expr
  pub pair : List (List ℕ) → Option Named
  pub pairs : List (List ℕ) → Option (List Named)
  pub stmt : KnownNames → ℕ → Option (Stmt × ℕ)
  pub block : KnownNames → ℕ → Option (List Stmt × ℕ)
  pub literal : Option Value
  pub parameter : Option Parameter
  pub parameters : Option (List Parameter)
  pub plain_step : List (List ℕ) → Option CallForm
  pub during : List (List ℕ) → Option (List CallForm)
  pub step : List (List ℕ) → Option StepForm
  pub actor_step : List (List ℕ) → Option ScriptForm
  pub top : KnownNames → ℕ → Option (Top × ℕ)
  pub header : Option Version

pub data Seen : Type 0 where
  word : (at : ℕ) → (name : List ℕ) → Seen
  chars : (at : ℕ) → (codes : List ℕ) → Seen
  form : (at : ℕ) → (roles : TreeReadings) → Seen

abbrev pub is_end : List Seen → Bool
is_end [] = true
is_end (s ∷ ss) = false

-- The first tree if it is an atom, with its offset, and the trees after it.
abbrev pub atom_of : List Seen → Option (ℕ × List ℕ × List Seen)
atom_of [] = None
atom_of (word at a ∷ ss) = Some (at, a, ss)
atom_of (chars at s ∷ ss) = None
atom_of (form at r ∷ ss) = None

-- The trees after the first if that is the atom w.
unfoldable pub word_of : List ℕ → List Seen → Option (List Seen)
word_of w ss = do
  a ← atom_of ss
  when (bytes_eq a.1 w) a.2

-- The first tree as a name.
unfoldable pub name_of : List Seen → Option (Ident × List Seen)
name_of ss = do
  a ← atom_of ss
  when (is_name a.1) (record { at = a.0; text = a.1 }, a.2)

-- The first tree as the value that a table has for its keyword.
unfoldable pub keyword_of : {A : Type 0} → (List ℕ → Option A) → List Seen → Option (A × List Seen)
keyword_of table ss = do
  a ← atom_of ss
  v ← table a.1
  Some (v, a.2)

-- Literals.

-- The number with these decimals.
unfoldable pub int_of : List ℕ → Option ℤ
int_of a = when (bytes_eq (signed_decimal (signed_digits_value 10 a)) a
    && fits (signed_digits_value 10 a)) (signed_digits_value 10 a)

-- `true` and `false`.
unfoldable pub truth_of : List ℕ → Option Value
truth_of a = if bytes_eq a (codes "true") then Some (value.Bool true)
    else if bytes_eq a (codes "false") then Some (value.Bool false) else None

-- An atom as a literal.
unfoldable pub plain_of : List ℕ → Option Value
plain_of a = choose (int_of a) (λ z. Some (value.Int z)) (truth_of a)

-- A string as a literal.
unfoldable pub string_of : List ℕ → Option Value
string_of cs = when (is_string cs) (value.Text cs)

abbrev pub int_at : Seen → Option ℤ
int_at (word at a) = int_of a
int_at (chars at s) = None
int_at (form at r) = None

-- The first tree as a number.
abbrev pub number_of_first : List Seen → Option (ℤ × List Seen)
number_of_first [] = None
number_of_first (s ∷ ss) = option_map (λ z. (z, ss)) (int_at s)

-- Each of the trees as a number.
unfoldable pub ints_of : List Seen → Option (List ℤ)
ints_of [] = Some []
ints_of (s ∷ ss) = int_at s >>= λ z. option_map (λ zs. z ∷ zs) (ints_of ss)

-- `INT..` after the word `ints`.
unfoldable pub literal_form : List Seen → Option Value
literal_form ss = do
  w ← word_of (codes "ints") ss
  zs ← ints_of w
  when (is_list_long (length zs)) (value.Ints zs)

abbrev pub literal_at : Seen → Option Value
literal_at (word at a) = plain_of a
literal_at (chars at s) = string_of s
literal_at (form at r) = r.literal

-- The first tree as a literal.
abbrev pub literal_of : List Seen → Option (Value × List Seen)
literal_of [] = None
literal_of (s ∷ ss) = option_map (λ v. (v, ss)) (literal_at s)

-- Expressions, by the names of the states.

-- An atom as an expression.
unfoldable pub leaf_of : ℕ → List ℕ → Option Expr
leaf_of at a = if is_name a then Some (Variable (record { at = at; text = a }))
    else option_map (Literal at) (plain_of a)

abbrev pub expr_at : List (List ℕ) → Seen → Option Expr
expr_at m (word at a) = leaf_of at a
expr_at m (chars at s) = option_map (Literal at) (string_of s)
expr_at m (form at r) = r.expr m

-- The first tree as an expression.
abbrev pub expr_of : List (List ℕ) → List Seen → Option (Expr × List Seen)
expr_of m [] = None
expr_of m (s ∷ ss) = option_map (λ e. (e, ss)) (expr_at m s)

-- Each of the trees as an expression.
unfoldable pub exprs_of : List (List ℕ) → List Seen → Option (List Expr)
exprs_of m [] = Some []
exprs_of m (s ∷ ss) = expr_at m s >>= λ e. option_map (λ es. e ∷ es) (exprs_of m ss)

-- `NAME` after the word `get`.
unfoldable pub get_form : List (List ℕ) → ℕ → List Seen → Option Expr
get_form m at ss = do
  n ← name_of ss
  when (is_end n.1) (Get at n.0 (sources.State (number_of_name n.0.text m)))

-- `OPERATOR EXPR..`
unfoldable pub apply_form : List (List ℕ) → ℕ → List Seen → Option Expr
apply_form m at ss = do
  o ← keyword_of operator_for_word ss
  es ← exprs_of m o.1
  when (takes o.0 (length es)) (Apply at o.0 (exprs es))

unfoldable pub expr_form : List (List ℕ) → ℕ → List Seen → Option Expr
expr_form m at ss = choose (word_of (codes "get") ss) (get_form m at) (apply_form m at ss)

-- `NAME EXPR`
unfoldable pub pair_form : List (List ℕ) → List Seen → Option Named
pair_form m ss = do
  n ← name_of ss
  e ← expr_of m n.1
  when (is_end e.1) (record { name = n.0; value = e.0 })

abbrev pub pair_at : List (List ℕ) → Seen → Option Named
pair_at m (word at a) = None
pair_at m (chars at s) = None
pair_at m (form at r) = r.pair m

-- Each of the trees as a name with an expression.
unfoldable pub pairs_form : List (List ℕ) → List Seen → Option (List Named)
pairs_form m [] = Some []
pairs_form m (s ∷ ss) = pair_at m s >>= λ n. option_map (λ ns. n ∷ ns) (pairs_form m ss)

-- The first tree as a list of such pairs.
abbrev pub pairs_of : List (List ℕ) → List Seen → Option (List Named × List Seen)
pairs_of m [] = None
pairs_of m (word at a ∷ ss) = None
pairs_of m (chars at s ∷ ss) = None
pairs_of m (form at r ∷ ss) = option_map (λ ns. (ns, ss)) (r.pairs m)

-- `NAME EXPR`, and the trees after it.
unfoldable pub binding_of : List (List ℕ) → List Seen → Option ((Ident × Expr) × List Seen)
binding_of m ss = do
  n ← name_of ss
  e ← expr_of m n.1
  Some ((n.0, e.0), e.1)

-- `NAME ((NAME EXPR)..)`, and the trees after it.
unfoldable pub named_pairs_of : List (List ℕ) → List Seen → Option ((Ident × List Named) × List Seen)
named_pairs_of m ss = do
  n ← name_of ss
  ns ← pairs_of m n.1
  Some ((n.0, ns.0), ns.1)

-- Statements, by the known names; k is the number of the first.

abbrev pub stmt_at : KnownNames → ℕ → Seen → Option (Stmt × ℕ)
stmt_at m k (word at a) = None
stmt_at m k (chars at s) = None
stmt_at m k (form at r) = r.stmt m k

-- Each of the trees as a statement.
unfoldable pub stmts_of : KnownNames → ℕ → List Seen → Option (List Stmt × ℕ)
stmts_of m k [] = Some ([], k)
stmts_of m k (s ∷ ss) = stmt_at m k s >>= λ t. option_map (λ ts. (t.0 ∷ ts.0, ts.1)) (stmts_of m t.1 ss)

-- The first tree as a list of statements.
abbrev pub block_of : KnownNames → ℕ → List Seen → Option ((List Stmt × ℕ) × List Seen)
block_of m k [] = None
block_of m k (word at a ∷ ss) = None
block_of m k (chars at s ∷ ss) = None
block_of m k (form at r ∷ ss) = option_map (λ b. (b, ss)) (r.block m k)

-- The keyword of a statement with a body.
abbrev pub body_word : BodyWord → List ℕ
body_word body.Node = codes "node"
body_word body.Key = codes "key"
body_word body.For = codes "for"
body_word body.Let = codes "let"
body_word body.Remember = codes "remember"

-- The keyword of a statement.
abbrev pub statement_word : StatementWord → List ℕ
statement_word statement.Call = codes "call"
statement_word statement.If = codes "if"
statement_word (statement.WithBody w) = body_word w

abbrev pub all_statements : List StatementWord
all_statements = statement.WithBody body.Node ∷ statement.Call ∷ statement.WithBody body.Key ∷ statement.If
    ∷ statement.WithBody body.For ∷ statement.WithBody body.Let ∷ statement.WithBody body.Remember ∷ []

-- The statement of a keyword.
unfoldable pub statement_for_word : List ℕ → Option StatementWord
statement_for_word = value_with statement_word all_statements

-- The trees after the keyword of a statement with a body as its head, and the trees after that.
unfoldable pub head_of : List (List ℕ) → BodyWord → List Seen → Option (Head × List Seen)
head_of m body.Node ss = named_pairs_of m ss >>= λ x. Some (Node x.0.0 x.0.1, x.1)
head_of m body.Key ss = expr_of m ss >>= λ e. Some (Key e.0, e.1)
head_of m body.For ss = binding_of m ss >>= λ x. Some (For x.0.0 x.0.1, x.1)
head_of m body.Let ss = binding_of m ss >>= λ x. Some (Let x.0.0 x.0.1, x.1)
head_of m body.Remember ss = named_pairs_of m ss >>= λ x. expr_of m x.1 >>= λ e. Some (Remember x.0.0 x.0.1 e.0, e.1)

-- `HEAD STMT..` after the keyword of a statement with a body.
unfoldable pub block_form : KnownNames → ℕ → ℕ → BodyWord → List Seen → Option (Stmt × ℕ)
block_form m k at w ss = do
  h ← head_of m.states w ss
  b ← stmts_of m (k + 1) h.1
  Some (Block at k h.0 (stmts b.0), b.1)

-- `NAME EXPR..` after the word `call`.
unfoldable pub call_form : KnownNames → ℕ → ℕ → List Seen → Option (Stmt × ℕ)
call_form m k at ss = do
  n ← name_of ss
  es ← exprs_of m.states n.1
  Some (Call at k n.0 (number_of_name n.0.text m.functions) (exprs es), k + 1)

-- `(STMT..) (STMT..)`
unfoldable pub branches_of : KnownNames → ℕ → List Seen → Option ((List Stmt × List Stmt) × ℕ)
branches_of m k ss = do
  a ← block_of m k ss
  b ← block_of m a.0.1 a.1
  when (is_end b.1) ((a.0.0, b.0.0), b.0.1)

-- `EXPR (STMT..) (STMT..)` after the word `if`.
unfoldable pub if_form : KnownNames → ℕ → ℕ → List Seen → Option (Stmt × ℕ)
if_form m k at ss = do
  e ← expr_of m.states ss
  b ← branches_of m (k + 1) e.1
  Some (If at k e.0 (stmts b.0.0) (stmts b.0.1), b.1)

-- The trees after the keyword of a statement.
abbrev pub form_after : KnownNames → ℕ → ℕ → StatementWord → List Seen → Option (Stmt × ℕ)
form_after m k at statement.Call ss = call_form m k at ss
form_after m k at statement.If ss = if_form m k at ss
form_after m k at (statement.WithBody w) ss = block_form m k at w ss

unfoldable pub stmt_form : KnownNames → ℕ → ℕ → List Seen → Option (Stmt × ℕ)
stmt_form m k at ss = do
  w ← keyword_of statement_for_word ss
  form_after m k at w.0 w.1

-- Steps of a script, by the names of the states.

-- The first tree as a snapshot.
unfoldable pub snapshot_of : List Seen → Option (SnapshotRef × List Seen)
snapshot_of ss = choose (word_of (codes "global") ss) (λ r. Some (Global, r))
    (option_map (λ n. (NamedSnapshot n.0, n.1)) (name_of ss))

-- `SNAP NAME`, and the trees after it.
unfoldable pub state_in_snapshot : List Seen → Option ((SnapshotRef × Ident) × List Seen)
state_in_snapshot ss = do
  s ← snapshot_of ss
  n ← name_of s.1
  Some ((s.0, n.0), n.1)

-- `NAME mutable SNAP` or `NAME readonly SNAP` after the word `take`.
unfoldable pub take_form : ℕ → List Seen → Option CallForm
take_form at ss = do
  n ← name_of ss
  k ← keyword_of kind_for_word n.1
  s ← snapshot_of k.1
  when (is_end s.1) (call.Take at n.0 k.0 s.0)

-- `SNAP NAME` after the word `read`.
unfoldable pub read_form : List (List ℕ) → ℕ → List Seen → Option CallForm
read_form m at ss = do
  x ← state_in_snapshot ss
  when (is_end x.1) (call.Read at x.0.0 x.0.1 (number_of_name x.0.1.text m))

-- `SNAP NAME LITERAL` after the word `write`.
unfoldable pub write_form : List (List ℕ) → ℕ → List Seen → Option CallForm
write_form m at ss = do
  x ← state_in_snapshot ss
  v ← literal_of x.1
  when (is_end v.1) (call.Write at x.0.0 x.0.1 (number_of_name x.0.1.text m) v.0)

-- `SNAP NAME INT` after the word `add`.
unfoldable pub add_form : List (List ℕ) → ℕ → List Seen → Option CallForm
add_form m at ss = do
  x ← state_in_snapshot ss
  z ← number_of_first x.1
  when (is_end z.1) (call.Add at x.0.0 x.0.1 (number_of_name x.0.1.text m) z.0)

-- `SNAP` after the word `apply`, or `dispose`.
unfoldable pub only_snapshot : List Seen → Option SnapshotRef
only_snapshot ss = do
  s ← snapshot_of ss
  when (is_end s.1) s.0

-- A step without inner steps.
unfoldable pub plain_step_form : List (List ℕ) → ℕ → List Seen → Option CallForm
plain_step_form m at ss =
    choose (word_of (codes "take") ss) (take_form at) (
    choose (word_of (codes "read") ss) (read_form m at) (
    choose (word_of (codes "write") ss) (write_form m at) (
    choose (word_of (codes "add") ss) (add_form m at) (
    choose (word_of (codes "apply") ss) (λ r. option_map (call.Apply at) (only_snapshot r)) (
    choose (word_of (codes "dispose") ss) (λ r. option_map (call.Dispose at) (only_snapshot r)) None)))))

abbrev pub plain_step_at : List (List ℕ) → Seen → Option CallForm
plain_step_at m (word at a) = None
plain_step_at m (chars at s) = None
plain_step_at m (form at r) = r.plain_step m

-- Each of the trees as a step without inner steps.
unfoldable pub plain_steps_of : List (List ℕ) → List Seen → Option (List CallForm)
plain_steps_of m [] = Some []
plain_steps_of m (s ∷ ss) = plain_step_at m s >>= λ t. option_map (λ ts. t ∷ ts) (plain_steps_of m ss)

-- `during STEP..`
unfoldable pub during_form : List (List ℕ) → List Seen → Option (List CallForm)
during_form m ss = word_of (codes "during") ss >>= plain_steps_of m

abbrev pub during_at : List (List ℕ) → Seen → Option (List CallForm)
during_at m (word at a) = None
during_at m (chars at s) = None
during_at m (form at r) = r.during m

-- The first tree as `(during STEP..)`.
abbrev pub during_of : List (List ℕ) → List Seen → Option (List CallForm × List Seen)
during_of m [] = None
during_of m (s ∷ ss) = option_map (λ d. (d, ss)) (during_at m s)

-- Nothing, or `(during STEP..)`, after the word `frame`.
unfoldable pub frame_form : List (List ℕ) → ℕ → List Seen → Option StepForm
frame_form m at ss = if is_end ss then Some (step.Frame at)
    else (during_of m ss >>= λ d. when (is_end d.1) (step.FrameDuring at d.0))

-- A step of a repeat.
unfoldable pub step_form : List (List ℕ) → ℕ → List Seen → Option StepForm
step_form m at ss = choose (word_of (codes "frame") ss) (frame_form m at)
    (option_map step.Call (plain_step_form m at ss))

abbrev pub step_at : List (List ℕ) → Seen → Option StepForm
step_at m (word at a) = None
step_at m (chars at s) = None
step_at m (form at r) = r.step m

-- Each of the trees as a step of a repeat.
unfoldable pub steps_of : List (List ℕ) → List Seen → Option (List StepForm)
steps_of m [] = Some []
steps_of m (s ∷ ss) = step_at m s >>= λ t. option_map (λ ts. t ∷ ts) (steps_of m ss)

-- `INT STEP..` after the word `repeat`.
unfoldable pub repeat_form : List (List ℕ) → ℕ → List Seen → Option ScriptForm
repeat_form m at ss = do
  z ← number_of_first ss
  ts ← steps_of m z.1
  Some (Repeat at z.0 ts)

-- A step of an actor.
unfoldable pub actor_step_form : List (List ℕ) → ℕ → List Seen → Option ScriptForm
actor_step_form m at ss = choose (word_of (codes "repeat") ss) (repeat_form m at) (option_map Once (step_form m at ss))

abbrev pub actor_step_at : List (List ℕ) → Seen → Option ScriptForm
actor_step_at m (word at a) = None
actor_step_at m (chars at s) = None
actor_step_at m (form at r) = r.actor_step m

-- Each of the trees as a step of an actor.
unfoldable pub actor_steps_of : List (List ℕ) → List Seen → Option (List ScriptForm)
actor_steps_of m [] = Some []
actor_steps_of m (s ∷ ss) = actor_step_at m s >>= λ t. option_map (λ ts. t ∷ ts) (actor_steps_of m ss)

-- Top forms.

-- `NAME TYPE`
unfoldable pub parameter_form : List Seen → Option Parameter
parameter_form ss = do
  n ← name_of ss
  t ← keyword_of type_for_word n.1
  when (is_end t.1) (record { name = n.0; ty = t.0 })

abbrev pub parameter_at : Seen → Option Parameter
parameter_at (word at a) = None
parameter_at (chars at s) = None
parameter_at (form at r) = r.parameter

-- Each of the trees as a parameter.
unfoldable pub parameters_form : List Seen → Option (List Parameter)
parameters_form [] = Some []
parameters_form (s ∷ ss) = parameter_at s >>= λ p. option_map (λ ps. p ∷ ps) (parameters_form ss)

-- The first tree as a list of parameters.
abbrev pub parameters_of : List Seen → Option (List Parameter × List Seen)
parameters_of [] = None
parameters_of (word at a ∷ ss) = None
parameters_of (chars at s ∷ ss) = None
parameters_of (form at r ∷ ss) = option_map (λ ps. (ps, ss)) r.parameters

-- `NAME TYPE POLICY LITERAL` after the word `state`.
unfoldable pub state_form : ℕ → List Seen → Option State
state_form at ss = do
  n ← name_of ss
  t ← keyword_of type_for_word n.1
  p ← keyword_of policy_for_word t.1
  v ← literal_of p.1
  when (is_end v.1) (record { at = at; name = n.0; ty = t.0; policy = p.0; initial = v.0 })

-- `NAME ((NAME TYPE)..) STMT..` after the word `fun`.
unfoldable pub function_form : KnownNames → ℕ → ℕ → List Seen → Option (Func × ℕ)
function_form m k at ss = do
  n ← name_of ss
  ps ← parameters_of n.1
  b ← stmts_of m k ps.1
  Some (record { at = at; name = n.0; parameters = ps.0; body = stmts b.0 }, b.1)

-- `NAME STEP..` after the word `do`.
unfoldable pub do_form : List (List ℕ) → ℕ → List Seen → Option DoForm
do_form m at ss = do
  n ← name_of ss
  ts ← actor_steps_of m n.1
  Some (record { at = at; actor = n.0; steps = ts })

unfoldable pub top_form : KnownNames → ℕ → ℕ → List Seen → Option (Top × ℕ)
top_form m k at ss =
    choose (word_of (codes "state") ss) (λ r. option_map (λ s. (StateTop s, k)) (state_form at r)) (
    choose (word_of (codes "fun") ss) (λ r. option_map (λ c. (FunctionTop c.0, c.1)) (function_form m k at r)) (
    choose (word_of (codes "do") ss) (λ r. option_map (λ d. (DoTop d, k)) (do_form m.states at r)) None))

-- `compose VERSION`
unfoldable pub header_form : List Seen → Option Version
header_form ss = do
  c ← word_of (codes "compose") ss
  v ← keyword_of version_for_word c
  when (is_end v.1) v.0

abbrev pub roles : ℕ → List Seen → TreeReadings
roles at ss = record {
  expr = λ m. expr_form m at ss;
  pair = λ m. pair_form m ss;
  pairs = λ m. pairs_form m ss;
  stmt = λ m k. stmt_form m k at ss;
  block = λ m k. stmts_of m k ss;
  literal = literal_form ss;
  parameter = parameter_form ss;
  parameters = parameters_form ss;
  plain_step = λ m. plain_step_form m at ss;
  during = λ m. during_form m ss;
  step = λ m. step_form m at ss;
  actor_step = λ m. actor_step_form m at ss;
  top = λ m k. top_form m k at ss;
  header = header_form ss;
}

-- The trees of a forest, each with what it can be parsed as.
abbrev pub seen_trees : Forest → List Seen
seen_trees empty = []
seen_trees (atom at a f) = word at a ∷ seen_trees f
seen_trees (text at s f) = chars at s ∷ seen_trees f
seen_trees (list at i f) = form at (roles at (seen_trees i)) ∷ seen_trees f

abbrev pub offset_of : Seen → ℕ
offset_of (word at a) = at
offset_of (chars at s) = at
offset_of (form at r) = at

abbrev pub top_at : KnownNames → ℕ → Seen → Option (Top × ℕ)
top_at m k (word at a) = None
top_at m k (chars at s) = None
top_at m k (form at r) = r.top m k

-- The version of a header.
abbrev pub header_at : Seen → Option Version
header_at (word at a) = None
header_at (chars at s) = None
header_at (form at r) = r.header
