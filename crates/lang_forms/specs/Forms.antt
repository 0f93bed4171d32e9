-- Trusted: the forms of a program and a script, that is the trees of each part and what the parts may be. Keywords
-- have no offset of their own in a program, nor have lists of pairs, of parameters or of a branch.
use Rattle.std.specs.Prelude.{◌≡◌, ℕ, ◌+◌, ◌&&◌, List, [], ◌∷◌, ◌++◌, length, map, Option, Some, None, Bool, true, false, codes, ℤ}
use Rattle.sexp_text.specs.Forest.{Forest}
use Rattle.rt_values.specs.Values.{truth_text}
use Rattle.rt_values.specs.declared.value.Value.{Value}
use Rattle.rt_values.specs.declared.value.Value.TheVariants as value
use Rattle.lang_ast.specs.Terms.{Expr, Literal, Variable, Get, Apply, Exprs, none, more, Named, Head, Node, Key, For, Let, Remember, Stmt, Call, If, Block, Stmts, done, next, Func, operand_count}
use Rattle.lang_ast.specs.declared.syntax.Ident.{Ident}
use Rattle.lang_ast.specs.declared.syntax.Parameter.{Parameter}
use Rattle.lang_ast.specs.declared.syntax.Source.TheVariants as sources
use Rattle.lang_ast.specs.declared.program.State.{State}
use Rattle.lang_ast.specs.declared.script.SnapshotRef.{SnapshotRef}
use Rattle.lang_ast.specs.declared.script.SnapshotRef.TheVariants.{Global, Named as NamedSnapshot}
use Rattle.lang_ast.specs.declared.script.CallForm.{CallForm}
use Rattle.lang_ast.specs.declared.script.CallForm.TheVariants as call
use Rattle.lang_ast.specs.declared.script.StepForm.{StepForm}
use Rattle.lang_ast.specs.declared.script.StepForm.TheVariants as step
use Rattle.lang_ast.specs.declared.script.ScriptForm.{ScriptForm}
use Rattle.lang_ast.specs.declared.script.ScriptForm.TheVariants.{Once, Repeat}
use Rattle.lang_ast.specs.declared.script.DoForm.{DoForm}
use Rattle.lang_limits.specs.Tokens.{fits}
use Rattle.lang_forms.specs.Names.{is_name, all_fit, is_string, is_list_long, number_of_name}
use Rattle.rt_values.specs.Keywords.{kind_word, type_word}
use Rattle.lang_forms.specs.Words.{version_word, policy_word, operator_word, takes}
use Rattle.lang_forms.specs.Sketch.{Sketch, nothing, leaf, numeral, string, group, sequence, Fits, FitsUnlimited}
use Rattle.lang_forms.specs.Sources.{Source}

-- The trees of each part. The last argument has the trees after it.

-- A keyword, at any offset.
abbrev pub word : List ℕ → Sketch → Sketch
word w f = leaf None w f

-- A name, at its offset.
abbrev pub name : Ident → Sketch → Sketch
name n f = leaf (Some n.at) n.text f

-- Numbers in their decimals.
abbrev pub numbers : List ℤ → Sketch
numbers [] = nothing
numbers (z ∷ zs) = numeral None z (numbers zs)

-- A literal: `INT`, `true`, `false`, a string, or `(ints INT..)`.
abbrev pub literal : Option ℕ → Value → Sketch → Sketch
literal p (value.Int z) f = numeral p z f
literal p (value.Bool b) f = leaf p (truth_text b) f
literal p (value.Text cs) f = string p cs f
literal p (value.Ints zs) f = sequence p (word (codes "ints") (numbers zs)) f

-- An expression: a literal, a variable's name, `(get NAME)`, or `(OPERATOR EXPR..)`.
abbrev mutual
  pub expr_forms : Expr → Sketch → Sketch
  expr_forms (Literal at v) f = literal (Some at) v f
  expr_forms (Variable n) f = name n f
  expr_forms (Get at n source) f = group (Some at) (word (codes "get") (name n nothing)) f
  expr_forms (Apply at operator es) f = sequence (Some at) (word (operator_word operator) (exprs_forms es)) f

  pub exprs_forms : Exprs → Sketch
  exprs_forms none = nothing
  exprs_forms (more e es) = expr_forms e (exprs_forms es)

-- `(NAME EXPR)` for each pair.
abbrev pub pairs_forms : List Named → Sketch
pairs_forms [] = nothing
pairs_forms (k ∷ ks) = group None (name k.name (expr_forms k.value nothing)) (pairs_forms ks)

-- The keyword of a statement with a body, and the head after it: `node NAME ((NAME EXPR)..)`, `key EXPR`, `for NAME
-- EXPR`, `let NAME EXPR`, or `remember NAME ((NAME EXPR)..) EXPR`.
abbrev pub head_forms : Head → Sketch → Sketch
head_forms (Node n ns) f = word (codes "node") (name n (group None (pairs_forms ns) f))
head_forms (Key e) f = word (codes "key") (expr_forms e f)
head_forms (For n e) f = word (codes "for") (name n (expr_forms e f))
head_forms (Let n e) f = word (codes "let") (name n (expr_forms e f))
head_forms (Remember n ks e) f = word (codes "remember") (name n (group None (pairs_forms ks) (expr_forms e f)))

-- A statement: `(call NAME EXPR..)`, `(if EXPR (STMT..) (STMT..))`, or `(HEAD STMT..)`.
abbrev mutual
  pub stmt_forms : Stmt → Sketch → Sketch
  stmt_forms (Call at site n function es) f = group (Some at) (word (codes "call") (name n (exprs_forms es))) f
  stmt_forms (If at site e a b) f = group (Some at)
      (word (codes "if") (expr_forms e (group None (stmts_forms a) (group None (stmts_forms b) nothing)))) f
  stmt_forms (Block at site h body) f = group (Some at) (head_forms h (stmts_forms body)) f

  pub stmts_forms : Stmts → Sketch
  stmts_forms done = nothing
  stmts_forms (next s ss) = stmt_forms s (stmts_forms ss)

-- `(NAME TYPE)` for each parameter.
abbrev pub parameters_forms : List Parameter → Sketch
parameters_forms [] = nothing
parameters_forms (p ∷ ps) = group None (name p.name (word (type_word p.ty) nothing)) (parameters_forms ps)

-- `(state NAME TYPE POLICY LITERAL)`
abbrev pub state_forms : State → Sketch → Sketch
state_forms s f = group (Some s.at)
    (word (codes "state") (name s.name
    (word (type_word s.ty) (word (policy_word s.policy) (literal None s.initial nothing))))) f

-- `(fun NAME ((NAME TYPE)..) STMT..)`
abbrev pub function_forms : Func → Sketch → Sketch
function_forms c f = group (Some c.at)
    (word (codes "fun") (name c.name (group None (parameters_forms c.parameters) (stmts_forms c.body)))) f

-- A snapshot: `global`, or the NAME of a take.
abbrev pub snapshot_forms : SnapshotRef → Sketch → Sketch
snapshot_forms Global f = word (codes "global") f
snapshot_forms (NamedSnapshot n) f = name n f

-- A step without inner steps: `(take NAME mutable SNAP)`, `(take NAME readonly SNAP)`, `(read SNAP NAME)`, `(write SNAP
-- NAME LITERAL)`, `(add SNAP NAME INT)`, `(apply SNAP)`, or `(dispose SNAP)`.
abbrev pub call_forms : CallForm → Sketch → Sketch
call_forms (call.Take at n kind parent) f = group (Some at)
    (word (codes "take") (name n (word (kind_word kind) (snapshot_forms parent nothing)))) f
call_forms (call.Read at snapshot n object) f = group (Some at)
    (word (codes "read") (snapshot_forms snapshot (name n nothing))) f
call_forms (call.Write at snapshot n object v) f = group (Some at)
    (word (codes "write") (snapshot_forms snapshot (name n (literal None v nothing)))) f
call_forms (call.Add at snapshot n object amount) f = group (Some at)
    (word (codes "add") (snapshot_forms snapshot (name n (numeral None amount nothing)))) f
call_forms (call.Apply at snapshot) f = group (Some at) (word (codes "apply") (snapshot_forms snapshot nothing)) f
call_forms (call.Dispose at snapshot) f = group (Some at) (word (codes "dispose") (snapshot_forms snapshot nothing)) f

abbrev pub calls_forms : List CallForm → Sketch
calls_forms [] = nothing
calls_forms (c ∷ cs) = call_forms c (calls_forms cs)

-- A step of a repeat: a step without inner steps, `(frame)`, or `(frame (during STEP..))`.
abbrev pub step_forms : StepForm → Sketch → Sketch
step_forms (step.Call c) f = call_forms c f
step_forms (step.Frame at) f = group (Some at) (word (codes "frame") nothing) f
step_forms (step.FrameDuring at during) f = group (Some at)
    (word (codes "frame") (group None (word (codes "during") (calls_forms during)) nothing)) f

abbrev pub steps_forms : List StepForm → Sketch
steps_forms [] = nothing
steps_forms (s ∷ ss) = step_forms s (steps_forms ss)

-- A step of an actor: a step that is made once, or `(repeat INT STEP..)`.
abbrev pub actor_step_forms : ScriptForm → Sketch → Sketch
actor_step_forms (Once s) f = step_forms s f
actor_step_forms (Repeat at times steps) f = group (Some at)
    (word (codes "repeat") (numeral None times (steps_forms steps))) f

abbrev pub actor_forms : List ScriptForm → Sketch
actor_forms [] = nothing
actor_forms (s ∷ ss) = actor_step_forms s (actor_forms ss)

-- `(do NAME STEP..)`
abbrev pub do_forms : DoForm → Sketch → Sketch
do_forms d f = group (Some d.at) (word (codes "do") (name d.actor (actor_forms d.steps))) f

abbrev pub states_forms : List State → Sketch → Sketch
states_forms [] f = f
states_forms (s ∷ ss) f = state_forms s (states_forms ss f)

abbrev pub functions_forms : List Func → Sketch → Sketch
functions_forms [] f = f
functions_forms (c ∷ cs) f = function_forms c (functions_forms cs f)

abbrev pub scripts_forms : List DoForm → Sketch
scripts_forms [] = nothing
scripts_forms (d ∷ ds) = do_forms d (scripts_forms ds)

-- The states, the functions and the scripts.
abbrev pub top_forms : List State → List Func → List DoForm → Sketch
top_forms ss cs ds = states_forms ss (functions_forms cs (scripts_forms ds))

-- `(compose VERSION)` at its offset, and then the states, the functions and the scripts.
abbrev pub text_forms : Source → Sketch
text_forms t = group (Some t.program.header) (word (codes "compose") (word (version_word t.program.version) nothing))
    (top_forms t.program.states t.program.functions t.script)

-- What the parts may be: names are names, numbers and strings are within their limits, operators have their operands,
-- a state and a function have the number of their name, and statements are numbered in the order of the text. A state
-- may have any of the policies, whatever its type.

-- A literal within its limits.
abbrev pub literal_fits : Value → Bool
literal_fits (value.Int z) = fits z
literal_fits (value.Bool b) = true
literal_fits (value.Text cs) = is_string cs
literal_fits (value.Ints zs) = is_list_long (length zs) && all_fit zs

-- A literal within its limits in an expression, where `(ints ..)` is an operator.
abbrev pub plain_fits : Value → Bool
plain_fits (value.Int z) = fits z
plain_fits (value.Bool b) = true
plain_fits (value.Text cs) = is_string cs
plain_fits (value.Ints zs) = false

-- The names of the states, and of the functions before a form.
pub record KnownNames : Type 0 where
  pub states : List (List ℕ)
  pub functions : List (List ℕ)

-- Expressions, by the names of the states.
abbrev mutual
  pub Spelled : List (List ℕ) → Expr → Type 0
  Spelled m (Literal at v) = plain_fits v ≡ true
  Spelled m (Variable n) = is_name n.text ≡ true
  Spelled m (Get at n source) = (is_name n.text ≡ true) × (source ≡ sources.State (number_of_name n.text m))
  Spelled m (Apply at operator es) = (takes operator (operand_count es) ≡ true) × AllSpelled m es

  pub AllSpelled : List (List ℕ) → Exprs → Type 0
  AllSpelled m none = Unit {0}
  AllSpelled m (more e es) = Spelled m e × AllSpelled m es

abbrev pub SpelledPairs : List (List ℕ) → List Named → Type 0
SpelledPairs m [] = Unit {0}
SpelledPairs m (k ∷ ks) = (is_name k.name.text ≡ true) × Spelled m k.value × SpelledPairs m ks

-- The number of the statement after one with the number k, and after statements that begin with k.
abbrev mutual
  pub site_after : ℕ → Stmt → ℕ
  site_after k (Call at site n function es) = k + 1
  site_after k (If at site e a b) = site_after_all (site_after_all (k + 1) a) b
  site_after k (Block at site h body) = site_after_all (k + 1) body

  pub site_after_all : ℕ → Stmts → ℕ
  site_after_all k done = k
  site_after_all k (next s ss) = site_after_all (site_after k s) ss

-- The head of a statement, by the names of the states.
abbrev pub SpelledHead : List (List ℕ) → Head → Type 0
SpelledHead m (Node n ns) = (is_name n.text ≡ true) × SpelledPairs m ns
SpelledHead m (Key e) = Spelled m e
SpelledHead m (For n e) = (is_name n.text ≡ true) × Spelled m e
SpelledHead m (Let n e) = (is_name n.text ≡ true) × Spelled m e
SpelledHead m (Remember n ks e) = (is_name n.text ≡ true) × SpelledPairs m ks × Spelled m e

-- A statement with the number k, and statements that begin with k.
abbrev mutual
  pub SpelledStmt : KnownNames → ℕ → Stmt → Type 0
  SpelledStmt m k (Call at site n function es) = (site ≡ k) × (is_name n.text ≡ true)
      × (function ≡ number_of_name n.text m.functions) × AllSpelled m.states es
  SpelledStmt m k (If at site e a b) = (site ≡ k) × Spelled m.states e × SpelledStmts m (k + 1) a
      × SpelledStmts m (site_after_all (k + 1) a) b
  SpelledStmt m k (Block at site h body) = (site ≡ k) × SpelledHead m.states h × SpelledStmts m (k + 1) body

  pub SpelledStmts : KnownNames → ℕ → Stmts → Type 0
  SpelledStmts m k done = Unit {0}
  SpelledStmts m k (next s ss) = SpelledStmt m k s × SpelledStmts m (site_after k s) ss

abbrev pub SpelledParameters : List Parameter → Type 0
SpelledParameters [] = Unit {0}
SpelledParameters (p ∷ ps) = (is_name p.name.text ≡ true) × SpelledParameters ps

abbrev pub SpelledStates : List State → Type 0
SpelledStates [] = Unit {0}
SpelledStates (s ∷ ss) = (is_name s.name.text ≡ true) × (literal_fits s.initial ≡ true) × SpelledStates ss

abbrev pub state_name : State → List ℕ
state_name s = s.name.text

abbrev pub function_name : Func → List ℕ
function_name f = f.name.text

-- Functions after those with these names. Their first statement has the number k.
abbrev pub SpelledFunctions : KnownNames → ℕ → List Func → Type 0
SpelledFunctions m k [] = Unit {0}
SpelledFunctions m k (c ∷ cs) =
    (is_name c.name.text ≡ true) × SpelledParameters c.parameters × SpelledStmts m k c.body
    × SpelledFunctions (record {
      states = m.states;
      functions = m.functions
          ++ function_name c ∷ [];
    }) (site_after_all k c.body) cs

-- Whether the name of a snapshot, if it has one, is a name.
abbrev pub is_snapshot : SnapshotRef → Bool
is_snapshot Global = true
is_snapshot (NamedSnapshot n) = is_name n.text

-- Steps, by the names of the states.
abbrev pub SpelledCall : List (List ℕ) → CallForm → Type 0
SpelledCall m (call.Take at n kind parent) = (is_name n.text ≡ true) × (is_snapshot parent ≡ true)
SpelledCall m (call.Read at snapshot n object) = (is_snapshot snapshot ≡ true) × (is_name n.text ≡ true)
    × (object ≡ number_of_name n.text m)
SpelledCall m (call.Write at snapshot n object v) = (is_snapshot snapshot ≡ true) × (is_name n.text ≡ true)
    × (object ≡ number_of_name n.text m) × (literal_fits v ≡ true)
SpelledCall m (call.Add at snapshot n object amount) = (is_snapshot snapshot ≡ true) × (is_name n.text ≡ true)
    × (object ≡ number_of_name n.text m) × (fits amount ≡ true)
SpelledCall m (call.Apply at snapshot) = is_snapshot snapshot ≡ true
SpelledCall m (call.Dispose at snapshot) = is_snapshot snapshot ≡ true

abbrev pub SpelledCalls : List (List ℕ) → List CallForm → Type 0
SpelledCalls m [] = Unit {0}
SpelledCalls m (c ∷ cs) = SpelledCall m c × SpelledCalls m cs

abbrev pub SpelledStep : List (List ℕ) → StepForm → Type 0
SpelledStep m (step.Call c) = SpelledCall m c
SpelledStep m (step.Frame at) = Unit {0}
SpelledStep m (step.FrameDuring at during) = SpelledCalls m during

abbrev pub SpelledSteps : List (List ℕ) → List StepForm → Type 0
SpelledSteps m [] = Unit {0}
SpelledSteps m (s ∷ ss) = SpelledStep m s × SpelledSteps m ss

abbrev pub SpelledActorStep : List (List ℕ) → ScriptForm → Type 0
SpelledActorStep m (Once s) = SpelledStep m s
SpelledActorStep m (Repeat at times steps) = (fits times ≡ true) × SpelledSteps m steps

abbrev pub SpelledActor : List (List ℕ) → List ScriptForm → Type 0
SpelledActor m [] = Unit {0}
SpelledActor m (s ∷ ss) = SpelledActorStep m s × SpelledActor m ss

abbrev pub SpelledScripts : List (List ℕ) → List DoForm → Type 0
SpelledScripts m [] = Unit {0}
SpelledScripts m (d ∷ ds) = (is_name d.actor.text ≡ true) × SpelledActor m d.steps × SpelledScripts m ds

-- All parts of a text are what they may be.
pub record SpelledSource (t : Source) : Type 0 where
  pub states : SpelledStates t.program.states
  pub functions : SpelledFunctions (record { states = map state_name t.program.states; functions = [] }) 1
      t.program.functions
  pub script : SpelledScripts (map state_name t.program.states) t.script

-- The forest has the trees of the text, at the offsets that its parts keep, and its parts are what they may be.
pub record HasForms (f : Forest) (t : Source) : Type 0 where
  pub fits : Fits f (text_forms t)
  pub spelled : SpelledSource t

-- The forest has the trees of the text without the limits of literals, and its parts are what they may be.
pub record HasUnlimitedForms (f : Forest) (t : Source) : Type 0 where
  pub fits : FitsUnlimited f (text_forms t)
  pub spelled : SpelledSource t
