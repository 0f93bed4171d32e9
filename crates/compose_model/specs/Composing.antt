-- Trusted: composing a program from scratch, that is the group forest with its reads and groups in order.
use Rattle.std.specs.Prelude.{ℕ, zero, suc, ℤ, List, [], ◌∷◌, ◌++◌, map, Option, Some, None, nat_le, if◌then◌else◌}
use Rattle.rt_values.specs.declared.value.Value.{Value}
use Rattle.rt_values.specs.declared.value.Value.TheVariants as value
use Rattle.rt_values.specs.Operators.{is_true, items_of}
use Rattle.rt_values.specs.Maps.{Map}
use Rattle.rt_groups.specs.GroupForest.{GroupForest, End, Group, Attribute, joined_forest, reads_then, how_many}
use Rattle.rt_groups.specs.GroupForest as trail
use Rattle.rt_groups.specs.Frames.{most_groups}
use Rattle.lang_ast.specs.declared.binding.Binding.{Binding}
use Rattle.lang_ast.specs.declared.syntax.Parameter.{Parameter}
use Rattle.lang_ast.specs.Terms.{Head, Node, Key, For, Let, Remember, Stmt, Call, If, Block, Stmts, done, next, Func}
use Rattle.lang_ast.specs.ResultsWithReads.{Reading}
use Rattle.lang_ast.specs.Evaluation.{Bindings, new_binding, eval, eval_all, eval_named}

-- The reads of a result, and then the forest that depends on the result.
unfoldable pub forest_after : {A : Type 0} → Reading A → (A → GroupForest) → GroupForest
forest_after r go = reads_then r.reads (go r.value)

-- One turn for each number, in order.
unfoldable pub turns : (ℤ → GroupForest) → List ℤ → GroupForest
turns go [] = End
turns go (i ∷ is) = joined_forest (go i) (turns go is)

-- A group without a number and without later siblings.
abbrev pub group : ℕ → trail.GroupKind → GroupForest → GroupForest
group site what inside = Group site 0 what inside End

-- The meaning of a function: the forest that it makes for its arguments.
abbrev pub Meaning : Type 0
Meaning = List Value → GroupForest

-- The forest that the function at index n makes. A missing function makes nothing.
abbrev pub meaning_at : List Meaning → ℕ → Meaning
meaning_at [] n arguments = End
meaning_at (f ∷ fs) zero arguments = f arguments
meaning_at (f ∷ fs) (suc n) arguments = meaning_at fs n arguments

abbrev pub attribute : Binding → Attribute
attribute b = record { name = b.name; value = b.value }

-- The forest of a block: its head is evaluated, and `go` gives the forest of its body for the variables in scope there.
abbrev pub composed_block : Map → ℕ → Head → Bindings → (Bindings → GroupForest) → GroupForest
-- A node: its attributes are evaluated, then its body makes its children.
composed_block m site (Node kind attributes) env go =
    forest_after (eval_named m attributes env)
    (λ all. group site (trail.Node kind.text (map attribute all)) (go env))
-- A key: its value is evaluated, then its body makes its children.
composed_block m site (Key key) env go = forest_after (eval m key env) (λ v. group site (trail.Key v) (go env))
-- The body once for each item, in order, with a variable of this value.
composed_block m site (For name list) env go =
    forest_after (eval m list env)
    (λ v. turns (λ i. go (env ++ new_binding name.text (value.Int i) ∷ [])) (items_of v))
-- The body with a variable of this value.
composed_block m site (Let name e) env go =
    forest_after (eval m e env) (λ v. go (env ++ new_binding name.text v ∷ []))
-- A cell: its keys are evaluated, and its value is calculated with only the names of the keys. The groups of the body
-- follow it as siblings.
composed_block m site (Remember name keys e) env go =
    forest_after (eval_named m keys env) (λ ks. forest_after (eval m e ks) (λ v.
    Group site 0 (trail.Cell (map (λ k. k.value) ks) v) End (go (env ++ new_binding name.text v ∷ []))))

abbrev mutual
  -- The forest that a statement makes, where `fs` contains the meanings of the earlier functions.
  pub run : Map → List Meaning → Stmt → Bindings → GroupForest
  -- A call: the caller evaluates the arguments, then the body of the function makes its children.
  run m fs (Call at site name function arguments) env =
      forest_after (eval_all m arguments env) (λ vs. group site (trail.Call function vs) (meaning_at fs function vs))
  -- The first list of statements if the condition is true, else the second.
  run m fs (If at site condition then_branch else_branch) env =
      forest_after (eval m condition env)
      (λ v. if is_true v then run_all m fs then_branch env else run_all m fs else_branch env)
  run m fs (Block at site head body) env = composed_block m site head env (λ inner. run_all m fs body inner)

  -- The forests of statements in sequence.
  pub run_all : Map → List Meaning → Stmts → Bindings → GroupForest
  run_all m fs done env = End
  run_all m fs (next s ss) env = joined_forest (run m fs s env) (run_all m fs ss env)

-- Each parameter with its argument, up to the end of the shorter list.
abbrev pub bind : List Parameter → List Value → Bindings
bind [] vs = []
bind (p ∷ ps) [] = []
bind (p ∷ ps) (v ∷ vs) = new_binding p.name.text v ∷ bind ps vs

-- The meaning of a function: the forest of its body, where the parameters have the values of the arguments.
abbrev pub meaning : Map → List Meaning → Func → Meaning
meaning m fs f arguments = run_all m fs f.body (bind f.parameters arguments)

-- The meanings `fs`, followed by those of more functions, each built from the meanings before it.
abbrev pub meanings_from : Map → List Meaning → List Func → List Meaning
meanings_from m fs [] = fs
meanings_from m fs (f ∷ more) = meanings_from m (fs ++ meaning m fs f ∷ []) more

-- The meanings of the functions of a program. A function calls only earlier functions. Any other call makes nothing.
abbrev pub meanings : Map → List Func → List Meaning
meanings m functions = meanings_from m [] functions

-- The forest composed from scratch: the call of the root function, at site 0 and without arguments.
abbrev pub forest : List Func → ℕ → Map → GroupForest
forest functions root m = group 0 (trail.Call root []) (meaning_at (meanings m functions) root [])

-- The forest composed from scratch, or `None` if it has too many groups.
abbrev pub scratch : List Func → ℕ → Map → Option GroupForest
scratch functions root m =
    if nat_le (how_many (forest functions root m)) most_groups then Some (forest functions root m) else None
