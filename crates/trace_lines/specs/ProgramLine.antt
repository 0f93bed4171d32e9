-- Trusted: the first line of a trace, the program with its source text.
use Rattle.std.specs.Prelude.{ℕ, List, [], ◌∷◌, ◌++◌, map, codes}
use Rattle.std.specs.List.{flat_map}
use Rattle.std.specs.Fmt.{decimal}
use Rattle.json.specs.Token.{Token, string, number}
use Rattle.rt_values.specs.Keywords.{type_word}
use Rattle.lang_ast.specs.declared.program.State.{State}
use Rattle.lang_ast.specs.declared.syntax.Parameter.{Parameter}
use Rattle.lang_ast.specs.Terms.{Head, For, Let, Stmt, Call, If, Block, Stmts, done, next, Func}
use Rattle.lang_forms.specs.Words.{policy_word}
use Rattle.trace_lines.specs.TraceLines.{line, array, object, member, count, text, value_tokens}

abbrev pub state_members : State → List Token
state_members s =
    text (codes "name") s.name.text ++ (text (codes "type") (type_word s.ty)
    ++ (text (codes "policy") (policy_word s.policy) ++ (member (codes "initial") (value_tokens s.initial)
    ++ count (codes "at") s.at)))

abbrev pub state_tokens : State → List Token
state_tokens s = object (state_members s)

-- The site of a statement and its offset in the source text, as a pair.
abbrev pub site_tokens : ℕ → ℕ → List Token
site_tokens site at = array (number (decimal site) ∷ number (decimal at) ∷ [])

-- The site and the offset of a statement with this head, if it makes a group.
abbrev pub head_tokens : ℕ → ℕ → Head → List Token
head_tokens site at (For name list) = []
head_tokens site at (Let name value) = []
head_tokens site at _ = site_tokens site at

abbrev mutual
  -- The statements that make groups: this statement, if it does, and those inside it, in the order of the text.
  pub stmt_tokens : Stmt → List Token
  stmt_tokens (Call at site name function arguments) = site_tokens site at
  stmt_tokens (If at site condition then_branch else_branch) = stmts_tokens then_branch ++ stmts_tokens else_branch
  stmt_tokens (Block at site head body) = head_tokens site at head ++ stmts_tokens body

  pub stmts_tokens : Stmts → List Token
  stmts_tokens done = []
  stmts_tokens (next s ss) = stmt_tokens s ++ stmts_tokens ss

-- The names of parameters.
abbrev pub parameters_tokens : List Parameter → List Token
parameters_tokens ps = array (map (λ p. string p.name.text) ps)

abbrev pub function_members : Func → List Token
function_members f =
    text (codes "name") f.name.text ++ (count (codes "at") f.at
    ++ (member (codes "parameters") (parameters_tokens f.parameters)
    ++ member (codes "sites") (array (stmts_tokens f.body))))

abbrev pub function_tokens : Func → List Token
function_tokens f = object (function_members f)

-- A program with the names of the actors of its script and its source text. The number after `trace` is that of this
-- form of a trace.
abbrev pub program_tokens : List State → List Func → List (List ℕ) → List ℕ → List Token
program_tokens states functions actors source =
    object (count (codes "trace") 1 ++ (member (codes "states") (array (flat_map state_tokens states))
    ++ (member (codes "functions") (array (flat_map function_tokens functions))
    ++ (member (codes "actors") (array (map string actors)) ++ text (codes "source") source))))

abbrev pub program_line : List State → List Func → List (List ℕ) → List ℕ → List ℕ
program_line states functions actors source = line (program_tokens states functions actors source)
