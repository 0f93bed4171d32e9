-- Law: the sites of the nodes of a composition.
use Rattle.std.specs.Prelude.{ℕ, ◌≡◌, List, [], Bool, true, false, Option, Some}
use Rattle.rt_values.specs.Maps.{Map}
use Rattle.lang_ast.specs.Terms.{Node, Stmt, Block, Func}
use Rattle.lang_ast.specs.Programs.{Program, functions_statements, statement_at}
use Rattle.lang_checks.specs.Numbers.{IsNumberedProgram}
use Rattle.lang_checks.specs.ProgramFaults.{program_faults}
use Rattle.compose_model.specs.Composing.{forest}
use Rattle.recompose_laws.specs.Distinct.{NodesAt}

-- Whether there is a node statement.
abbrev pub makes_node : Option Stmt → Bool
makes_node (Some (Block at site (Node kind attributes) body)) = true
makes_node _ = false

-- Whether functions have a node statement at a site.
abbrev pub is_node_site : List Func → ℕ → Bool
is_node_site functions x = makes_node (statement_at x (functions_statements functions))

-- Law: however a numbered program without faults is composed, a group is a node exactly if a node statement is at its
-- site.
abbrev pub NodesAreAtSitesOfPrograms : Type 0
NodesAreAtSitesOfPrograms = (p : Program) (root : ℕ) (m : Map) → IsNumberedProgram p → program_faults p ≡ [] →
    NodesAt (is_node_site p.functions) (forest p.functions root m)
