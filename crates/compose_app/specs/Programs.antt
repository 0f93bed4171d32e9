-- Trusted: the checked program of a text, and the number of a state by its name.
use Rattle.std.specs.Prelude.{◌≡◌, ◌≤◌, ℕ, List, [], map}
use Rattle.sexp_text.specs.Forest.{Forest, list_nesting}
use Rattle.sexp_text.specs.Grammar.{Spells}
use Rattle.lang_ast.specs.Programs.{program_view}
use Rattle.lang_ast.specs.declared.program.Program.{Program}
use Rattle.lang_ast.specs.declared.program.State.{State}
use Rattle.lang_checks.specs.ProgramFaults.{program_faults}
use Rattle.lang_forms.specs.Forms.{HasForms}
use Rattle.lang_forms.specs.Sources.{Source}
use Rattle.lang_limits.specs.Clamped.{clamped_trees}
use Rattle.lang_limits.specs.Sizes.{program_limits}

-- The bytes spell lists at most 100 deep that have the forms of this program. It keeps the limits and has no fault.
pub record IsProgramOf (bytes : List ℕ) (p : Program) : Type 0 where
  pub forest : Forest
  pub spelled : Spells bytes forest
  pub shallow : list_nesting forest ≤ 100
  pub source : Source
  pub forms : HasForms (clamped_trees forest) source
  pub small : program_limits forest source.program ≡ []
  pub sound : program_faults source.program ≡ []
  pub is : program_view p ≡ source.program

-- The names of states, in the order of their numbers.
abbrev pub state_names : List State → List (List ℕ)
state_names states = map (λ s. s.name.text) states
