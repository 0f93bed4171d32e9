-- Trusted: the source texts of programs with scripts, and the output of each command on a source text.
use Rattle.std.specs.Prelude.{◌≡◌, ◌≤◌, ℕ, List, [], Bool, true, false, Option, Some, None, codes}
use Rattle.sexp_text.specs.Forest.{Forest, list_nesting}
use Rattle.sexp_text.specs.Grammar.{Spells}
use Rattle.sexp_text.specs.Layout.{lines}
use Rattle.sexp_text.specs.View.{forest_view}
use Rattle.lang_limits.specs.Sizes.{program_limits}
use Rattle.lang_limits.specs.Tokens.{oversized_script_offsets}
use Rattle.lang_forms.specs.Sources.{Source}
use Rattle.lang_forms.specs.Forms.{HasForms, text_forms}
use Rattle.lang_forms.specs.Sketch.{unplaced_sketch}
use Rattle.lang_checks.specs.ProgramFaults.{program_faults}
use Rattle.lang_script.specs.Scripts.{actors_of}
use Rattle.lang_script.specs.ScriptFaults.{script_faults}
use Rattle.lang_script.specs.StepCalls.{script_parts}
use Rattle.play_threads.specs.WovenText.{IsWovenText}
use Rattle.play_gen.specs.Tallies.{generated_counts}
use Rattle.play_gen.specs.SummaryText.{summary_text}
use Rattle.script_lang.specs.declared.flags.Flags.{Flags}
use Rattle.script_lang.specs.Lines.{Titles, LineStyle, line, run_text}
use Rattle.lang_ast.specs.Programs.{functions_of}
use Rattle.lang_ast.specs.declared.program.State.{State}
use Rattle.lang_ast.specs.declared.script.DoForm.{DoForm}
use Rattle.lang_ast.specs.Terms.{Func}
use Rattle.play_args.specs.declared.command.Command.{Command}
use Rattle.play_args.specs.declared.command.Command.TheVariants.{Run, Threads, Check, Gen}
use Rattle.play_core.specs.declared.text.Input.{Input}

-- `IsText threads bytes t`: the bytes spell lists at most 100 deep that have the forms of the program and the script of
-- `t`. Both keep the limits, and neither has a fault. `threads`: whether each actor has snapshot names of its own.
pub record IsText (threads : Bool) (bytes : List ℕ) (t : Source) : Type 0 where
  pub forest : Forest
  pub spelled : Spells bytes forest
  pub shallow : list_nesting forest ≤ 100
  pub forms : HasForms forest t
  pub small : program_limits forest t.program ≡ []
  pub brief : oversized_script_offsets forest ≡ []
  pub sound : program_faults t.program ≡ []
  pub runs : script_faults threads t.program.states None t.script ≡ []

abbrev pub titles : Source → Titles
titles t = record { states = t.program.states; actors = actors_of t.script }

-- How the lines of a source text are written with these flags.
abbrev pub style : Source → Flags → LineStyle
style t flags = record { titles = titles t; flags = flags }

-- The output of `run` with these flags: the lines of the history that the steps of all actors make in the plain world,
-- in source order.
unfoldable pub run_output : Flags → Source → List ℕ
run_output flags t = run_text (style t flags) t.program.functions (script_parts (actors_of t.script) t.script)

-- The output of `check`: the trees of the forms of the program and the script, one a line.
unfoldable pub check_output : Source → List ℕ
check_output t = lines (unplaced_sketch (text_forms t))

-- The output of `gen`: the summary of the history of the generated script on the generated program.
unfoldable pub gen_output : ℕ → ℕ → List ℕ
gen_output number size = summary_text (generated_counts number size)

-- `IsOutput command text bytes`: the command may write `bytes` for this source text; `None` is for a command without
-- input. The output of `gen` depends on no source text.
abbrev pub IsOutput : Command → Option Source → List ℕ → Type 0
IsOutput (Run flags) (Some t) bytes = bytes ≡ run_output flags t
IsOutput (Threads flags) (Some t) bytes = IsWovenText (style t flags) t.program.functions t.script bytes
IsOutput Check (Some t) bytes = bytes ≡ check_output t
IsOutput (Gen number size) text bytes = bytes ≡ gen_output number size
IsOutput (Run flags) None bytes = ⊥
IsOutput (Threads flags) None bytes = ⊥
IsOutput Check None bytes = ⊥

-- Whether each actor of a command has a thread and snapshot names of its own.
abbrev pub has_threads : Command → Bool
has_threads (Run flags) = false
has_threads (Threads flags) = true
has_threads Check = false
has_threads (Gen number size) = false

-- Whether a command reads an input.
abbrev pub has_input : Command → Bool
has_input (Run flags) = true
has_input (Threads flags) = true
has_input Check = true
has_input (Gen number size) = false

abbrev pub usage_line : List ℕ
usage_line = line (codes "usage: compose_play run|threads [--json] [--ops] | check | gen NUMBER SIZE")

abbrev pub long_line : List ℕ
long_line = line (codes "too long")

-- The states, functions, actors and `do` forms in memory are those of the source text.
pub record IsRead (threads : Bool) (bytes : List ℕ) (states : List State) (functions : List Func)
    (actors : List (List ℕ)) (forms : List DoForm) : Type 0 where
  pub source : Source
  pub text : IsText threads bytes source
  pub states_are : states ≡ source.program.states
  pub functions_are : functions ≡ source.program.functions
  pub actors_are : actors ≡ actors_of source.script
  pub forms_are : forms ≡ source.script

-- The input in memory is that of the bytes: they spell its trees, and its program and script are those of the source
-- text.
pub record IsInput (threads : Bool) (bytes : List ℕ) (input : Input) : Type 0 where
  pub spelled : Spells bytes (forest_view input.trees.items)
  pub read : IsRead threads bytes input.job.program.states.items (functions_of input.job.program)
      input.job.script.actors.items input.job.script.forms.items

-- The bytes are not a source text.
abbrev pub IsNoText : Bool → List ℕ → Type 0
IsNoText threads bytes = (t : Source) → IsText threads bytes t → ⊥

-- The greatest length of an input, in bytes.
abbrev pub input_limit : ℕ
input_limit = 1048576
