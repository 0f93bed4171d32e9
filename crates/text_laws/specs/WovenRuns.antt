-- Law: what `run` writes is one of the outputs of `threads`.
use Rattle.std.specs.Prelude.{◌≡◌, ℕ, List, [], length, true, false, Option, Some}
use Rattle.lang_ast.specs.declared.program.State.{State}
use Rattle.lang_ast.specs.declared.script.DoForm.{DoForm}
use Rattle.lang_forms.specs.Sources.{Source}
use Rattle.lang_script.specs.Scripts.{actors_of}
use Rattle.lang_script.specs.ScriptFaults.{script_faults}
use Rattle.lang_script.specs.StepCalls.{no_notes, opening_world, script_parts, sequential}
use Rattle.script_lang.specs.declared.flags.Flags.{Flags}
use Rattle.play_laws.specs.Woven.{initial_actor, IsWoven}
use Rattle.play_args.specs.declared.command.Command.TheVariants.{Threads}
use Rattle.play_core.specs.Texts.{IsText, IsOutput, run_output}

-- If a script has no fault, not even one for `threads`, the history of its run is woven of its actors' calls.
abbrev pub RunIsWoven : Type 0
RunIsWoven = (states : List State) (first_oversized : Option ℕ) (forms : List DoForm) →
    script_faults true states first_oversized forms ≡ [] →
    let actors = actors_of forms in
    let parts = script_parts actors forms in
    IsWoven (length actors) (initial_actor parts) (sequential (opening_world states) no_notes parts)

-- Each text that `threads` accepts, `run` accepts.
abbrev pub RunAcceptsTextsOfThreads : Type 0
RunAcceptsTextsOfThreads = (bytes : List ℕ) (t : Source) → IsText true bytes t → IsText false bytes t

-- The output of `run` on a text that `threads` accepts is one of the outputs of `threads`.
abbrev pub RunWritesAnOutputOfThreads : Type 0
RunWritesAnOutputOfThreads = (flags : Flags) (bytes : List ℕ) (t : Source) → IsText true bytes t →
    IsOutput (Threads flags) (Some t) (run_output flags t)
