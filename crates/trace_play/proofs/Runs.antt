-- The trace of the history that a run logs.
use Rattle.std.proofs.Common.{◌≡◌, ℕ, zero, suc, List, [], ◌++◌, refl, sym, ap, ◌∙◌, subst, Option, Some, arith}
use Rattle.lang_ast.specs.declared.program.State.{State}
use Rattle.lang_ast.specs.declared.script.DoForm.{DoForm}
use Rattle.lang_ast.specs.Terms.{Func}
use Rattle.lang_forms.specs.Sources.{Source}
use Rattle.snap_policy.specs.Table.{table}
use Rattle.snap_policy.specs.declared.policy.BuiltIn.{BuiltIn}
use Rattle.snap_api.specs.TracksLive.{OnlyGlobalIsLive}
use Rattle.snap_api.specs.World.{History, IsLegal, start}
use Rattle.snap_api.specs.declared.data.Entry.{Entry}
use Rattle.lang_script.specs.Scripts.{actors_of}
use Rattle.lang_script.specs.StepCalls.{ActorPart, no_notes, opening_world, script_parts, sequential}
use Rattle.script_lang.specs.Lines.{Titles}
use Rattle.script_lang.specs.PrintedCalls.{printed_calls}
use Rattle.play_run.specs.RunLog.{RunLogged, LogsRun}
use Rattle.play_run.specs.RunState.{flat}
use Rattle.play_core.specs.Texts.{IsText, IsRead, titles}
use Rattle.play_core.proofs.Uniques.{text_one}
use Rattle.trace_lines.specs.ProgramLine.{program_line}
use Rattle.trace_play.specs.TraceText.{initial_trace, trace_lines, trace_text}
use Rattle.trace_play.specs.TraceOutput.{trace_output}

-- In a new world only the global snapshot is live.
pub only_global : OnlyGlobalIsLive {P = BuiltIn} (start 0)
only_global zero inner = absurd (omega (arith, inner))
only_global (suc n) inner = refl

-- What a log that was empty says of a run.
pub logged : (t : Titles) (functions : List Func) (parts : List ActorPart) (old new : Option (List Entry)) (calls : History)
    → old ≡ Some [] → new ≡ Some calls → LogsRun t functions parts old new →
    IsLegal table (opening_world t.states) calls
    × (printed_calls [] calls ≡ sequential (opening_world t.states) no_notes parts)
logged t functions parts old new calls empty is logs =
    let run : RunLogged t functions parts [] new = subst (λ o. LogsRun t functions parts o new) empty logs in
    let same : run.more ≡ calls = (let e : Some run.more ≡ Some calls = sym run.log_is ∙ is in cc) in (
      subst (λ h. IsLegal table (opening_world t.states) h) same run.legal,
      ap (printed_calls []) (sym same) ∙ run.printed_is,
    )

-- The lines of the history are those of the steps.
pub text_is : (t : Titles) (functions : List Func) (parts : List ActorPart) (h : History)
    → h ≡ sequential (opening_world t.states) no_notes parts →
    flat (trace_lines t functions (initial_trace t.states) h) ≡ trace_text t functions parts
unfolding trace_text
text_is t functions parts h is = ap (λ es. flat (trace_lines t functions (initial_trace t.states) es)) is

-- The trace of the parsed program and script is that of the source text.
pub output_is : {bytes : List ℕ} {states : List State} {functions : List Func} {actors : List (List ℕ)}
    {forms : List DoForm} {threads : _} (h : IsRead threads bytes states functions actors forms) (p : Source)
    → IsText threads bytes p →
    program_line states functions actors bytes
    ++ trace_text (record { states = states; actors = actors }) functions (script_parts actors forms)
    ≡ trace_output bytes p
unfolding trace_output
output_is {bytes} {states} {functions} {actors} {forms} h p t =
    ap (λ ss. program_line ss functions actors bytes
    ++ trace_text (record { states = ss; actors = actors }) functions (script_parts actors forms)) h.states_are
    ∙ ap (λ l. program_line h.source.program.states functions l bytes
    ++ trace_text (record { states = h.source.program.states; actors = l }) functions (script_parts l forms)) h.actors_are
    ∙ ap (λ fs. program_line h.source.program.states fs (actors_of h.source.script) bytes
    ++ trace_text (titles h.source) fs (script_parts (actors_of h.source.script) forms)) h.functions_are
    ∙ ap (λ l. program_line h.source.program.states h.source.program.functions (actors_of h.source.script) bytes
    ++ trace_text (titles h.source) h.source.program.functions (script_parts (actors_of h.source.script) l)) h.forms_are
    ∙ ap (trace_output bytes) (text_one bytes h.source p h.text t)
