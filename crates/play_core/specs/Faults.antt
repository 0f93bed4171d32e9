-- Trusted: why bytes are rejected, and the line that reports it.
use Rattle.std.specs.Prelude.{◌≡◌, ◌≤◌, ℕ, List, ◌++◌, Bool, length, codes, Some, Result, Ok, Err}
use Rattle.std.specs.Fmt.{decimal}
use Rattle.std.specs.declared.option.Option.{Option}
use Rattle.std.specs.Option.{option_map, option_or}
use Rattle.rt_streams.specs.Streams.{AppendsPart}
use Rattle.sexp_text.specs.Forest.{Forest, list_nesting}
use Rattle.sexp_text.specs.Grammar.{Spells}
use Rattle.sexp_text.specs.TextFaults.{Cause}
use Rattle.sexp_text.specs.declared.stop.TextStop.TheVariants as stop
use Rattle.lang_limits.specs.LeastOffset.{least}
use Rattle.lang_limits.specs.Tokens.{oversized_script_offsets}
use Rattle.lang_forms.specs.Sources.{Source}
use Rattle.lang_forms.specs.FirstWrong.{IsAnswerFor}
use Rattle.lang_forms.specs.declared.stop.FormStop.{FormStop}
use Rattle.lang_checks.specs.FaultOrder.{least_fault}
use Rattle.lang_checks.specs.ProgramFaults.{program_faults}
use Rattle.lang_script.specs.ScriptFaults.{script_refusal}
use Rattle.script_lang.specs.Lines.{line}
use Rattle.play_args.specs.declared.command.Command.{Command}
use Rattle.play_core.specs.StageFaults.{form_end, check_end, script_end}
use Rattle.play_core.specs.Texts.{IsText, IsOutput, has_threads}
use Rattle.lang_checks.specs.declared.checks.CheckStop.TheVariants as check
use Rattle.play_core.specs.declared.fault.Fault.{Fault}
use Rattle.play_core.specs.declared.fault.FaultKind.{FaultKind}
use Rattle.play_core.specs.declared.fault.FaultKind.TheVariants.{Utf8, Text, Deep, Form, Limit, Double, Unknown, Order, «Type», Remember, Actor}
use Rattle.play_core.specs.declared.text.TextEnd.{TextEnd}
use Rattle.play_core.specs.declared.text.TextEnd.TheVariants as end

-- Why a program with a script is rejected: the first fault of the program, else that of the script. `first_oversized`
-- is the offset of the first token of the script that exceeds its limit. `threads`: whether each actor has snapshot
-- names of its own.
abbrev pub source_refusal : Bool → Option ℕ → Source → Option TextEnd
source_refusal threads first_oversized t =
    option_or (option_map (λ f. check_end (check.ProgramFault f)) (least_fault (program_faults t.program)))
    (option_map script_end (script_refusal threads t.program.states first_oversized t.script))

-- Why parsed forms are rejected: they are not those of a program with a script, the program exceeds a limit, or the
-- two have a fault.
abbrev pub reading_refusal : Bool → Option ℕ → Result Source FormStop → Option TextEnd
reading_refusal threads first_oversized (Ok t) = source_refusal threads first_oversized t
reading_refusal threads first_oversized (Err stop) = Some (form_end stop)

-- The bytes spell lists at most 100 deep, which are rejected with this fault.
pub record IsRefused (threads : Bool) (bytes : List ℕ) (fault : Fault) : Type 0 where
  pub forest : Forest
  pub spelled : Spells bytes forest
  pub shallow : list_nesting forest ≤ 100
  pub answer : Result Source FormStop
  pub by_forms : IsAnswerFor (length bytes) forest answer
  pub refused : reading_refusal threads (least (oversized_script_offsets forest)) answer ≡ Some (end.Bad fault)

-- Bytes that spell no forest of lists at most 100 deep have the fault of that cause, at its offset; other bytes have
-- the fault of their forest.
abbrev pub IsFaultAt : Bool → List ℕ → ℕ → FaultKind → Type 0
IsFaultAt threads bytes at Utf8 = Cause bytes (stop.NotUtf8 at)
IsFaultAt threads bytes at Text = Cause bytes (stop.Bad at)
IsFaultAt threads bytes at Deep = Cause bytes (stop.TooDeep at)
IsFaultAt threads bytes at kind = IsRefused threads bytes (record { kind = kind; at = at })

abbrev pub IsFault : Bool → List ℕ → Fault → Type 0
IsFault threads bytes fault = IsFaultAt threads bytes fault.at fault.kind

abbrev pub fault_word : FaultKind → List ℕ
fault_word Utf8 = codes "utf8"
fault_word Text = codes "text"
fault_word Deep = codes "deep"
fault_word Form = codes "form"
fault_word Limit = codes "limit"
fault_word Double = codes "double"
fault_word Unknown = codes "unknown"
fault_word Order = codes "order"
fault_word «Type» = codes "type"
fault_word Remember = codes "remember"
fault_word Actor = codes "actor"

-- The line of a fault.
abbrev pub fault_line : Fault → List ℕ
fault_line fault = line (codes "bad input: " ++ fault_word fault.kind ++ codes " at " ++ decimal fault.at)

-- A first part of what is written for the bytes was written: of an output that `may` allows for them and their source
-- text, or of the line of their fault.
pub record WritesPart (threads : Bool) (may : List ℕ → Source → List ℕ → Type 0) (bytes : List ℕ)
    (before now : Option (List ℕ)) : Type 0 where
  pub lines : (t : Source) → IsText threads bytes t → (out : List ℕ) × may bytes t out × AppendsPart before now out
  pub refusal : (fault : Fault) → IsFault threads bytes fault → AppendsPart before now (fault_line fault)
