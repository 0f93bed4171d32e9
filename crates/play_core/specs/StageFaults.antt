-- Trusted: how each stage that parses or checks an input reports its fault.
use Rattle.sexp_text.specs.declared.stop.TextStop.{TextStop}
use Rattle.sexp_text.specs.declared.stop.TextStop.TheVariants as stop
use Rattle.lang_forms.specs.declared.stop.FormStop.{FormStop}
use Rattle.lang_forms.specs.declared.stop.FormStop.TheVariants as form
use Rattle.lang_checks.specs.declared.faults.CheckKind.{CheckKind}
use Rattle.lang_checks.specs.declared.faults.CheckKind.TheVariants as kind
use Rattle.lang_checks.specs.declared.faults.ProgramFault as checks
use Rattle.lang_checks.specs.declared.checks.CheckStop.{CheckStop}
use Rattle.lang_checks.specs.declared.checks.CheckStop.TheVariants as check
use Rattle.lang_script.specs.declared.faults.ScriptStop.{ScriptStop}
use Rattle.lang_script.specs.declared.faults.ScriptStop.TheVariants as script
use Rattle.play_core.specs.declared.fault.Fault.{Fault}
use Rattle.play_core.specs.declared.fault.FaultKind.{FaultKind}
use Rattle.play_core.specs.declared.fault.FaultKind.TheVariants.{Utf8, Text, Deep, Form, Limit, Double, Unknown, Order, «Type», Remember, Actor}
use Rattle.play_core.specs.declared.text.TextEnd.{TextEnd}
use Rattle.play_core.specs.declared.text.TextEnd.TheVariants.{Bad, NoMemory}

-- The result of the tree parser.
abbrev pub text_end : TextStop → TextEnd
text_end (stop.NotUtf8 at) = Bad (record { kind = Utf8; at = at })
text_end (stop.Bad at) = Bad (record { kind = Text; at = at })
text_end (stop.TooDeep at) = Bad (record { kind = Deep; at = at })
text_end stop.NoMemory = NoMemory

-- The result of the form parser and of the limits.
abbrev pub form_end : FormStop → TextEnd
form_end (form.Form at) = Bad (record { kind = Form; at = at })
form_end (form.Limit at) = Bad (record { kind = Limit; at = at })
form_end form.NoMemory = NoMemory

abbrev pub check_kind : CheckKind → FaultKind
check_kind kind.Double = Double
check_kind kind.Unknown = Unknown
check_kind kind.Order = Order
check_kind kind.Type = «Type»
check_kind kind.Remember = Remember

-- A fault of the program, with its kind.
abbrev pub check_fault : checks.ProgramFault → Fault
check_fault f = record { kind = check_kind f.kind; at = f.at }

abbrev pub check_end : CheckStop → TextEnd
check_end (check.ProgramFault f) = Bad (check_fault f)
check_end check.NoMemory = NoMemory

-- The result of the script.
abbrev pub script_end : ScriptStop → TextEnd
script_end (script.Limit at) = Bad (record { kind = Limit; at = at })
script_end (script.Unknown at) = Bad (record { kind = Unknown; at = at })
script_end (script.Type at) = Bad (record { kind = «Type»; at = at })
script_end (script.Actor at) = Bad (record { kind = Actor; at = at })
script_end script.NoMemory = NoMemory
