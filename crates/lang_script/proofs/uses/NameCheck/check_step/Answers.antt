use Rattle.std.proofs.Common.{sym, subst, OnOk}
use Rattle.lang_script.specs.ScriptFaults.{text_step, text_calls, FrameStep}
use Rattle.lang_script.specs.NameScans.{scan, scans, IsAt}
use Rattle.lang_script.proofs.uses.NameCheck.check_step.Goals as goal

pub returns-in-Frame : goal.returns-in-Frame
returns-in-Frame c threads states s at =
    subst (λ x. IsAt threads states c.check_frame.new.self (scans threads states s (text_step c.args.actor x)))
    (sym c.in-Frame.is) (c.check_frame.ensures threads states s at)

pub returns-in-FrameDuring : goal.returns-in-FrameDuring
returns-in-FrameDuring c threads states s at =
    subst (λ x. OnOk c.check_calls.result
    (IsAt threads states c.check_calls.new.self (scans threads states s (text_step c.args.actor x))))
    (sym c.in-FrameDuring.is)
    (subst (λ ds. OnOk c.check_calls.result
    (IsAt threads states c.check_calls.new.self
    (scans threads states (scan threads states s (FrameStep c.args.actor c.in-FrameDuring.at))
    (text_calls c.args.actor ds)))) c.items.ensures
    (c.check_calls.ensures threads states (scan threads states s (FrameStep c.args.actor c.in-FrameDuring.at))
    (c.check_frame-in-FrameDuring.ensures threads states s at)))
