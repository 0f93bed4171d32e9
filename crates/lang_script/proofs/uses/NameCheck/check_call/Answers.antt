use Rattle.std.proofs.Common.{◌∙◌, sym}
use Rattle.lang_script.proofs.Scans.{five_ok, on_ok, call_keeps_framer, least_after}
use Rattle.lang_script.proofs.uses.NameCheck.check_call.Goals as goal

pub returns : goal.returns
returns c threads states s at =
    let least = c.call_faults-self.ensures s.uses at.0
    ∙ least_after threads _ states _ s.least _ s.uses c.args.actor c.args.call.now at.3 at.4 at.2 in
    five_ok _ _ _ _ _ c.note_taker.result (c.note_taker.ensures.takers s.uses at.0)
    (on_ok _ _ c.note_taker.result (λ e. e ∙ at.1 ∙ sym (call_keeps_framer s.uses c.args.actor c.args.call.now))
    c.note_taker.ensures.framer)
    (on_ok _ _ c.note_taker.result (λ e. e ∙ least) c.note_taker.ensures.least)
    (on_ok _ _ c.note_taker.result (λ e. e ∙ at.3) c.note_taker.ensures.threads)
    (on_ok _ _ c.note_taker.result (λ e. e ∙ at.4) c.note_taker.ensures.states)
