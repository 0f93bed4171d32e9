use Rattle.std.proofs.Common.{◌∙◌, sym}
use Rattle.lang_script.specs.ScriptFaults.{text_script, no_uses, oversized_faults, long_forms, most_steps, further_actors, forms_wrong_repeats, steps_faults}
use Rattle.lang_script.proofs.Scans.{scanned, five_lists}
use Rattle.lang_script.proofs.scripts.find_fault.Goals as goal

pub returns : goal.returns
returns c named =
    let at = c.in_ok-check_script.ensures c.args.threads c.args.states.now
    (record { uses = no_uses; least = c.find_all_wrong_repeats-least.result }) c.new-check.ensures in
    let steps = text_script c.args.actors.now c.args.forms.now in
    let lists = five_lists (oversized_faults c.args.first_oversized) (long_forms most_steps c.args.forms.now)
    (further_actors c.args.actors.now c.args.forms.now) (forms_wrong_repeats c.args.forms.now)
    (steps_faults c.args.threads c.args.states.now no_uses steps) in
    at.2 ∙ scanned c.args.threads c.args.states.now
    (record { uses = no_uses; least = c.find_all_wrong_repeats-least.result }) steps
    ∙ rw c.find_all_wrong_repeats-least.ensures
    (rw c.find_further_actors-least.ensures
    (rw c.find_long_forms-least.ensures (rw c.oversized_fault-least.ensures (rw (sym named) lists))))
