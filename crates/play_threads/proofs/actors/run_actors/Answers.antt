use Rattle.std.proofs.Common.{◌≡◌, true, false, ap, sym, subst, ◌∙◌, length}
use Rattle.snap_policy.specs.Table.{table}
use Rattle.snap_api.specs.World.{IsLegal}
use Rattle.lang_script.specs.StepCalls.{script_parts, opening_world}
use Rattle.snap_shared.specs.HistoryEffects.{legal_parts}
use Rattle.play_laws.specs.PrintedHistory.{printed_history}
use Rattle.play_laws.specs.Woven.{initial_actor, IsWoven}
use Rattle.play_laws.proofs.Prints.{printed_is_woven}
use Rattle.play_laws.proofs.Rests.{printed_part_is_completed}
use Rattle.play_threads.proofs.ActorEnds.{part_completed, printed_part}
use Rattle.play_threads.proofs.actors.run_actors.Goals as goal
use Rattle.play_threads.proofs.actors.run_actors.Goals.{then-whole, else-whole}

pub returns-clause-legal : goal.returns-clause-legal
returns-clause-legal g c =
    let w = opening_world c.args.job.now.program.states.items in
    let h = c.in-Ok.ensures in
    let part = c.cut_history-calls.ensures.part in
    (legal_parts table w c.cut_history-calls.result.0.items part.0
    (subst (λ l. IsLegal table w l) (sym part.1) h.legal)).0

pub returns-clause-woven : goal.returns-clause-woven
returns-clause-woven g c short =
    let w = opening_world c.args.job.now.program.states.items in
    let parts = script_parts c.args.job.now.script.actors.items c.args.job.now.script.forms.items in
    let n = length c.args.job.now.script.actors.items in
    let h = c.in-Ok.ensures in
    let both : (c.in-Ok.whole.short ≡ false) × (c.cut_history-calls.result.1 ≡ false) = elim c.if-whole.branch [
      | then-whole w ↦ (let e : true ≡ false = sym w.if-whole.true ∙ sym w.result-is ∙ short in absurd cc)
      | else-whole w ↦ (w.if-whole.false, sym w.result-is ∙ short)
    ] in
    subst (λ l. IsWoven n (initial_actor parts) l) (ap printed_history (sym (c.cut_history-calls.ensures.whole both.1)))
    (printed_is_woven table n (initial_actor parts) w _ h.legal (λ a under. (h.acted a under).whole both.0) h.others).1

pub returns-clause-part : goal.returns-clause-part
returns-clause-part g c =
    let w = opening_world c.args.job.now.program.states.items in
    let parts = script_parts c.args.job.now.script.actors.items c.args.job.now.script.forms.items in
    let n = length c.args.job.now.script.actors.items in
    let h = c.in-Ok.ensures in
    let cut = c.cut_history-calls.ensures.part in
    let part = printed_part c.cut_history-calls.result.0.items cut.0 _ cut.1 in
    part_completed n parts w (printed_history c.cut_history-calls.result.0.items) part.0 _ part.1
    (printed_part_is_completed n parts w _ h.legal (λ a under. (h.acted a under).first) h.others)
