use Rattle.std.proofs.Common.{◌∙◌, ap, sym, length, None}
use Rattle.play_run.specs.RunOutput.{parts_after}
use Rattle.play_gen.specs.GeneratedScript.{rounds}
use Rattle.play_gen.specs.Counting.{forms_parts}
use Rattle.play_gen.proofs.CountedParts.{then_ok}
use Rattle.play_gen.proofs.CountedRounds.{frame_parts, script_is}
use Rattle.play_gen.proofs.RoundLists.{first-length}
use Rattle.play_gen.proofs.summary.count_steps.Goals as goal

pub count_rounds-requires-clause-rows : goal.count_rounds-requires-clause-rows
count_rounds-requires-clause-rows g c = sym (ap length c.in_ok-items.ensures ∙ first-length c.args.size c.requires.few)

pub returns : goal.returns
returns g c functions r h =
    let first = c.in_ok-count_frame.ensures functions r h in
    then_ok _ _ c.count_rounds.result None None c.args.counting.now.tally r frame_parts
    (forms_parts (rounds c.args.size c.args.size c.new.result c.in_ok-items.items)) _
    (script_is c.args.number c.args.size c.new.result c.in_ok-items.items c.new.ensures c.in_ok-items.ensures) first
    (c.count_rounds.ensures functions (parts_after functions r frame_parts) first.facts)
