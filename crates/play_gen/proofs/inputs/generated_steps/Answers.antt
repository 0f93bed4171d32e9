use Rattle.std.proofs.Common.{◌∙◌, sym, ap, length}
use Rattle.play_gen.proofs.RoundLists.{first-length}
use Rattle.play_gen.proofs.inputs.generated_steps.Goals as goal

pub add_rounds-requires-clause-rows : goal.add_rounds-requires-clause-rows
add_rounds-requires-clause-rows c = sym (ap length c.in_ok-items.ensures ∙ first-length c.args.size c.requires.few)
