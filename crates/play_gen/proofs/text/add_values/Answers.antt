use Rattle.play_gen.proofs.Texts.{four_pieces}
use Rattle.play_gen.proofs.text.add_values.Goals as goal

pub returns : goal.returns
returns c =
    four_pieces _ _ _ _ _ _ _ _ _ c.in_ok-add_count.ensures.ok c.in_ok-add_count-2.ensures.ok
    c.in_ok-add_count-3.ensures.ok c.in_ok-add_count-4.ensures.ok
