use Rattle.play_gen.proofs.Texts.{two_pieces, three_pieces}
use Rattle.play_gen.proofs.text.add_applies.Goals as goal

pub returns : goal.returns
returns c =
    two_pieces _ _ _ _ _ (three_pieces _ _ _ _ _ _ _ c.in_ok-add_count.ensures.ok c.in_ok-add_count-2.ensures.ok
    c.in_ok-add_count-3.ensures.ok) c.in_ok-push.ensures.items
