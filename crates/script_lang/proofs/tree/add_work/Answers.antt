use Rattle.script_lang.proofs.Texts.{three_pieces}
use Rattle.script_lang.proofs.tree.add_work.Goals as goal

pub returns : goal.returns
returns c =
    three_pieces _ _ _ _ _ _ _ _ c.in_ok-append_count.ensures c.in_ok-append_count-2.ensures c.append_count-3.ensures
