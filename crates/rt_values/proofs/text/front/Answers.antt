use Rattle.std.proofs.Common.{◌∙◌}
use Rattle.rt_values.proofs.TextPrefixes.{front-is}
use Rattle.rt_values.proofs.text.front.Goals as goal

pub returns : goal.returns
returns c =
    c.split_at.ensures.front ∙ front-is _ _ _ c.utf8.text c.floor_char_boundary.ensures.bound
    c.floor_char_boundary.ensures.boundary c.floor_char_boundary.ensures.nearest
