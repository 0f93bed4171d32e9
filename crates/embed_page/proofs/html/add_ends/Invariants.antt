use Rattle.std.proofs.Common.{length}
use Rattle.embed_page.proofs.html.add_ends.Given as goal

abbrev pub decreases-loop-end : goal.decreases-loop-end
decreases-loop-end l = length l.open.items
