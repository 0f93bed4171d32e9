use Rattle.std.proofs.Common.{◌-◌, length}
use Rattle.composer.proofs.pending.survey_siblings.Given as goal

abbrev pub decreases-loop-at : goal.decreases-loop-at
decreases-loop-at l = length l.table.groups - l.at
