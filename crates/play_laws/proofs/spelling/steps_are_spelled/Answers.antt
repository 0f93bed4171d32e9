use Rattle.play_laws.proofs.Steps.{nothing_is_spelled, call_is_spelled, part_is_passed, all_is_spelled}
use Rattle.play_laws.proofs.spelling.steps_are_spelled.Goals as goal

pub returns-clause-none : goal.returns-clause-none
returns-clause-none c = nothing_is_spelled

pub returns-clause-call : goal.returns-clause-call
returns-clause-call c = call_is_spelled

pub returns-clause-passed : goal.returns-clause-passed
returns-clause-passed c = part_is_passed

pub returns-clause-all : goal.returns-clause-all
returns-clause-all c = all_is_spelled
