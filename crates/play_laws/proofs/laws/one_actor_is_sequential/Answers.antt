use Rattle.play_laws.proofs.Rests.{sequential_is_woven, woven_is_sequential}
use Rattle.play_laws.proofs.laws.one_actor_is_sequential.Goals as goal

pub returns-clause-woven : goal.returns-clause-woven
returns-clause-woven c = sequential_is_woven

pub returns-clause-only : goal.returns-clause-only
returns-clause-only c = woven_is_sequential
