use Rattle.play_laws.proofs.ActorNames.{actor_names_are_distinct}
use Rattle.play_laws.proofs.laws.actor_names_are_distinct.Goals as goal

pub returns : goal.returns
returns c = actor_names_are_distinct
