use Rattle.frame_laws.proofs.FollowedPaths.{numbers_follow_paths}
use Rattle.frame_laws.proofs.laws.numbers_follow_paths.Goals as goal

pub returns : goal.returns
returns c = numbers_follow_paths
