use Rattle.lang_write.proofs.Written.{script_follows}
use Rattle.lang_write.proofs.laws.script_follows_program.Goals as goal

pub returns : goal.returns
returns c = script_follows
