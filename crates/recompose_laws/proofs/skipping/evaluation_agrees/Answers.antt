use Rattle.recompose_laws.proofs.Agreeing.{eval_agree}
use Rattle.recompose_laws.proofs.skipping.evaluation_agrees.Goals as goal

pub returns : goal.returns
returns c = eval_agree
