use Rattle.std.proofs.Common.{refl}
use Rattle.lang_eval.proofs.evaluation.eval.Goals as goal

pub returns : goal.returns
returns g c = record {
  keeps = c.eval_part.ensures.keeps;
  same = c.eval_part.ensures.same;
  value = λ m h. (c.eval_part.ensures.gives m h).value;
  asks = λ m h. (c.eval_part.ensures.gives m h).came;
  part = λ m h. (c.eval_part.ensures.gives m h).part;
  free = λ m h q f. (c.eval_part.ensures.gives m h).no_error refl q f;
}
