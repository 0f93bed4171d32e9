use Rattle.std.proofs.Common.{refl}
use Rattle.lang_eval.proofs.evaluation.eval_noting.Goals as goal

pub returns : goal.returns
returns g c = record {
  keeps = c.eval_inlined.ensures.keeps;
  same = c.eval_inlined.ensures.same;
  value = λ m h. (c.eval_inlined.ensures.gives m h).value;
  asks = λ m h. (c.eval_inlined.ensures.gives m h).came;
  reads = λ m h. (c.eval_inlined.ensures.gives m h).noted refl;
  part = λ m h. (c.eval_inlined.ensures.gives m h).part;
}
