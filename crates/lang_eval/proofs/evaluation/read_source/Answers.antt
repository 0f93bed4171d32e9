use Rattle.std.proofs.Common.{IsErr}
use Rattle.lang_eval.proofs.Grows.{grew_all}
use Rattle.lang_eval.proofs.Evaluating.{evaluated_stop, state_evaluated}
use Rattle.lang_eval.proofs.evaluation.read_source.Goals as goal

pub returns-in_err-value : goal.returns-in_err-value
returns-in_err-value g c =
    let err : IsErr c.from_residual.result = c.from_residual.ensures.0 in
    record {
      keeps = c.in_err-value.ensures.keeps;
      same = c.in_err-value.ensures.same;
      gives = λ m h. state_evaluated m _ _ _ _ _ _ _ _ _ c.object_of-number.ensures
          (evaluated_stop _ _ _ _ _ _ _ _ _ err c.in_err-value.ensures.part (λ n q f. c.in_err-value.ensures.free m h q f));
    }

pub returns-in_err-push : goal.returns-in_err-push
returns-in_err-push g c =
    let err : IsErr c.from_residual-in_err-push.result = c.from_residual-in_err-push.ensures.0 in
    record {
      keeps = c.in_ok-value.ensures.keeps;
      same = c.in_ok-value.ensures.same;
      gives = λ m h. state_evaluated m _ _ _ _ _ _ _ _ _ c.object_of-number.ensures
          (evaluated_stop _ _ _ _ _ _ _ _ _ err (grew_all _ _ _ c.in_ok-value.ensures.asks)
          (λ n q f. let e = c.if-is_noting.true in cc));
    }
