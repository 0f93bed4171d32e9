use Rattle.std.proofs.Common.{sym, subst, arith}
use Rattle.sexp_text.specs.Machine.{State, Rests}
use Rattle.sexp_text.proofs.Tokens.{first_rests}
use Rattle.sexp_text.proofs.reader.read_trees.Goals as goal

pub loop-at-init : goal.loop-at-init
loop-at-init c = record {
  within = omega arith;
  here = subst (λ (s : State). Rests c.args.bytes.now 0 s.1 s.2) (sym c.new-reader.ensures)
      (first_rests c.args.bytes.now);
}
