use Rattle.std.proofs.Common.{arith, suc, []}
use Rattle.std.proofs.lemmas.Result.{err_from_is_err_and}
use Rattle.sexp_text.specs.Machine.{in_text}
use Rattle.sexp_text.proofs.Tokens.{quote_ends, escape_leads, escape_refuses, char_refuses}
use Rattle.sexp_text.proofs.lexer.parse_string.Goals as goal

pub returns-in-34-clause-ok : goal.returns-in-34-clause-ok
returns-in-34-clause-ok c =
    quote_ends c.args.bytes.now c.loop-at.at c.args.from c.loop-at.chars.items c.loop-at-test.true c.in-34.is
    c.loop-at.invariant.here

pub returns-in_err-unescape-in-92-clause-err : goal.returns-in_err-unescape-in-92-clause-err
returns-in_err-unescape-in-92-clause-err c =
    let p = err_from_is_err_and c.from_residual.result c.from_residual.ensures.1 in
    let chars = c.loop-at.chars.items in
    rw (p.1, p.2, c.in_err-unescape-in-92.ensures.err)
    (escape_refuses c.args.bytes.now c.loop-at.at c.args.from chars c.loop-at-test.true c.in-92.is
    (λ os f. c.in_err-unescape-in-92.ensures.none c.args.from chars os f) c.loop-at.invariant.here)

pub loop-at-preserved-in-92 : goal.loop-at-preserved-in-92
loop-at-preserved-in-92 c =
    let chars = c.loop-at.chars.items in
    record {
      after = omega (arith, c.loop-at.invariant.after);
      within = omega (arith, c.in_ok-unescape-in-92.ensures.within);
      here = rw c.in_ok-push-in-92.ensures.items
          (escape_leads c.args.bytes.now (suc c.args.from) c.loop-at.at c.args.from c.in_ok-unescape-in-92.field-0
          (in_text c.args.from []) chars c.in_ok-unescape-in-92.ensures.within c.in-92.is
          (λ os f. c.in_ok-unescape-in-92.ensures.ok c.args.from chars os f) c.loop-at.invariant.here);
    }

pub returns-then-b-lt32-clause-err : goal.returns-then-b-lt32-clause-err
returns-then-b-lt32-clause-err c =
    char_refuses c.args.bytes.now c.loop-at.at c.args.from c.loop-at.chars.items c.loop-at-test.true c.if-b-lt32.true
    c.loop-at.invariant.here
