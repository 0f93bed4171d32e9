use Rattle.std.proofs.Common.{◌∙◌}
use Rattle.lang_limits.proofs.Ints.{int_utf8, parsed}
use Rattle.lang_limits.proofs.numbers.fits.Goals as goal

pub unreachable-requires : goal.unreachable-requires
unreachable-requires c = c.in-Err.ensures.cases.0 (int_utf8 c.args.digits.now c.requires)

pub returns : goal.returns
returns c =
    let same = c.in-Ok.ensures.cases.0 in
    c.is_ok.ensures.value ∙ parsed c.args.digits.now c.parse.result c.requires (rw same at c.parse.ensures.value.0)
