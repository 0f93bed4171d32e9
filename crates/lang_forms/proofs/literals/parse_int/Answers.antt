use Rattle.std.proofs.Common.{◌∙◌, sym, subst}
use Rattle.std.specs.Int.{w64}
use Rattle.std.proofs.lemmas.Fmt.{IsAscii-signed, parse-signed_decimal}
use Rattle.std.proofs.lemmas.Str.{IsUtf8-from_ascii}
use Rattle.std.specs.Str.{IsAscii}
use Rattle.lang_forms.proofs.Ints.{no_int, small}
use Rattle.lang_forms.proofs.literals.parse_int.Goals as goal

pub returns-in_default : goal.returns-in_default
returns-in_default c = sym (no_int c.args.digits.now
    (λ z f e. c.in_default.ensures.cases.0 (IsUtf8-from_ascii _ (subst IsAscii e (IsAscii-signed z (small z f))))))

pub returns-in_default-parse : goal.returns-in_default-parse
returns-in_default-parse c = sym (no_int c.args.digits.now
    (λ z f e. c.in_default-parse.not-Ok z
    (parse-signed_decimal w64 z _ _ f (small z f) (c.in-Ok.ensures.cases.0 ∙ sym e) c.parse.ensures.value.0)))
