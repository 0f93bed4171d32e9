use Rattle.std.proofs.Common.{rules, SFits, w64}
use Rattle.rt_values.proofs.Quotients.{divided}
use Rattle.rt_values.proofs.operators.divide.Goals as goal

pub returns-else-b-eq0 : goal.returns-else-b-eq0
returns-else-b-eq0 c =
    let f : SFits w64 c.wrapping_div.result = search rules in
    divided c.args.a c.args.b _ c.ranges.a c.ranges.b f c.if-b-eq0.false c.wrapping_div.ensures
