use Rattle.std.proofs.Common.{ap, sym, ◌∙◌}
use Rattle.std.proofs.lemmas.Bool.{eqb-true}
use Rattle.rt_groups.specs.declared.report.Report.{Report}
use Rattle.recomposer.proofs.QuietFrames.{calls_none}
use Rattle.recomposer.proofs.composition.Composition.keeps_all.Goals as goal

pub returns : goal.returns
returns c k m h made is =
    calls_none c.args.self.now k m h (sym c.is_all.ensures ∙ c.if-is_all.false)
    (ap (λ (r : Report). r.ran) (sym (c.report.ensures ∙ made.0.report)) ∙ eqb-true c.report.result.ran 0 is)
