use Rattle.std.proofs.Common.{◌∙◌, sym, ap, ℕ, inl, inr}
use Rattle.rt_values.specs.Maps.{contains}
use Rattle.snap_nested.proofs.Needed.{set_only}
use Rattle.snap_nested.proofs.unused.add_unless_used.Goals as goal

pub returns : goal.returns
returns c = λ i h. elim (set_only i c.args.id c.args.unused.now c.set.new.self c.in_ok-set.ensures.ok h) [
  | inl e ↦ inl e
  | inr e ↦ inr (ap (λ (n : ℕ). contains n c.args.used.now) e ∙ sym c.get.ensures ∙ c.if-get.false)
]
