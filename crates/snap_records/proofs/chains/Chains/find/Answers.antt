use Rattle.std.proofs.Common.{sym, ◌∙◌}
use Rattle.snap_records.proofs.chains.Chains.find.Goals as goal

pub returns-then-id-clause-some : goal.returns-then-id-clause-some
returns-then-id-clause-some c = record {
  found = record { at = c.loop-i.i; key = c.at-r.ensures; same = sym c.id.ensures ∙ c.if-id.true };
  first = c.loop-i.invariant;
}
