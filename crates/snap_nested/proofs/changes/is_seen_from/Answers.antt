use Rattle.std.proofs.Common.{ℕ, List, sym, ap, ◌∙◌, arith}
use Rattle.std.specs.List.{list_any}
use Rattle.snap_nested.specs.Members.{member, sees}
use Rattle.std.proofs.Math.ListN.{drop_of_length-le}
use Rattle.snap_nested.proofs.changes.is_seen_from.Goals as goal

pub returns : goal.returns
returns c =
    sym (ap (λ (l : List ℕ). list_any (λ (n : ℕ). sees c.args.id (member c.args.members.now n)) l)
    (drop_of_length-le c.args.names.now (omega (arith, c.loop-index-test.false))))
    ∙ c.loop-index.invariant.none
