use Rattle.std.proofs.Common.{leb-true, nat_eq, length, slice_index_or, arith}
use Rattle.std.proofs.lemmas.Bool.{eqb-true}
use Rattle.recompose_scopes.proofs.SplitPlaces.{split_at_start, split_after, no_split}
use Rattle.recompose_scopes.proofs.owed_calls.splits.Goals as goal
use Rattle.recompose_scopes.proofs.owed_calls.splits.Goals.{then-k-places+then-k-eq0, then-k-places+else-k-eq0, else-k-places}

pub returns-then-k-places-2 : goal.returns-then-k-places-2
returns-then-k-places-2 c = λ end.
    let last = eqb-true c.args.k (length c.args.places.now) end in
    elim c.if-k-places.branch [
      | then-k-places+then-k-eq0 w ↦
          split_at_start c.args.places.now c.args.k c.args.at c.requires w.if-k-places.true w.if-k-eq0.true
          (λ more. absurd (omega (arith, last, more)))
      | then-k-places+else-k-eq0 w ↦
          split_after c.args.places.now c.args.k c.args.at c.if-k-places.value c.requires
          w.if-k-places.true w.value-is c.if-places-k.true (λ more. absurd (omega (arith, last, more)))
      | else-k-places w ↦
          no_split c.args.places.now c.args.k c.args.at c.if-k-places.value
          w.if-k-places.false w.value-is c.if-places-k.true
    ]

pub returns-else-k-places-2 : goal.returns-else-k-places-2
returns-else-k-places-2 c = λ end.
    let after = leb-true c.args.at (slice_index_or c.args.places.now c.args.k 0) end in
    elim c.if-k-places.branch [
      | then-k-places+then-k-eq0 w ↦
          split_at_start c.args.places.now c.args.k c.args.at c.requires w.if-k-places.true w.if-k-eq0.true
          (λ more. after)
      | then-k-places+else-k-eq0 w ↦
          split_after c.args.places.now c.args.k c.args.at c.if-k-places.value c.requires
          w.if-k-places.true w.value-is c.if-places-k.true (λ more. after)
      | else-k-places w ↦
          no_split c.args.places.now c.args.k c.args.at c.if-k-places.value
          w.if-k-places.false w.value-is c.if-places-k.true
    ]
