use Rattle.std.proofs.Common.{rules, ltb, subst, sym, ◌∙◌}
use Rattle.std.specs.List.Sorted.{IsNonDecreasing}
use Rattle.std.proofs.lemmas.List.Sorted.{IsPartitionPoint-from_clause, IsPartitionedBy-ltb}
use Rattle.recompose_scopes.specs.Building.{Splits}
use Rattle.recompose_scopes.proofs.SplitPlaces.{split_searched}
use Rattle.recompose_scopes.proofs.owed_calls.OwedCalls.find_split.Goals as goal

pub returns : goal.returns
returns c =
    let places = c.deref-3.result.now in
    let index = c.partition_point.result in
    let ascending = subst (λ l. IsNonDecreasing l) (sym c.deref-3.ensures.value) c.self.invariant in
    let point = IsPartitionPoint-from_clause (λ y. ltb y c.args.at) _ _ c.partition_point.ensures.partitioned
    (IsPartitionedBy-ltb (λ y. y) places c.args.at ascending) (λ a r f k. search rules) in
    subst (λ l. Splits l index c.args.at) (c.deref-3.ensures.value ∙ c.self.view_is)
    (split_searched places index c.args.at ascending c.partition_point.ensures.bound point)
