use Rattle.std.proofs.Common.{◌==◌, sym}
use Rattle.std.proofs.lemmas.List.Sorted.{IsNonDecreasingBy-from_sort, list_any-IsPermutation}
use Rattle.recompose_scopes.proofs.owed_calls.OwedCalls.of.Goals as goal

pub invariant_of-result : goal.invariant_of-result
invariant_of-result c =
    IsNonDecreasingBy-from_sort (λ x. x) c.sort_unstable.new.self.items c.sort_unstable.ensures.sorted

pub returns : goal.returns
returns c = λ i. sym (list_any-IsPermutation (λ y. y == i) c.args.places.items c.sort_unstable.new.self.items
    c.sort_unstable.ensures.permutation)
