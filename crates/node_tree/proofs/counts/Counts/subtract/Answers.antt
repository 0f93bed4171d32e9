use Rattle.std.proofs.Common.{◌≡◌, ◌<◌, ◌^◌, ◌++◌, length, take, drop, get_or, ap, ◌∙◌, arith, List, ℕ, subst, sym}
use Rattle.std.proofs.lemmas.List.{take_at}
use Rattle.node_tree.specs.Counting.{total, AreLevels, first_level, levels_after}
use Rattle.node_tree.proofs.CountLevels.{after_all, after_length}
use Rattle.node_tree.proofs.counts.Counts.subtract.Goals as goal

pub invariant_of-self : goal.invariant_of-self
invariant_of-self c =
    let items : List (List ℕ) = c.self.inside.levels.items in
    let new : List (List ℕ) = c.subtract_one.new.levels in
    let long : length new ≡ c.self.inside.levels.len = ap length c.subtract_one.ensures
    ∙ after_length c.args.index c.deref_mut.result.now ∙ c.deref_mut.ensures.len in
    let same : take c.self.inside.levels.len (new ++ drop (length new) items) ≡ levels_after c.args.index items =
    take_at new (drop (length new) items) c.self.inside.levels.len long ∙ c.subtract_one.ensures
    ∙ ap (λ (ls : List (List ℕ)). levels_after c.args.index ls) c.deref_mut.ensures.value in
    let some : 0 < get_or (first_level items) c.args.index 0 =
    subst (λ (xs : List ℕ). 0 < get_or xs c.args.index 0) (sym c.self.view_is) c.requires in
    let all = after_all items c.args.index c.self.invariant.0 some in
    subst (λ (ls : List (List ℕ)). AreLevels (first_level ls) ls × (total (first_level ls) < 2 ^ 63)) (sym same)
    (all.0, omega (arith, all.1, c.self.invariant.1))
