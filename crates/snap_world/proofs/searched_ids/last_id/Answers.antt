use Rattle.std.proofs.Common.{ℕ, length, subst, sym, ◌∙◌, true}
use Rattle.std.proofs.lemmas.Bool.Decides.{Decides-eqb}
use Rattle.snap_world.specs.Sorted.{IsLastSeen}
use Rattle.snap_world.proofs.Searching.{all_seen, highest_none, highest_last}
use Rattle.snap_world.proofs.Sorted.{above}
use Rattle.snap_world.proofs.searched_ids.last_id.Goals as goal

pub returns-then-is_empty : goal.returns-then-is_empty
returns-then-is_empty c =
    let ids = c.args.ids.now in
    highest_none (λ i. true) ids (subst (λ (n : ℕ). IsLastSeen (λ i. true) ids n)
    ((Decides-eqb (length ids) 0).0 (sym c.is_empty.ensures ∙ c.if-is_empty.true)) (all_seen ids))

pub returns : goal.returns
returns c =
    let ids = c.args.ids.now in
    highest_last (λ i. true) ids (length ids) c.requires (all_seen ids)
    (above (length ids) (sym c.is_empty.ensures ∙ c.if-is_empty.false))
