use Rattle.std.proofs.Common.{◌≡◌, ◌++◌, ◌∷◌, [], ◌∙◌, ap, sym, true, false, append_assoc, arith}
use Rattle.std.proofs.lemmas.List.{map_push}
use Rattle.std.proofs.lemmas.List.Elements.{All-push}
use Rattle.play_threads.specs.declared.actors.Actor.{Actor}
use Rattle.play_threads.proofs.actors.seats_of.Goals as goal
use Rattle.play_threads.proofs.actors.seats_of.Goals.{then-any_short, else-any_short}

pub loop-actor-preserved : goal.loop-actor-preserved
loop-actor-preserved g c =
    let inv = c.loop-actor.invariant in
    let x = c.in-Some.actor in
    let ys = c.loop-actor.yielded in (
      inv.0 ∙ ap (λ l. ys ++ l) c.in-Some.ensures.steps.0 ∙ sym (append_assoc ys (x ∷ []) c.next.new.self.rest.items),
      c.push_reserved.ensures.items ∙ ap (λ l. l ++ x.seat ∷ []) inv.1
          ∙ sym (map_push (λ (y : Actor g.row.V.Denot). y.seat) ys x),
      omega (arith, inv.2, c.push_reserved.ensures.capacity),
      λ none.
          let both : (c.loop-actor.any_short ≡ false) × (x.short ≡ false) = elim c.if-any_short.branch [
            | then-any_short w ↦ (let e : true ≡ false = sym w.if-any_short.true ∙ sym w.any_short-is ∙ none in
                absurd cc)
            | else-any_short w ↦ (w.if-any_short.false, sym w.any_short-is ∙ none)
          ] in
          All-push (λ (y : Actor g.row.V.Denot). y.short ≡ false) ys x (inv.3 both.0) both.1,
    )
