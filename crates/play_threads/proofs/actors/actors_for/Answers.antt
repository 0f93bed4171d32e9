use Rattle.std.proofs.Common.{◌≡◌, ◌++◌, ◌∷◌, [], ◌∙◌, ap, sym, append_assoc, arith, length, length-append, suc, map}
use Rattle.std.proofs.lemmas.List.{map_push, length-map}
use Rattle.snap_shared.specs.SharedCalls.{numbers_below}
use Rattle.play_threads.specs.declared.actors.Actor.{Actor}
use Rattle.play_threads.proofs.actors.actors_for.Goals as goal

pub loop-seat-preserved : goal.loop-seat-preserved
loop-seat-preserved g c =
    let inv = c.loop-seat.invariant in
    let x = c.in-Some.seat in
    let ys = c.loop-seat.yielded in
    let old = c.loop-seat.actors.items in
    let many : length old ≡ length ys = sym (length-map old (λ (y : Actor g.row.V.Denot). y.seat))
    ∙ ap (λ l. length l) inv.1 in
    let here : c.len-number.result ≡ length ys = omega (arith, many, c.len-number.ensures, c.loop-seat.actors.ok.0) in
    let longer : length (ys ++ x ∷ []) ≡ suc (length ys) = omega (arith, length-append ys (x ∷ [])) in (
      inv.0 ∙ ap (λ l. ys ++ l) c.in-Some.ensures.steps.0 ∙ sym (append_assoc ys (x ∷ []) c.next.new.self.rest.items),
      ap (λ l. map (λ (y : Actor g.row.V.Denot). y.seat) l) c.in-Ok.ensures
          ∙ map_push (λ (y : Actor g.row.V.Denot). y.seat) old _ ∙ ap (λ l. l ++ x ∷ []) inv.1,
      ap (λ l. map (λ (y : Actor g.row.V.Denot). y.number) l) c.in-Ok.ensures
          ∙ map_push (λ (y : Actor g.row.V.Denot). y.number) old _ ∙ ap (λ l. l ++ c.len-number.result ∷ []) inv.2
          ∙ ap (λ n. numbers_below (length ys) ++ n ∷ []) here ∙ sym (ap numbers_below longer),
    )
