use Rattle.std.proofs.Common.{◌==◌, arith, refl, ◌∙◌, sym, inl, inr}
use Rattle.std.proofs.lemmas.Bool.Decides.{Decides-eqb}
use Rattle.rt_values.specs.Maps.{contains}
use Rattle.snap_ids.proofs.Booleans.{or_left, or_right, or_true}
use Rattle.snap_world.proofs.searched_ids.add_unless.Goals as goal

pub returns-clause-more : goal.returns-clause-more
returns-clause-more c = λ i h.
    c.in_ok-add.ensures.ok i ∙ or_left (contains i c.args.ids.now) (i == c.args.id) h

pub returns-clause-added : goal.returns-clause-added
returns-clause-added c = λ skip positive.
    let id = c.args.id in
    c.in_ok-add.ensures.ok id ∙ or_right (contains id c.args.ids.now) (id == id) ((Decides-eqb id id).1 refl)

pub returns-clause-only : goal.returns-clause-only
returns-clause-only c = λ i h.
    elim (or_true (contains i c.args.ids.now) (i == c.args.id) (sym (c.in_ok-add.ensures.ok i) ∙ h)) [
      | inl t ↦ inl t
      | inr t ↦ inr (c.if-skip.false, omega (arith, c.if-id-eq0.false), (Decides-eqb i c.args.id).0 t)
    ]
