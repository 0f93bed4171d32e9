use Rattle.std.proofs.Common.{◌≡◌, ℕ, ◌≤◌, ◌==◌, List, length, take, refl, sym, ap, ◌∙◌, Some, Bool, true, false, ◌||◌, inl, inr, arith}
use Rattle.std.proofs.lemmas.Bool.Decides.{Decides-eqb}
use Rattle.std.proofs.lemmas.List.{take_all, length-map}
use Rattle.std.proofs.lemmas.Option.{slice_get_read}
use Rattle.std.specs.Prelude.{slice_index_or, slice_get}
use Rattle.rt_values.specs.Maps.{contains}
use Rattle.rt_values.specs.declared.maps.StampedValue.{StampedValue}
use Rattle.snap_ids.proofs.Booleans.{same_or_other, or_true}
use Rattle.snap_world.specs.Choices.{objects_of}
use Rattle.snap_world.specs.declared.settling.Settled.{Settled}
use Rattle.snap_world.proofs.Settled.{contains_object}
use Rattle.snap_world.proofs.moving.set_stamps.Goals as goal

pub loop-s-preserved : goal.loop-s-preserved
loop-s-preserved c =
    let xs = c.args.settled.now in
    let at = c.loop-s.s-index in
    let s : Settled = c.s-item.result in
    let there : slice_get xs at ≡ Some s = slice_get_read xs (length xs) at s refl c.loop-s-test.true c.s-item.is in
    record {
      put = λ f are x small listed. elim (same_or_other x s.object) [
        | inl e ↦ ap (λ (n : ℕ). slice_index_or c.set_stamp.new.stamps.items n 0) e
            ∙ c.set_stamp.ensures.here (omega (arith, small, e, c.loop-s.invariant.many))
            ∙ ap (λ (d : StampedValue). d.stamp) (are at s there) ∙ ap (λ (n : ℕ). (f n).stamp) (sym e)
        | inr e ↦ c.set_stamp.ensures.others x e
            ∙ elim (or_true (contains x (take at (objects_of xs))) (s.object == x)
            (sym (contains_object x xs at s there) ∙ listed)) [
              | inl before ↦ c.loop-s.invariant.put f are x small before
              | inr same ↦ absurd (e (sym ((Decides-eqb s.object x).0 same)))
            ]
      ];
      left = λ x unlisted. elim (same_or_other x s.object) [
        | inl e ↦ absurd (clash (contains x (take at (objects_of xs))) (s.object == x)
            ((Decides-eqb s.object x).1 (sym e)) (sym (contains_object x xs at s there) ∙ unlisted))
        | inr e ↦ c.set_stamp.ensures.others x e
            ∙ c.loop-s.invariant.left x (first (contains x (take at (objects_of xs))) (s.object == x)
            (sym (contains_object x xs at s there) ∙ unlisted))
      ];
      many = c.set_stamp.ensures.many ∙ c.loop-s.invariant.many;
    } where
      clash : (a b : Bool) → b ≡ true → (a || b) ≡ false → ⊥
      clash true b h k = cc
      clash false b h k = cc

      first : (a b : Bool) → (a || b) ≡ false → a ≡ false
      first true b h = absurd cc
      first false b h = refl

pub returns-clause-put : goal.returns-clause-put
returns-clause-put c = λ f are x small listed.
    let xs = c.args.settled.now in
    let end : length (objects_of xs) ≤ c.loop-s.s-index =
    omega (arith, c.loop-s-test.false, length-map xs (λ (t : Settled). t.object)) in
    c.loop-s.invariant.put f are x small
    (ap (λ (l : List ℕ). contains x l) (take_all c.loop-s.s-index (objects_of xs) end) ∙ listed)
