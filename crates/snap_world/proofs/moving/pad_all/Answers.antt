use Rattle.std.proofs.Common.{◌≡◌, ℕ, ◌≤◌, ◌==◌, List, length, take, refl, sym, ap, ◌∙◌, Some, inl, inr, arith}
use Rattle.std.proofs.lemmas.Bool.Decides.{Decides-eqb}
use Rattle.std.proofs.lemmas.List.{take_all, length-map}
use Rattle.std.proofs.lemmas.Option.{slice_get_read}
use Rattle.std.specs.Prelude.{slice_get}
use Rattle.rt_values.specs.Maps.{contains}
use Rattle.rt_values.specs.declared.maps.StampedValue.{StampedValue}
use Rattle.snap_ids.proofs.Booleans.{same_or_other, or_true}
use Rattle.snap_world.specs.Choices.{objects_of}
use Rattle.snap_world.specs.declared.settling.Settled.{Settled}
use Rattle.snap_world.proofs.Settled.{contains_object}
use Rattle.snap_records.specs.Records.{Rec}
use Rattle.snap_records.specs.Edits.{blank}
use Rattle.snap_records.specs.Chains.{chain_of}
use Rattle.snap_records.proofs.Padding.{padded_both}
use Rattle.snap_world.proofs.moving.pad_all.Goals as goal

pub loop-s-preserved : goal.loop-s-preserved
loop-s-preserved c =
    let xs = c.args.settled.now in
    let at = c.loop-s.s-index in
    let s : Settled = c.s-item.result in
    let there : slice_get xs at ≡ Some s = slice_get_read xs (length xs) at s refl c.loop-s-test.true c.s-item.is in
    let old = chain_of c.loop-s.chains in
    let new = chain_of c.pad_at.new.chains in
    record {
      padded = λ x. padded_both (chain_of c.args.chains.now x) (old x) (new x) (c.loop-s.invariant.padded x)
          (c.pad_at.ensures.padded x);
      head = λ f are x small listed. elim (same_or_other x s.object) [
        | inl e ↦ ap (λ (n : ℕ). slice_get (new n) 0) e
            ∙ c.in-Ok.ensures.head (omega (arith, small, e, c.loop-s.invariant.many))
            ∙ ap (λ (d : StampedValue). Some (blank d)) (are at s there) ∙ ap (λ (n : ℕ). Some (blank (f n))) (sym e)
        | inr e ↦ ap (λ (l : List Rec). slice_get l 0) (c.pad_at.ensures.others x e)
            ∙ elim (or_true (contains x (take at (objects_of xs))) (s.object == x)
            (sym (contains_object x xs at s there) ∙ listed)) [
              | inl before ↦ c.loop-s.invariant.head f are x small before
              | inr same ↦ absurd (e (sym ((Decides-eqb s.object x).0 same)))
            ]
      ];
      many = c.pad_at.ensures.many ∙ c.loop-s.invariant.many;
    }

pub returns-clause-head : goal.returns-clause-head
returns-clause-head c = λ f are x small listed.
    let xs = c.args.settled.now in
    let end : length (objects_of xs) ≤ c.loop-s.s-index =
    omega (arith, c.loop-s-test.false, length-map xs (λ (t : Settled). t.object)) in
    c.loop-s.invariant.head f are x small
    (ap (λ (l : List ℕ). contains x l) (take_all c.loop-s.s-index (objects_of xs) end) ∙ listed)
