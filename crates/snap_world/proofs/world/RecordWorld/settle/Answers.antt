use Rattle.std.proofs.Common.{◌≡◌, ℕ, ◌≤◌, ◌<◌, List, [], ◌∷◌, ◌++◌, length, take, sym, ap, ◌∙◌, subst, arith, inl, inr}
use Rattle.std.proofs.lemmas.List.{take_all, take_more, map-append}
use Rattle.std.specs.Prelude.{slice_get}
use Rattle.snap_laws.specs.Applies.{choice_at}
use Rattle.snap_world.specs.Noting.{noted_of}
use Rattle.snap_world.specs.Choices.{objects_of, choice_of_settled}
use Rattle.snap_world.specs.Holding.{world_parts}
use Rattle.snap_world.specs.declared.settling.Settled.{Settled}
use Rattle.snap_world.proofs.Settled.{get_last}
use Rattle.snap_world.proofs.world.RecordWorld.settle.Goals as goal

pub loop-x-preserved : goal.loop-x-preserved
loop-x-preserved g c =
    let items = c.noted-x-items.result.now in
    let at = c.loop-x.x-index in
    let h = world_parts c.args.self.now in
    let before : List Settled = c.loop-x.settled.items in
    let one : Settled = c.in-Some.one in
    let e : c.push.new.self.items ≡ before ++ one ∷ [] = c.in-Ok-push.ensures.items in
    record {
      objects = ap objects_of e ∙ map-append (λ (s : Settled). s.object) before (one ∷ [])
          ∙ ap (λ (l : List ℕ). l ++ one.object ∷ []) c.loop-x.invariant.objects
          ∙ ap (λ (y : ℕ). take at items ++ y ∷ []) c.in-Some.ensures.object
          ∙ sym (take_more items at 0 c.loop-x-test.true);
      each = λ k s there. elim (get_last before one k s (ap (λ (l : List Settled). slice_get l k) (sym e) ∙ there)) [
        | inl old ↦ c.loop-x.invariant.each k s old
        | inr same ↦ subst (λ (t : Settled). (choice_of_settled t
            ≡ choice_at g.P.Policy.rules h c.args.name c.args.into t.object) × (t.object < length h.objects)) same (
              c.in-Some.ensures.choice ∙ c.in-Ok.ensures
                  ∙ ap (λ (y : ℕ). choice_at g.P.Policy.rules h c.args.name c.args.into y) (sym c.in-Some.ensures.object),
              omega (arith, c.if-x-len.false, c.len.ensures, c.args.self.now.objects.ok.0, c.in-Some.ensures.object),
            )
      ];
    }

pub returns-clause-objects : goal.returns-clause-objects
returns-clause-objects g c =
    let items = c.noted-x-items.result.now in
    let eq : items ≡ noted_of c.args.self.now.wrote c.args.name = c.noted-x-items.ensures in
    let end : length items ≤ c.loop-x.x-index = omega (arith, c.loop-x-test.false) in
    c.loop-x.invariant.objects ∙ take_all c.loop-x.x-index items end ∙ eq
