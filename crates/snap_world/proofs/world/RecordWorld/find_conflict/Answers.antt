use Rattle.std.proofs.Common.{◌≡◌, ℕ, ◌+◌, ◌≤◌, List, length, take, sym, ap, ◌∙◌, subst, Option, Bool, true, arith}
use Rattle.std.proofs.lemmas.List.{take_all}
use Rattle.std.specs.Prelude.{slice_index_or}
use Rattle.rt_values.specs.Maps.{contains}
use Rattle.snap_ids.proofs.IdLists.{contains-at}
use Rattle.snap_api.specs.Choices.{is_clash}
use Rattle.snap_laws.specs.Applies.{choice_at}
use Rattle.snap_world.specs.Noting.{noted_of}
use Rattle.snap_world.specs.Choices.{IsLeast}
use Rattle.snap_world.specs.Holding.{world_parts}
use Rattle.snap_world.proofs.Settled.{least_more}
use Rattle.snap_world.proofs.world.RecordWorld.find_conflict.Goals as goal

pub returns-then-x-len-clause-free : goal.returns-then-x-len-clause-free
returns-then-x-len-clause-free g c = λ w s inner free.
    let items = c.noted-x-items.result.now in
    let x : ℕ = slice_index_or items c.loop-x.x-index 0 in
    let eq : items ≡ noted_of c.args.self.now.wrote c.args.name = c.noted-x-items.ensures in
    let listed : contains x (noted_of c.args.self.now.wrote c.args.name) ≡ true =
    ap (λ (l : List ℕ). contains x l) (sym eq) ∙ contains-at items c.loop-x.x-index c.loop-x-test.true in
    absurd (omega (
      arith,
      s.within c.args.name x c.requires.live listed,
      c.if-x-len.true,
      c.len.ensures,
      c.args.self.now.objects.ok.0,
    ))

pub returns-in_default-clause-free : goal.returns-in_default-clause-free
returns-in_default-clause-free g c = λ w s inner free.
    let items = c.noted-x-items.result.now in
    let x : ℕ = slice_index_or items c.loop-x.x-index 0 in
    let eq : items ≡ noted_of c.args.self.now.wrote c.args.name = c.noted-x-items.ensures in
    let listed : contains x (noted_of c.args.self.now.wrote c.args.name) ≡ true =
    ap (λ (l : List ℕ). contains x l) (sym eq) ∙ contains-at items c.loop-x.x-index c.loop-x-test.true in
    c.in_default.ensures.free w s inner (free x listed)

pub loop-x-preserved : goal.loop-x-preserved
loop-x-preserved g c =
    let items = c.noted-x-items.result.now in
    let test : ℕ → Bool = λ x. is_clash (choice_at g.P.Policy.rules (world_parts c.args.self.now) c.args.name c.args.into
    x) in
    subst (λ (o : Option ℕ). IsLeast test (take (c.loop-x.x-index + 1) items) o) (sym c.lesser-least.ensures)
    (least_more test items c.loop-x.x-index c.in-Ok.found c.loop-x.least c.loop-x-test.true (sym c.in-Ok.ensures.is)
    c.loop-x.invariant)

pub returns-clause-is : goal.returns-clause-is
returns-clause-is g c =
    let items = c.noted-x-items.result.now in
    let test : ℕ → Bool = λ x. is_clash (choice_at g.P.Policy.rules (world_parts c.args.self.now) c.args.name c.args.into
    x) in
    let eq : items ≡ noted_of c.args.self.now.wrote c.args.name = c.noted-x-items.ensures in
    let end : length items ≤ c.loop-x.x-index = omega (arith, c.loop-x-test.false) in
    subst (λ (l : List ℕ). IsLeast test l c.loop-x.least) (take_all c.loop-x.x-index items end ∙ eq) c.loop-x.invariant
