use Rattle.std.proofs.Common.{◌≡◌, subst, ℕ, List, []}
use Rattle.snap_world.specs.Noting.{noted_of}
use Rattle.snap_world.proofs.Noted.{unnoted, noted_item}
use Rattle.snap_world.proofs.notes.Notes.find.Goals as goal

pub returns-in-Some-clause-some : goal.returns-in-Some-clause-some
returns-in-Some-clause-some c = subst (λ (v : List ℕ × List (List ℕ)). c.index.result.now ≡ noted_of v c.args.name)
    c.self.view_is (noted_item c.self.invariant c.in-Some.at c.args.name c.in-Some.ensures.within c.in-Some.ensures.some
    c.index.result.now c.index.ensures)

pub returns-in-None-clause-none : goal.returns-in-None-clause-none
returns-in-None-clause-none c = subst (λ (v : List ℕ × List (List ℕ)). noted_of v c.args.name ≡ []) c.self.view_is
    (unnoted c.self.inside.names c.self.inside.lists.items c.args.name c.in-None.ensures.none)
