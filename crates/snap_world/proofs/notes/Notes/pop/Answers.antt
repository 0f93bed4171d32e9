use Rattle.std.proofs.Common.{◌≡◌, ◌∙◌, ap, sym, subst, ℕ, List, true}
use Rattle.rt_values.specs.Maps.{contains}
use Rattle.snap_ids.proofs.Booleans.{not_both}
use Rattle.snap_world.specs.Noting.{noted_of}
use Rattle.snap_world.proofs.Noted.{noted_item, set_here, set_others}
use Rattle.snap_world.proofs.notes.Notes.pop.Goals as goal

pub unreachable-requires : goal.unreachable-requires
unreachable-requires c = not_both (contains c.args.name c.self.inside.names)
    (subst (λ (v : List ℕ × List (List ℕ)). contains c.args.name v.0 ≡ true) (sym c.self.view_is) c.requires)
    c.in_default.ensures.none

pub returns-clause-last : goal.returns-clause-last
returns-clause-last c = λ xs x same.
    let l = c.index_mut.result.now in
    set_here c.self.invariant c.in-Some.at c.args.name c.in-Some.ensures.within c.in-Some.ensures.some c.pop.new.self
    ∙ c.pop.ensures.last xs x (noted_item c.self.invariant c.in-Some.at c.args.name c.in-Some.ensures.within
    c.in-Some.ensures.some l c.index_mut.ensures.value
    ∙ ap (λ (v : List ℕ × List (List ℕ)). noted_of v c.args.name) c.self.view_is ∙ same)

pub returns-clause-others : goal.returns-clause-others
returns-clause-others c = λ n other. set_others c.self.invariant c.in-Some.at c.args.name c.in-Some.ensures.within
    c.in-Some.ensures.some c.pop.new.self n other
    ∙ ap (λ (v : List ℕ × List (List ℕ)). noted_of v n) c.self.view_is
