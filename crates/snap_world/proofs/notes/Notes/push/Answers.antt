use Rattle.std.proofs.Common.{◌≡◌, ◌∙◌, ap, sym, subst, ℕ, List, [], ◌∷◌, ◌++◌, true}
use Rattle.rt_values.specs.Maps.{contains}
use Rattle.snap_ids.proofs.Booleans.{not_both}
use Rattle.snap_world.specs.Noting.{noted_of}
use Rattle.snap_world.proofs.Noted.{noted_item, set_here, set_others}
use Rattle.snap_world.proofs.notes.Notes.push.Goals as goal

pub unreachable-requires : goal.unreachable-requires
unreachable-requires c = not_both (contains c.args.name c.self.inside.names)
    (subst (λ (v : List ℕ × List (List ℕ)). contains c.args.name v.0 ≡ true) (sym c.self.view_is) c.requires)
    c.in_default.ensures.none

pub returns-clause-here : goal.returns-clause-here
returns-clause-here c =
    let l = c.index_mut.result.now in
    set_here c.self.invariant c.in-Some.at c.args.name c.in-Some.ensures.within c.in-Some.ensures.some c.push.new.self
    ∙ c.in-Ok.ensures.ok
    ∙ ap (λ (xs : List ℕ). xs ++ c.args.object ∷ []) (noted_item c.self.invariant c.in-Some.at c.args.name
    c.in-Some.ensures.within c.in-Some.ensures.some l c.index_mut.ensures.value
    ∙ ap (λ (v : List ℕ × List (List ℕ)). noted_of v c.args.name) c.self.view_is)

pub returns-clause-others : goal.returns-clause-others
returns-clause-others c = λ n other. set_others c.self.invariant c.in-Some.at c.args.name c.in-Some.ensures.within
    c.in-Some.ensures.some c.push.new.self n other
    ∙ ap (λ (v : List ℕ × List (List ℕ)). noted_of v n) c.self.view_is
