use Rattle.std.proofs.Common.{◌∙◌, ap, sym, subst, ℕ, List}
use Rattle.snap_ids.specs.IdLists.{without_id}
use Rattle.snap_world.specs.Noting.{noted_by, noted_of, AreNotes}
use Rattle.snap_world.proofs.Noted.{unnoted, removed_notes, removed_here, removed_others}
use Rattle.snap_world.proofs.notes.Notes.remove.Goals as goal

pub invariant_of-self : goal.invariant_of-self
invariant_of-self c = subst (λ (l : List ℕ). AreNotes l c.remove.new.self.items) (sym c.clear.ensures)
    (subst (λ (l : List (List ℕ)). AreNotes (without_id c.args.name c.self.inside.names) l)
    (sym c.remove.ensures.items)
    (removed_notes c.self.invariant c.in-Some.at c.args.name c.in-Some.ensures.within c.in-Some.ensures.some))

pub returns-in-Some-clause-here : goal.returns-in-Some-clause-here
returns-in-Some-clause-here c =
    ap (λ (l : List ℕ). noted_by l c.remove.new.self.items c.args.name) c.clear.ensures
    ∙ ap (λ (l : List (List ℕ)). noted_by (without_id c.args.name c.self.inside.names) l c.args.name)
    c.remove.ensures.items
    ∙ removed_here c.self.invariant c.in-Some.at c.args.name c.in-Some.ensures.within c.in-Some.ensures.some

pub returns-in-Some-clause-others : goal.returns-in-Some-clause-others
returns-in-Some-clause-others c = λ n other.
    ap (λ (l : List ℕ). noted_by l c.remove.new.self.items n) c.clear.ensures
    ∙ ap (λ (l : List (List ℕ)). noted_by (without_id c.args.name c.self.inside.names) l n) c.remove.ensures.items
    ∙ removed_others c.self.invariant c.in-Some.at c.args.name c.in-Some.ensures.within c.in-Some.ensures.some n other
    ∙ ap (λ (v : List ℕ × List (List ℕ)). noted_of v n) c.self.view_is

pub returns-in_default-clause-here : goal.returns-in_default-clause-here
returns-in_default-clause-here c =
    sym (ap (λ (v : List ℕ × List (List ℕ)). noted_of v c.args.name) c.self.view_is)
    ∙ unnoted c.self.inside.names c.self.inside.lists.items c.args.name c.in_default.ensures.none
