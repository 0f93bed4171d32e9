use Rattle.std.proofs.Common.{◌≡◌, ◌<◌, ◌∙◌, ap, sym, subst, ℕ, List, ◌∷◌, ◌++◌, take, drop, length, false, arith}
use Rattle.std.specs.Prelude.{slice_index_or}
use Rattle.rt_values.specs.Maps.{contains}
use Rattle.snap_ids.specs.IdLists.{with_id}
use Rattle.snap_ids.proofs.Booleans.{not_both}
use Rattle.snap_world.specs.Noting.{noted_by, noted_of, AreNotes}
use Rattle.snap_world.proofs.Noted.{with_has, added_within, added_notes, added_same}
use Rattle.snap_world.proofs.notes.Notes.insert.Goals as goal

pub unreachable-requires : goal.unreachable-requires
unreachable-requires c = not_both (contains c.args.name c.set.new.self)
    (ap (λ (l : List ℕ). contains c.args.name l) c.in-Ok-set.ensures.ok ∙ with_has c.args.name c.self.inside.names)
    c.in_default-find.ensures.none

pub insert-requires : goal.insert-requires
insert-requires c =
    let none : contains c.args.name c.self.inside.names ≡ false =
    subst (λ (v : List ℕ × List (List ℕ)). contains c.args.name v.0 ≡ false) (sym c.self.view_is) c.requires in
    omega (
      arith,
      added_within c.self.invariant c.in-Some.at c.args.name none
          (subst (λ (l : List ℕ). c.in-Some.at < length l) c.in-Ok-set.ensures.ok c.in-Some.ensures.within)
          (subst (λ (l : List ℕ). slice_index_or l c.in-Some.at 0 ≡ c.args.name) c.in-Ok-set.ensures.ok
          c.in-Some.ensures.some),
      c.in-Ok.ensures.len,
      c.self.inside.lists.ok.0,
    )

pub invariant_of-self-2 : goal.invariant_of-self-2
invariant_of-self-2 c =
    let none : contains c.args.name c.self.inside.names ≡ false =
    subst (λ (v : List ℕ × List (List ℕ)). contains c.args.name v.0 ≡ false) (sym c.self.view_is) c.requires in
    let at = c.in-Some.at in
    let new = added_notes c.self.invariant at c.args.name none
    (subst (λ (l : List ℕ). at < length l) c.in-Ok-set.ensures.ok c.in-Some.ensures.within)
    (subst (λ (l : List ℕ). slice_index_or l at 0 ≡ c.args.name) c.in-Ok-set.ensures.ok c.in-Some.ensures.some) in
    let items = c.in-Ok-insert.ensures.items
    ∙ ap (λ (l : List (List ℕ)). take at l ++ c.new.result ∷ drop at l) c.in-Ok.ensures.items
    ∙ ap (λ (x : List ℕ). take at c.self.inside.lists.items ++ x ∷ drop at c.self.inside.lists.items) c.new.ensures in
    subst (λ (l : List ℕ). AreNotes l c.insert.new.self.items) (sym c.in-Ok-set.ensures.ok)
    (subst (λ (l : List (List ℕ)). AreNotes (with_id c.args.name c.self.inside.names) l) (sym items) new)

pub returns-clause-same : goal.returns-clause-same
returns-clause-same c = λ n.
    let none : contains c.args.name c.self.inside.names ≡ false =
    subst (λ (v : List ℕ × List (List ℕ)). contains c.args.name v.0 ≡ false) (sym c.self.view_is) c.requires in
    let at = c.in-Some.at in
    let same = added_same c.self.invariant at c.args.name none
    (subst (λ (l : List ℕ). at < length l) c.in-Ok-set.ensures.ok c.in-Some.ensures.within)
    (subst (λ (l : List ℕ). slice_index_or l at 0 ≡ c.args.name) c.in-Ok-set.ensures.ok c.in-Some.ensures.some) n in
    let items = c.in-Ok-insert.ensures.items
    ∙ ap (λ (l : List (List ℕ)). take at l ++ c.new.result ∷ drop at l) c.in-Ok.ensures.items
    ∙ ap (λ (x : List ℕ). take at c.self.inside.lists.items ++ x ∷ drop at c.self.inside.lists.items) c.new.ensures in
    ap (λ (l : List ℕ). noted_by l c.insert.new.self.items n) c.in-Ok-set.ensures.ok
    ∙ ap (λ (l : List (List ℕ)). noted_by (with_id c.args.name c.self.inside.names) l n) items ∙ same
    ∙ ap (λ (v : List ℕ × List (List ℕ)). noted_of v n) c.self.view_is
