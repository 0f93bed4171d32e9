use Rattle.std.proofs.Common.{◌≡◌, ℕ, List, sym, subst, true, inl, inr}
use Rattle.rt_values.specs.Maps.{contains}
use Rattle.snap_nested.specs.Ids.{valid_for_base}
use Rattle.snap_nested.specs.Members.{ids_of}
use Rattle.snap_records.specs.Edits.{readable}
use Rattle.snap_reuse.specs.Readers.{has_id}
use Rattle.snap_laws.specs.Coverage.{view, base}
use Rattle.snap_world.specs.Sorted.{IsHighest}
use Rattle.snap_world.proofs.Searching.{view_over, found_highest, highest_found}
use Rattle.snap_world.proofs.Sorted.{view_reader, base_reader, unlike, positive, differs, above}
use Rattle.snap_world.proofs.searched_ids.add_live_ids.Goals as goal

pub returns-clause-view : goal.returns-clause-view
returns-clause-view c = λ chain found other i h.
    let ms = c.args.family.now.members in
    let high : IsHighest ((ids_of ms).sees c.args.reader) found.order c.higher-view.result = view_over
    c.args.family.now.sound.sound c.requires.live found.found.own (subst (λ (l : List ℕ). IsHighest (λ j. true) l c.last_id.result) c.ids.ensures.ids c.last_id.ensures)
    (found.found.base found.owned) c.higher-view.ensures.first c.higher-view.ensures.second c.higher-view.ensures.one in
    let p = found_highest (view_reader ms c.args.reader c.requires.live) found.ids high i h in
    c.in_ok-add_unless-2.ensures.more i (subst (λ (n : ℕ). contains n c.add_unless.new.ids ≡ true) p.1
    (c.in_ok-add_unless.ensures.added (unlike c.args.reader c.args.name other) p.0))

pub returns-clause-base : goal.returns-clause-base
returns-clause-base c = λ chain found inner i h.
    let ms = c.args.family.now.members in
    let p = found_highest (base_reader ms c.args.reader c.requires.live) found.ids (found.found.base found.owned) i h in
    subst (λ (n : ℕ). contains n c.add_unless-2.new.ids ≡ true) p.1
    (c.in_ok-add_unless-2.ensures.added (unlike c.args.reader 0 (positive c.args.reader inner)) p.0)

pub returns-clause-needed : goal.returns-clause-needed
returns-clause-needed c = λ chain found i h.
    let ms = c.args.family.now.members in
    let f = ids_of ms in
    let n = c.args.reader in
    let of_base = found.found.base found.owned in
    let of_view : IsHighest (f.sees n) found.order c.higher-view.result = view_over
    c.args.family.now.sound.sound c.requires.live found.found.own (subst (λ (l : List ℕ). IsHighest (λ j. true) l c.last_id.result) c.ids.ensures.ids c.last_id.ensures) of_base
    c.higher-view.ensures.first c.higher-view.ensures.second c.higher-view.ensures.one in
    elim (c.in_ok-add_unless-2.ensures.only i h) [
      | inl t ↦ elim (c.in_ok-add_unless.ensures.only i t) [
        | inl u ↦ inl u
        | inr u ↦ inr (view n c.requires.live (differs n c.args.name u.0)
            (subst (λ (j : ℕ). has_id j (readable (f.sees n) chain) ≡ true) (sym u.2)
            (highest_found (view_reader ms n c.requires.live) found.ids of_view u.1)))
      ]
      | inr t ↦ inr (base n c.requires.live (above n t.0)
          (subst (λ (j : ℕ). has_id j (readable (valid_for_base f n) chain) ≡ true) (sym t.2)
          (highest_found (base_reader ms n c.requires.live) found.ids of_base t.1)))
    ]
