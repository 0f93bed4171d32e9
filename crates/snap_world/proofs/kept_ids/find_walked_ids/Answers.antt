use Rattle.std.proofs.Common.{◌≡◌, ℕ, ◌+◌, ◌≤◌, ◌==◌, ◌||◌, ◌∷◌, Bool, List, [], length, take, drop, refl, sym, ap, ◌∙◌, subst, true, false, arith, inl, inr}
use Rattle.std.proofs.Math.ListN.{drop_of_length-le}
use Rattle.std.proofs.lemmas.List.{drop_more}
use Rattle.std.specs.Prelude.{slice_index_or}
use Rattle.rt_values.specs.Maps.{contains}
use Rattle.snap_ids.proofs.Booleans.{same_or_other, not_both}
use Rattle.snap_ids.specs.IdLists.{IsRising}
use Rattle.snap_nested.specs.Ids.{valid_for_base}
use Rattle.snap_nested.specs.Members.{ids_of}
use Rattle.snap_records.specs.Chains.{chain_of}
use Rattle.snap_reuse.specs.Readers.{IsReadWithin}
use Rattle.snap_laws.specs.Coverage.{own, live_count}
use Rattle.std.proofs.lemmas.List.{take_all}
use Rattle.std.proofs.lemmas.Bool.Decides.{Decides-eqb}
use Rattle.snap_world.proofs.Needed.{live_more, two_each}
use Rattle.snap_world.proofs.Reading.{left_out, one_listed}
use Rattle.snap_world.proofs.kept_ids.find_walked_ids.Goals as goal

only_one : (i id : ℕ) (ids : List ℕ) → ids ≡ id ∷ [] → contains i ids ≡ true → i ≡ id
only_one i id ids is h =
    sym ((Decides-eqb id i).0 (first (id == i) (sym (ap (λ (l : List ℕ). contains i l) is) ∙ h))) where
      first : (b : Bool) → (b || false) ≡ true → b ≡ true
      first true h = refl
      first false h = absurd cc

pub loop-index-init : goal.loop-index-init
loop-index-init c =
    let s = c.args.family.now in
    let open_name = λ (n : ℕ) (live : (ids_of s.members).live n ≡ true). ap (λ (l : List ℕ). contains n l)
    c.open_names-readers.ensures.names ∙ s.listed.live n live in
    record {
      own = one_listed _ _ c.set_only.new.self c.id.ensures.id c.in_ok-set_only.ensures.ok;
      needed = λ i h. own (only_one i c.id.result c.set_only.new.self c.in_ok-set_only.ensures.ok h ∙ c.id.ensures.id);
      few = omega (arith, ap (λ (l : List ℕ). length l) c.in_ok-set_only.ensures.ok);
      views = λ n live other out. absurd (not_both (contains n c.open_names-readers.result.now) (open_name n live)
          out);
      bases = λ n live inner out. absurd (not_both (contains n c.open_names-readers.result.now) (open_name n live)
          out);
    }

pub loop-index-preserved : goal.loop-index-preserved
loop-index-preserved c =
    let items = c.open_names-readers.result.now in
    let at = c.loop-index.index in
    let reader = slice_index_or items at 0 in
    let f = ids_of c.args.family.now.members in
    let chain = chain_of c.args.chains.now c.args.x in
    let inv = c.loop-index.invariant in
    let still = λ (n : ℕ) (other : n ≡ reader
    → ⊥) (out : contains n (drop (at + 1) items) ≡ false). ap (λ (l : List ℕ). contains n l)
    (drop_more items at 0 c.loop-index-test.true) ∙ left_out reader n (drop (at + 1) items) other out in
    record {
      own = c.add_read_ids.ensures.more _ inv.own;
      needed = λ i h. elim (c.in_ok-add_read_ids.ensures.needed i h) [ inl t ↦ inv.needed i t | inr t ↦ t ];
      few = two_each (f.live reader) (live_count f.live (take at items)) (live_count f.live (take (at + 1) items))
          (length c.loop-index.ids) (length c.add_read_ids.new.ids) (live_more f.live items at c.loop-index-test.true)
          inv.few c.in_ok-add_read_ids.ensures.few;
      views = λ n live other out. elim (same_or_other n reader) [
        | inl e ↦ subst (λ (k : ℕ). IsReadWithin (f.sees k) chain c.add_read_ids.new.ids) (sym e)
            (c.in_ok-add_read_ids.ensures.view (subst (λ (k : ℕ). f.live k ≡ true) e live) (λ same. other (e ∙ same)))
        | inr e ↦ λ i h. c.add_read_ids.ensures.more i (inv.views n live other (still n e out) i h)
      ];
      bases = λ n live inner out. elim (same_or_other n reader) [
        | inl e ↦ subst (λ (k : ℕ). IsReadWithin (valid_for_base f k) chain c.add_read_ids.new.ids) (sym e)
            (c.in_ok-add_read_ids.ensures.base (subst (λ (k : ℕ). f.live k ≡ true) e live) (omega (arith, e, inner)))
        | inr e ↦ λ i h. c.add_read_ids.ensures.more i (inv.bases n live inner (still n e out) i h)
      ];
    }

pub returns-clause-read : goal.returns-clause-read
returns-clause-read c =
    let items = c.open_names-readers.result.now in
    let none : drop c.loop-index.index items ≡ [] =
    drop_of_length-le items (omega (arith, c.loop-index-test.false)) in
    record {
      views = λ n live other. c.loop-index.invariant.views n live other (ap (λ (l : List ℕ). contains n l) none);
      bases = λ n live inner. c.loop-index.invariant.bases n live inner (ap (λ (l : List ℕ). contains n l) none);
    }

pub returns-clause-few : goal.returns-clause-few
returns-clause-few c =
    let items = c.open_names-readers.result.now in
    let f = ids_of c.args.family.now.members in
    let end : length items ≤ c.loop-index.index = omega (arith, c.loop-index-test.false) in
    let whole : live_count f.live (take c.loop-index.index items) ≡ live_count f.live c.args.family.now.held =
    ap (λ (l : List ℕ). live_count f.live l)
    (take_all c.loop-index.index items end ∙ c.open_names-readers.ensures.names) in
    omega (arith, whole, c.loop-index.invariant.few)

pub returns-clause-names : goal.returns-clause-names
returns-clause-names c = record {
  rising = subst IsRising c.open_names-readers.ensures.names c.open_names-readers.ensures.rising;
  all = c.args.family.now.listed.live;
}
