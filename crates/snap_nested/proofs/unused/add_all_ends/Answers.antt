use Rattle.std.proofs.Common.{◌≡◌, ◌∙◌, sym, ap, subst, arith, ℕ, List, true, inl, inr}
use Rattle.std.proofs.lemmas.Bool.Decides.{eqb_tells}
use Rattle.std.specs.Prelude.{slice_index_or}
use Rattle.rt_values.specs.Maps.{contains}
use Rattle.snap_nested.specs.Members.{member}
use Rattle.snap_nested.proofs.Open.{index_of}
use Rattle.snap_nested.proofs.unused.add_all_ends.Goals as goal

pub loop-name-preserved : goal.loop-name-preserved
loop-name-preserved c =
    let items = c.ids-name-items.result.now in
    let at = c.loop-name.name-index in
    let ms = c.args.members.now in
    let new = c.add_ends.new.used in
    let inv = c.loop-name.invariant in
    record {
      more = λ i h. c.in_ok-add_ends.ensures.more i (inv.more i h);
      first = λ j h i own. elim (eqb_tells j at) [
        | inl e ↦ subst (λ (k : ℕ). contains i (member ms (slice_index_or items k 0)).ids ≡ true
            → contains (member ms (slice_index_or items k 0)).first new ≡ true) (sym e.1)
            (c.in_ok-add_ends.ensures.first i) own
        | inr e ↦ c.in_ok-add_ends.ensures.more (member ms (slice_index_or items j 0)).first
            (inv.first j (omega (arith, h, e.1)) i own)
      ];
      current = λ j h live. elim (eqb_tells j at) [
        | inl e ↦ subst (λ (k : ℕ). (member ms (slice_index_or items k 0)).is_live ≡ true
            → contains (member ms (slice_index_or items k 0)).id new ≡ true) (sym e.1)
            c.in_ok-add_ends.ensures.current live
        | inr e ↦ c.in_ok-add_ends.ensures.more (member ms (slice_index_or items j 0)).id
            (inv.current j (omega (arith, h, e.1)) live)
      ];
    }

pub returns-clause-first : goal.returns-clause-first
returns-clause-first c = λ n i own.
    let items = c.ids-name-items.result.now in
    let ms = c.args.members.now in
    let p = index_of n items (ap (λ (l : List ℕ). contains n l) c.ids-name-items.ensures.ids ∙ c.requires.kept n i own) in
    ap (λ (k : ℕ). contains (member ms k).first c.loop-name.used) (sym p.2)
    ∙ c.loop-name.invariant.first p.0 (omega (arith, p.1, c.loop-name-test.false)) i
    (ap (λ (k : ℕ). contains i (member ms k).ids) p.2 ∙ own)

pub returns-clause-current : goal.returns-clause-current
returns-clause-current c = λ n live.
    let items = c.ids-name-items.result.now in
    let ms = c.args.members.now in
    let p = index_of n items (ap (λ (l : List ℕ). contains n l) c.ids-name-items.ensures.ids ∙ c.requires.live n live) in
    ap (λ (k : ℕ). contains (member ms k).id c.loop-name.used) (sym p.2)
    ∙ c.loop-name.invariant.current p.0 (omega (arith, p.1, c.loop-name-test.false))
    (ap (λ (k : ℕ). (member ms k).is_live) p.2 ∙ live)
