-- Ids under which no record was written may lose their owner.
use Rattle.std.proofs.Common.{◌≡◌, ℕ, length, sym, ap, ◌∙◌, subst, Bool, true, false, List}
use Rattle.rt_values.specs.declared.maps.StampedValue.{StampedValue}
use Rattle.snap_policy.specs.Rules.{Rules}
use Rattle.snap_records.specs.Records.{Rec}
use Rattle.snap_nested.specs.Ids.{Ids, IsDated, IsSound, AreAlone}
use Rattle.snap_laws.specs.Keeps.{IsKept}
use Rattle.snap_laws.specs.Shown.{AreChained, AreShown}
use Rattle.snap_laws.specs.Represents.{views_of, bases_of}
use Rattle.snap_nested.specs.Unused.{LosesOwners}
use Rattle.snap_nested.proofs.Dropping.{sound_lost}
use Rattle.snap_laws.specs.Unused.{AreUnused, LossesKeep, LossesRepresent}
use Rattle.snap_records.proofs.Reading.{reads_like}
use Rattle.snap_laws.proofs.Showing.{reader, reader_began}
use Rattle.snap_laws.proofs.Others.{stands_same}
use Rattle.snap_ids.proofs.Booleans.{and_alone, and_like}

module _ {f g : Ids} {handed : ℕ} {chains : ℕ → List Rec} {unused : ℕ → Bool} (a : LosesOwners f g unused)
    (s : IsSound f handed) (u : AreUnused f chains unused) where
  was : (n : ℕ) → g.live n ≡ true → f.live n ≡ true
  was n live = sym (a.live n) ∙ live

  same_own : (n i : ℕ) → unused i ≡ false → g.owns n i ≡ f.owns n i
  same_own n i used = a.owns n i ∙ and_alone (f.owns n i) (unused i) used

  alone_lost : AreAlone f → AreAlone g
  alone_lost alone n live m live_m seen =
      let at : g.sees m (f.current n) ≡ true = subst (λ (j : ℕ). g.sees m j ≡ true) (a.current n) seen in
      alone n (was n live) m (was m live_m) (sym (a.sees m (f.current n) (u.current n (was n live))) ∙ at)

  chained_lost : {noted : ℕ → ℕ → Bool} → AreChained f noted chains → AreChained g noted chains
  chained_lost known = record {
    apart = known.apart;
    known = λ x p there positive.
        let k = known.known x p there positive in
        record {
          name = k.name;
          owned = same_own k.name p.id (u.unwritten x p there positive) ∙ k.owned;
          changed = k.changed;
        };
  }

  shown_lost : {objects : ℕ} {view base : ℕ → ℕ → StampedValue} → IsDated f → IsDated g
      → AreShown f chains objects view base → AreShown g chains objects view base
  shown_lost dated dated_g shown = record {
    views = λ n x live within. reads_like (reader dated n (was n live)) (reader dated_g n live)
        (λ p there positive. a.sees n p.id (u.unwritten x p there positive)) (shown.views n x (was n live) within);
    bases = λ n x live inner within. reads_like (reader_began dated n (was n live)) (reader_began dated_g n live)
        (λ p there positive. and_like (g.sees n p.id) (f.sees n p.id) (g.owns n p.id) (f.owns n p.id)
        (a.sees n p.id (u.unwritten x p there positive)) (same_own n p.id (u.unwritten x p there positive)))
        (shown.bases n x (was n live) inner within);
  }

pub losses_keep : LossesKeep
losses_keep f g handed noted chains objects view base unused k u a dated_g = record {
  sound = sound_lost a k.sound u.root u.first u.current;
  dated = dated_g;
  alone = alone_lost a k.sound u k.alone;
  chained = chained_lost a k.sound u k.chained;
  shown = shown_lost a k.sound u k.dated dated_g k.shown;
}

pub losses_stand : {P : Type 0} (rules : Rules P) → LossesRepresent rules
losses_stand rules h k w unused s u a =
    let kept = losses_keep h.ids k.ids h.handed h.noted h.chains (length h.objects) (views_of w) (bases_of w) unused
    s.kept u a.ids a.dated in
    let one = subst (λ (c : ℕ). IsKept k.ids c h.noted h.chains (length h.objects) (views_of w) (bases_of w))
    (sym a.handed) kept in
    let two = subst (λ (c : ℕ → List Rec). IsKept k.ids k.handed h.noted c (length h.objects) (views_of w) (bases_of w))
    (sym a.chains) one in
    stands_same s a.same a.ids.live (λ n live. a.ids.parent n)
    (λ n x live. ap (λ (t : ℕ → ℕ → Bool). t n x) a.noted)
    (subst (λ (t : ℕ → ℕ → Bool). IsKept k.ids k.handed t k.chains (length h.objects) (views_of w) (bases_of w))
    (sym a.noted) two)
