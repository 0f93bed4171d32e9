-- The removal of the records of a closed snapshot.
use Rattle.std.proofs.Common.{◌≡◌, ℕ, zero, suc, ◌<◌, ◌≤◌, List, [], length, map, sym, ap, ◌∙◌, subst, true, false, arith, inl, inr}
use Rattle.std.proofs.lemmas.Bool.{cases_lt}
use Rattle.std.proofs.lemmas.List.{get_or_past}
use Rattle.rt_values.specs.Maps.{contains}
use Rattle.snap_api.specs.World.{World}
use Rattle.snap_records.specs.Records.{Rec, Drops}
use Rattle.snap_records.specs.Edits.{chain_without_ids}
use Rattle.snap_records.proofs.Edits.{drops_cleared}
use Rattle.snap_ids.proofs.Booleans.{not_both, not_true, true_or_false}
use Rattle.snap_records.specs.Chains.{chain_of, record_at}
use Rattle.snap_records.specs.declared.chains.Chains.{Chains}
use Rattle.snap_laws.specs.Represents.{WorldParts, Represents}

pub chain_past : (c : Chains) (x : ℕ) → length c.heads.items ≤ x → chain_of c x ≡ []
chain_past c x past = ap (λ (keys : List ℕ). map (λ key. record_at c key) keys) (get_or_past c.heads.items x [] past)

pub drops_all : {P : Type 0} (h : WorldParts P) (chains : ℕ → List Rec) (ids : List ℕ) (w : World P) (name : ℕ)
    → Represents h w → h.ids.live name ≡ false → ((i : ℕ) → contains i ids ≡ h.ids.owns name i) → (count : ℕ) →
    ((x : ℕ) → count ≤ x → h.chains x ≡ []) → ((x : ℕ) → count ≤ x → chains x ≡ []) →
    ((x : ℕ) → x < count → h.noted name x ≡ true → chains x ≡ chain_without_ids ids (h.chains x))
    → ((x : ℕ) → h.noted name x ≡ false → chains x ≡ h.chains x) → (x : ℕ)
    → Drops (h.chains x) (chains x) (h.ids.owns name)
drops_all {P} h chains ids w name s closed owns count none_before none_after put left x =
    elim (true_or_false (h.noted name x)) [
      | inl noted ↦ owned (elim (cases_lt x count) [
        | inl within ↦ put x within noted
        | inr past ↦ none_after x past ∙ ap (chain_without_ids ids) (sym (none_before x past))
      ])
      | inr unnoted ↦ subst (λ (d : List Rec). Drops (h.chains x) d (h.ids.owns name)) (sym (left x unnoted)) (record {
        from = λ p there pos. there;
        without = λ p there pos. not_true (h.ids.owns name p.id) (λ own.
            let k = s.kept.chained.known x p there pos in
            let same : name ≡ k.name = s.kept.sound.apart name k.name p.id own k.owned in
            not_both (h.noted name x) (subst (λ (n : ℕ). h.noted n x ≡ true) (sym same)
            (k.changed (subst (λ (n : ℕ). 0 < n) same inner))) unnoted);
        kept = λ p there pos safe. there;
        apart = s.kept.chained.apart x;
      })
    ] where
      inner : 0 < name
      inner = positive name closed where
        positive : (n : ℕ) → h.ids.live n ≡ false → 0 < n
        positive zero c = absurd (not_both (h.ids.live 0) s.kept.sound.global c)
        positive (suc n) c = omega arith

      owned : chains x ≡ chain_without_ids ids (h.chains x) → Drops (h.chains x) (chains x) (h.ids.owns name)
      owned is = let d = drops_cleared (h.chains x) ids (s.kept.chained.apart x) in
          subst (λ (c : List Rec). Drops (h.chains x) c (h.ids.owns name)) (sym is) (record {
            from = d.from;
            without = λ p there pos. sym (owns p.id) ∙ d.without p there pos;
            kept = λ p there pos safe. d.kept p there pos (owns p.id ∙ safe);
            apart = d.apart;
          })
