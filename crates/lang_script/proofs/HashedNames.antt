-- Tables of names in memory.
use Rattle.std.proofs.Common.{◌≡◌, ℕ, List, Bool, true, false, cond, Option, sym, subst, ◌∙◌, Vec, Global, inl, inr}
use Rattle.std.proofs.lemmas.Bool.{cases_Bool, cond-true, cond-false}
use Rattle.std.specs.Str.{bytes_eq}
use Rattle.std.specs.Cmp.Lexicographic.{bytes_decides, nat_list_eq_equiv}
use Rattle.std.specs.HashMap.{HashMap, UpdatesBy, get_by}
use Rattle.std.specs.Map.{KeepsOthers, IsKeyTest, AreApart, lookup}

other_entries : {K X : Type 0} (eq : K → K → Bool) (test : K → Bool) (old new : List (K × X))
    → KeepsOthers eq test old new → (other : K → Bool) → IsKeyTest eq other → AreApart test other
    → lookup other new ≡ lookup other old
unfolding KeepsOthers
other_entries eq test old new h = h

apart : (bs cs ks : List ℕ) → bytes_eq bs cs ≡ false → bytes_eq bs ks ≡ true → bytes_eq cs ks ≡ false
apart bs cs ks n y = nat_list_eq_equiv.symm cs ks ∙ sym (nat_list_eq_equiv.congr bs ks cs y) ∙ n

module _ {X S : Type 0} where
  -- The number of each name after `bs` was given another one.
  pub updates_names : (bs : List ℕ) (m n : HashMap (Vec ℕ Global) X S) (w : Option X) →
      UpdatesBy (λ x y. bytes_eq x.items y.items) (λ k. bytes_eq bs k.items) m n w →
      (cs : List ℕ) → get_by (λ k. bytes_eq cs k.items) n
      ≡ cond (bytes_eq bs cs) w (get_by (λ k. bytes_eq cs k.items) m)
  updates_names bs m n w h cs = elim (cases_Bool (bytes_eq bs cs)) [
    | inl y ↦ subst (λ l. get_by (λ k. bytes_eq l k.items) n ≡ w) ((bytes_decides bs cs).0 y) h.1
        ∙ sym (cond-true (bytes_eq bs cs) w (get_by (λ k. bytes_eq cs k.items) m) y)
    | inr f ↦ other_entries _ _ _ _ h.3 _ (λ x y. nat_list_eq_equiv.congr cs x.items y.items)
        (λ k. apart bs cs k.items f) ∙ sym (cond-false (bytes_eq bs cs) w (get_by (λ k. bytes_eq cs k.items) m) f)
  ]
