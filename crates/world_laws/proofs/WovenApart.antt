-- A history of clean applies whose snapshots are open at the same time.
use Rattle.std.proofs.Common.{ℕ, ◌≤◌, [], ◌∷◌, ◌≡◌, inl, inr, refl, sym, subst, true, false, ◌||◌, arith, ap, ◌∙◌}
use Rattle.std.proofs.lemmas.Bool.Decides.{eqb_tells}
use Rattle.rt_values.specs.Maps.{entry_at, contains}
use Rattle.snap_api.specs.World.{World, History, snapshot_of}
use Rattle.world_laws.specs.SerialHistories.{uses_in, UsesOnly, IsClean, CleanHistoriesAreWoven}

-- The only member of a list of one.
one_member : (y x : ℕ) → contains x (y ∷ []) ≡ true → y ≡ x
one_member y x h = elim (eqb_tells y x) [
  | inl e ↦ e.1
  | inr e ↦ absurd (let clash : false ≡ true = sym (ap (λ t. t || false) e.0) ∙ h in cc)
]

-- An apply of a snapshot that changed one object.
one_change : {P : Type 0} (old : ℕ) (w : World P) (before : History) (name y : ℕ) → old ≤ name
    → (snapshot_of w name).parent ≡ 0 → UsesOnly (snapshot_of w name).wrote (uses_in name before)
    → (snapshot_of w name).wrote ≡ y ∷ []
    → (entry_at (snapshot_of w name).base y).stamp ≡ (entry_at (snapshot_of w 0).view y).stamp
    → (n : ℕ) → name ≡ n → IsClean old w before n
one_change old w before name y later parent own only unmet n is = subst (λ (k : ℕ). IsClean old w before k) is (record {
  later = later;
  parent = parent;
  own = own;
  unmet = λ x h. subst (λ (z : ℕ). (entry_at (snapshot_of w name).base z).stamp
      ≡ (entry_at (snapshot_of w 0).view z).stamp)
      (one_member y x (ap (λ xs. contains x xs) (sym only) ∙ h)) unmet;
})

pub clean_histories_are_woven : CleanHistoriesAreWoven
clean_histories_are_woven = record {
  legal = (refl, (refl, (refl, (refl, (refl, (refl, (refl, (refl, tt))))))));
  clean = (
    λ n q r. absurd cc,
    (
      λ n q r. absurd cc,
      (
        λ n q r. absurd cc,
        (
          λ n q r. absurd cc,
          (
            λ n q r. absurd cc,
            (
              λ n q r. absurd cc,
              (
                λ n q r. let is : 2 ≡ n = cc in one_change 1 _ _ 2 1 (omega arith) refl (refl, (refl, tt)) refl refl n is,
                (
                  λ n q r. let is : 1 ≡ n = cc in one_change 1 _ _ 1 0 (omega arith) refl (refl, (refl, tt)) refl refl n is,
                  tt,
                ),
              ),
            ),
          ),
        ),
      ),
    ),
  );
}
