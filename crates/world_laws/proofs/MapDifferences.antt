-- Which objects differ between two maps.
use Rattle.std.proofs.Common.{ℕ, zero, suc, ◌+◌, ◌<◌, ◌≤◌, ◌==◌, List, [], ◌∷◌, length, ◌≡◌, ◌≢◌, inl, inr, refl, ap, ◌∙◌, sym, eq-eqb, Bool, true, false, not, ◌||◌, if◌then◌else◌, Option, Some, None, slice_get, arith}
use Rattle.std.proofs.lemmas.Bool.{cases_lt}
use Rattle.std.proofs.lemmas.Bool.Decides.{eqb_tells}
use Rattle.std.proofs.lemmas.Option.{slice_get_past}
use Rattle.std.specs.Option.{unwrap_or}
use Rattle.rt_values.specs.declared.maps.StampedValue.{StampedValue}
use Rattle.rt_values.specs.Maps.{Map, entry_at, differs, differ_from, differ, contains}
use Rattle.world_laws.specs.Watching.{ListsAddUp}

pub unequal : (a b : ℕ) → a ≢ b → (a == b) ≡ false
unequal a b other = elim (eqb_tells a b) [ inl e ↦ absurd (other e.1) | inr e ↦ e.0 ]

-- Only objects of the second map are listed.
before_all : (before : Map) (k : ℕ) (now : Map) (j : ℕ) → j < k → contains j (differ_from before k now) ≡ false
before_all before k [] j h = refl
before_all before k (e ∷ now) j h = by (differs (slice_get before k) e) (before_all before (k + 1) now j (omega (arith, h)))
  where
    by : (b : Bool) → contains j (differ_from before (k + 1) now) ≡ false
        → contains j (if b then k ∷ differ_from before (k + 1) now else differ_from before (k + 1) now) ≡ false
    by true later = ap (λ t. t || contains j (differ_from before (k + 1) now)) (unequal k j (omega (arith, h))) ∙ later
    by false later = later

after_all : (before : Map) (k : ℕ) (now : Map) (j : ℕ) → k + length now ≤ j
    → contains j (differ_from before k now) ≡ false
after_all before k [] j h = refl
after_all before k (e ∷ now) j h = by (differs (slice_get before k) e) (after_all before (k + 1) now j (omega (arith, h)))
  where
    by : (b : Bool) → contains j (differ_from before (k + 1) now) ≡ false
        → contains j (if b then k ∷ differ_from before (k + 1) now else differ_from before (k + 1) now) ≡ false
    by true later = ap (λ t. t || contains j (differ_from before (k + 1) now)) (unequal k j (omega (arith, h))) ∙ later
    by false later = later

-- An object of the second map is listed exactly if it differs.
listed_from : (before : Map) (k : ℕ) (now : Map) (x : ℕ) → x < length now
    → contains (k + x) (differ_from before k now) ≡ differs (slice_get before (k + x)) (entry_at now x)
listed_from before k [] x h = absurd (omega (arith, h))
listed_from before k (e ∷ now) zero h =
    let z : k + 0 ≡ k = omega arith in
    ap (λ j. contains j (differ_from before k (e ∷ now))) z ∙ by (differs (slice_get before k) e)
    ∙ ap (λ j. differs (slice_get before j) e) (sym z)
  where
    by : (b : Bool)
        → contains k (if b then k ∷ differ_from before (k + 1) now else differ_from before (k + 1) now) ≡ b
    by true = ap (λ t. t || contains k (differ_from before (k + 1) now)) (eq-eqb k k refl)
    by false = before_all before (k + 1) now k (omega arith)
listed_from before k (e ∷ now) (suc x) h =
    let z : k + suc x ≡ (k + 1) + x = omega arith in
    ap (λ j. contains j (differ_from before k (e ∷ now))) z ∙ by (differs (slice_get before k) e)
    ∙ listed_from before (k + 1) now x (omega (arith, h))
    ∙ ap (λ j. differs (slice_get before j) (entry_at now x)) (sym z)
  where
    by : (b : Bool)
        → contains ((k + 1) + x) (if b then k ∷ differ_from before (k + 1) now else differ_from before (k + 1) now)
        ≡ contains ((k + 1) + x) (differ_from before (k + 1) now)
    by true = ap (λ t. t || contains ((k + 1) + x) (differ_from before (k + 1) now))
        (unequal k ((k + 1) + x) (omega arith))
    by false = refl

pub listed : (before now : Map) (x : ℕ) → x < length now
    → contains x (differ (Some before) now) ≡ differs (slice_get before x) (entry_at now x)
listed before now x h =
    let z : 0 + x ≡ x = omega arith in
    ap (λ j. contains j (differ_from before 0 now)) (sym z) ∙ listed_from before 0 now x h
    ∙ ap (λ j. differs (slice_get before j) (entry_at now x)) z

pub unlisted : (before now : Map) (x : ℕ) → length now ≤ x → contains x (differ (Some before) now) ≡ false
unlisted before now x h = after_all before 0 now x (omega (arith, h))

-- An object of both maps differs exactly if its stamps do.

there : (m : Map) (x : ℕ) → x < length m → slice_get m x ≡ Some (entry_at m x)
there [] x h = absurd (omega (arith, h))
there (e ∷ m) zero h = refl
there (e ∷ m) (suc x) h = there m x (omega (arith, h))

pub differs_by_stamp : (before : Map) (x : ℕ) (now : StampedValue) → x < length before
    → differs (slice_get before x) now ≡ not ((entry_at before x).stamp == now.stamp)
differs_by_stamp before x now h = ap (λ o. differs o now) (there before x h)

pub differs_if_new : (before : Map) (x : ℕ) (now : StampedValue) → length before ≤ x
    → differs (slice_get before x) now ≡ true
differs_if_new before x now h = ap (λ o. differs o now) (slice_get_past before x h)

-- A map has no list since itself.
not_put : (b : Bool) (x : ℕ) (rest : List ℕ) → b ≡ false → rest ≡ [] → (if b then x ∷ rest else rest) ≡ []
not_put true x rest e none = absurd cc
not_put false x rest e none = none

none_differ : (before : Map) (k : ℕ) (now : Map)
    → ((i : ℕ) → i < length now → slice_get before (k + i) ≡ Some (entry_at now i)) → differ_from before k now ≡ []
none_differ before k [] h = refl
none_differ before k (e ∷ now) h =
    let z : k ≡ k + 0 = omega arith in
    not_put (differs (slice_get before k) e) k (differ_from before (k + 1) now)
    (ap (λ o. differs o e) (ap (λ j. slice_get before j) z ∙ h 0 (omega arith)) ∙ ap not (eq-eqb e.stamp e.stamp refl))
    (none_differ before (k + 1) now (λ i within. let s : (k + 1) + i ≡ k + suc i = omega arith in
    ap (λ j. slice_get before j) s ∙ h (suc i) (omega (arith, within))))

pub differs_from_itself : (m : Map) → differ (Some m) m ≡ []
differs_from_itself m = none_differ m 0 m (λ i within. let z : 0 + i ≡ i = omega arith in
    ap (λ j. slice_get m j) z ∙ there m i within)

-- Without an earlier map every object differs.
pub differ_of : (last : Option Map) (now : Map) → differ last now ≡ differ (Some (unwrap_or last [])) now
differ_of None now = refl
differ_of (Some m) now = refl

-- Two steps.

two_steps : (a b c : ℕ) → a ≤ b → b ≤ c → not (a == c) ≡ (not (a == b) || not (b == c))
two_steps a b c one two = elim (eqb_tells a b) [
  | inl e ↦ ap (λ k. not (k == c)) e.1 ∙ sym (ap (λ t. not t || not (b == c)) e.0)
  | inr e ↦
      let other : a ≢ c = λ same. e.1 (omega (arith, one, two, same)) in
      ap not (unequal a c other) ∙ sym (ap (λ t. not t || not (b == c)) e.0)
]

pub lists_add_up : ListsAddUp
lists_add_up l m n x lm mn = elim (cases_lt x (length n)) [
  | inl in_n ↦ listed l n x in_n ∙ elim (cases_lt x (length m)) [
    | inl in_m ↦
        let first = listed l m x in_m in
        let second = listed m n x in_n ∙ differs_by_stamp m x (entry_at n x) in_m in
        elim (cases_lt x (length l)) [
          | inl in_l ↦
              differs_by_stamp l x (entry_at n x) in_l
              ∙ two_steps (entry_at l x).stamp (entry_at m x).stamp (entry_at n x).stamp (lm.stamps x in_l)
              (mn.stamps x in_m)
              ∙ sym (ap (λ t. t || contains x (differ (Some m) n)) (first ∙ differs_by_stamp l x (entry_at m x) in_l)
              ∙ ap (λ t. not ((entry_at l x).stamp == (entry_at m x).stamp) || t) second)
          | inr past_l ↦
              differs_if_new l x (entry_at n x) past_l
              ∙ sym (ap (λ t. t || contains x (differ (Some m) n)) (first ∙ differs_if_new l x (entry_at m x) past_l))
        ]
    | inr past_m ↦
        differs_if_new l x (entry_at n x) (let long = lm.longer in omega (arith, past_m, long))
        ∙ sym (ap (λ t. t || contains x (differ (Some m) n)) (unlisted l m x past_m)
        ∙ (listed m n x in_n ∙ differs_if_new m x (entry_at n x) past_m))
  ]
  | inr past_n ↦
      let past_m : length m ≤ x = let long = mn.longer in omega (arith, past_n, long) in
      unlisted l n x past_n
      ∙ sym (ap (λ t. t || contains x (differ (Some m) n)) (unlisted l m x past_m) ∙ unlisted m n x past_n)
]
