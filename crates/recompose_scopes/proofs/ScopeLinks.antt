-- The scopes of an object after a scope was put with some objects.
use Rattle.std.proofs.Common.{◌≡◌, ◌⊎◌, inl, inr, ◌==◌, ◌-◌, ℕ, zero, suc, Bool, true, false, List, [], ◌∷◌, ◌++◌, length, nat_eq, Some, if◌then◌else◌, refl, ap, sym, ◌∙◌, subst, eq-eqb}
use Rattle.std.specs.Prelude.{slice_get}
use Rattle.std.specs.Option.{option_eq}
use Rattle.std.proofs.lemmas.Bool.{eqb-true}
use Rattle.rt_values.specs.Maps.{contains}
use Rattle.read_links.specs.LinkLists.{ends_with, with_scope, links_with, links_with_all, scopes_in}
use Rattle.recompose_scopes.proofs.Members.{or_left, or_right, either, kept_by_append, appended, in_appended}

-- A scope put at the end of a list.

got_is_member : (s k : ℕ) (ts : List ℕ) → option_eq nat_eq (slice_get ts k) (Some s) ≡ true → contains s ts ≡ true
got_is_member s k [] e = absurd cc
got_is_member s zero (t ∷ ts) e = or_left (t == s) (contains s ts) e
got_is_member s (suc k) (t ∷ ts) e = or_right (t == s) (contains s ts) (got_is_member s k ts e)

kept_by_scope : (t s : ℕ) (ts : List ℕ) → contains t ts ≡ true → contains t (with_scope s ts) ≡ true
kept_by_scope t s ts has = by (ends_with s ts)
  where
    by : (b : Bool) → contains t (if b then ts else ts ++ s ∷ []) ≡ true
    by true = has
    by false = kept_by_append t ts (s ∷ []) has

has_scope : (s : ℕ) (ts : List ℕ) → contains s (with_scope s ts) ≡ true
has_scope s ts = by (ends_with s ts) refl
  where
    by : (b : Bool) → ends_with s ts ≡ b → contains s (if b then ts else ts ++ s ∷ []) ≡ true
    by true e = got_is_member s (length ts - 1) ts e
    by false e = appended s ts

only_scope : (t s : ℕ) (ts : List ℕ) → contains t (with_scope s ts) ≡ true → (contains t ts ≡ true) ⊎ (s ≡ t)
only_scope t s ts = by (ends_with s ts)
  where
    by : (b : Bool) → contains t (if b then ts else ts ++ s ∷ []) ≡ true → (contains t ts ≡ true) ⊎ (s ≡ t)
    by true has = inl has
    by false has = in_appended t s ts has

-- A scope put with one object.

kept_by_one : (t s x y : ℕ) (ls : List (ℕ × List ℕ)) → contains t (scopes_in y ls) ≡ true
    → contains t (scopes_in y (links_with s x ls)) ≡ true
kept_by_one t s x y [] has = absurd cc
kept_by_one t s x y (l ∷ ls) has = by (x == l.0) (y == l.0) refl has (kept_by_one t s x y ls)
  where
    by : (b c : Bool) → (y == l.0) ≡ c → contains t (if c then l.1 else scopes_in y ls) ≡ true
        → (contains t (scopes_in y ls) ≡ true → contains t (scopes_in y (links_with s x ls)) ≡ true)
        → contains t (scopes_in y (if b then (l.0, with_scope s l.1) ∷ ls else l ∷ links_with s x ls)) ≡ true
    by true true e has later =
        ap (λ c. contains t (if c then with_scope s l.1 else scopes_in y ls)) e ∙ kept_by_scope t s l.1 has
    by true false e has later = ap (λ c. contains t (if c then with_scope s l.1 else scopes_in y ls)) e ∙ has
    by false true e has later = ap (λ c. contains t (if c then l.1 else scopes_in y (links_with s x ls))) e ∙ has
    by false false e has later =
        ap (λ c. contains t (if c then l.1 else scopes_in y (links_with s x ls))) e ∙ later has

has_one : (s x : ℕ) (ls : List (ℕ × List ℕ)) → contains s (scopes_in x (links_with s x ls)) ≡ true
has_one s x [] =
    ap (λ b. contains s (if b then s ∷ [] else [])) (eq-eqb x x refl) ∙ or_left (s == s) false (eq-eqb s s refl)
has_one s x (l ∷ ls) = by (x == l.0) refl (has_one s x ls)
  where
    by : (b : Bool) → (x == l.0) ≡ b → contains s (scopes_in x (links_with s x ls)) ≡ true
        → contains s (scopes_in x (if b then (l.0, with_scope s l.1) ∷ ls else l ∷ links_with s x ls)) ≡ true
    by true e later =
        ap (λ c. contains s (if c then with_scope s l.1 else scopes_in x ls)) e ∙ has_scope s l.1
    by false e later = ap (λ c. contains s (if c then l.1 else scopes_in x (links_with s x ls))) e ∙ later

only_one : (t s x y : ℕ) (ls : List (ℕ × List ℕ)) → contains t (scopes_in y (links_with s x ls)) ≡ true
    → (contains t (scopes_in y ls) ≡ true) ⊎ ((s ≡ t) × (x ≡ y))
only_one t s x y [] has = by (y == x) refl has
  where
    by : (b : Bool) → (y == x) ≡ b → contains t (if b then s ∷ [] else []) ≡ true
        → (false ≡ true) ⊎ ((s ≡ t) × (x ≡ y))
    by true e has = elim (either (s == t) false has) [
      | inl same ↦ inr (eqb-true s t same, sym (eqb-true y x e))
      | inr never ↦ absurd cc
    ]
    by false e has = inl has
only_one t s x y (l ∷ ls) has = by (x == l.0) refl (y == l.0) refl has (only_one t s x y ls)
  where
    by : (b : Bool) → (x == l.0) ≡ b → (c : Bool) → (y == l.0) ≡ c
        → contains t (scopes_in y (if b then (l.0, with_scope s l.1) ∷ ls else l ∷ links_with s x ls)) ≡ true
        → (contains t (scopes_in y (links_with s x ls)) ≡ true
        → (contains t (scopes_in y ls) ≡ true) ⊎ ((s ≡ t) × (x ≡ y)))
        → (contains t (if c then l.1 else scopes_in y ls) ≡ true) ⊎ ((s ≡ t) × (x ≡ y))
    by true e true f has later =
        elim (only_scope t s l.1
        (sym (ap (λ c. contains t (if c then with_scope s l.1 else scopes_in y ls)) f) ∙ has)) [
          | inl old ↦ inl old
          | inr new ↦ inr (new, eqb-true x l.0 e ∙ sym (eqb-true y l.0 f))
        ]
    by true e false f has later =
        inl (sym (ap (λ c. contains t (if c then with_scope s l.1 else scopes_in y ls)) f) ∙ has)
    by false e true f has later =
        inl (sym (ap (λ c. contains t (if c then l.1 else scopes_in y (links_with s x ls))) f) ∙ has)
    by false e false f has later =
        later (sym (ap (λ c. contains t (if c then l.1 else scopes_in y (links_with s x ls))) f) ∙ has)

-- A scope put with several objects.

pub kept_by_all : (t s y : ℕ) (xs : List ℕ) (ls : List (ℕ × List ℕ)) → contains t (scopes_in y ls) ≡ true
    → contains t (scopes_in y (links_with_all s xs ls)) ≡ true
kept_by_all t s y [] ls has = has
kept_by_all t s y (x ∷ xs) ls has = kept_by_all t s y xs (links_with s x ls) (kept_by_one t s x y ls has)

pub has_all : (s y : ℕ) (xs : List ℕ) (ls : List (ℕ × List ℕ)) → contains y xs ≡ true
    → contains s (scopes_in y (links_with_all s xs ls)) ≡ true
has_all s y [] ls e = absurd cc
has_all s y (x ∷ xs) ls e = elim (either (x == y) (contains y xs) e) [
  | inl same ↦ kept_by_all s s y xs (links_with s x ls)
      (subst (λ z. contains s (scopes_in z (links_with s x ls)) ≡ true) (eqb-true x y same) (has_one s x ls))
  | inr later ↦ has_all s y xs (links_with s x ls) later
]

pub only_all : (t s y : ℕ) (xs : List ℕ) (ls : List (ℕ × List ℕ))
    → contains t (scopes_in y (links_with_all s xs ls)) ≡ true
    → (contains t (scopes_in y ls) ≡ true) ⊎ ((s ≡ t) × (contains y xs ≡ true))
only_all t s y [] ls has = inl has
only_all t s y (x ∷ xs) ls has = elim (only_all t s y xs (links_with s x ls) has) [
  | inl old ↦ elim (only_one t s x y ls old) [
    | inl older ↦ inl older
    | inr new ↦ inr (new.0, or_left (x == y) (contains y xs) (eq-eqb x y new.1))
  ]
  | inr new ↦ inr (new.0, or_right (x == y) (contains y xs) new.1)
]
