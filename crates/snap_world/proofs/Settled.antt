-- The settled objects of an apply, and the lowest object that conflicts.
use Rattle.std.proofs.Common.{◌≡◌, ℕ, zero, suc, ◌+◌, ◌<◌, ◌==◌, ◌&&◌, ◌||◌, ◌⊎◌, List, [], ◌∷◌, ◌++◌, length, take, get_or, refl, sym, ap, ◌∙◌, subst, Option, Some, None, Bool, true, false, cond, arith, inl, inr}
use Rattle.std.proofs.lemmas.Bool.Decides.{Decides-eqb, eqb_tells, leb_tells}
use Rattle.std.proofs.lemmas.List.{take_more}
use Rattle.std.proofs.lemmas.List.{length-map}
use Rattle.std.proofs.lemmas.Option.{slice_get_within}
use Rattle.std.specs.Prelude.{slice_get, slice_index_or, not}
use Rattle.rt_values.specs.Maps.{contains, with_member}
use Rattle.rt_values.specs.declared.maps.StampedValue.{StampedValue}
use Rattle.snap_ids.proofs.Booleans.{or_true, or_left, or_right}
use Rattle.snap_api.specs.Choices.{is_changed, is_clash, entry_of_choice}
use Rattle.snap_api.specs.declared.choice.Choice.TheVariants.{Changed, Kept}
use Rattle.snap_world.specs.Choices.{choice_of_settled, objects_of, is_taken, with_taken, lesser, IsLeast}
use Rattle.snap_policy.specs.Rules.{Rules}
use Rattle.snap_laws.specs.Applies.{choice_at}
use Rattle.snap_laws.specs.Represents.{WorldParts}
use Rattle.snap_world.specs.Holding.{AreSettled}
use Rattle.snap_world.specs.declared.settling.Settled.{Settled}
use Rattle.snap_world.proofs.NotedLoops.{contains_last, contains_more}
use Rattle.snap_world.proofs.NotedMembers.{contains-noted}

-- The value and the kind of a verdict.
entry_in : (b : Bool) (e : StampedValue) → e ≡ entry_of_choice (cond b (Changed e) (Kept e))
entry_in true e = refl
entry_in false e = refl

pub entry_settled : (s : Settled) → s.entry ≡ entry_of_choice (choice_of_settled s)
entry_settled s = entry_in s.is_changed s.entry

changed_in : (b : Bool) (e : StampedValue) → b ≡ is_changed (cond b (Changed e) (Kept e))
changed_in true e = refl
changed_in false e = refl

pub changed_settled : (s : Settled) → s.is_changed ≡ is_changed (choice_of_settled s)
changed_settled s = changed_in s.is_changed s.entry

-- The verdict in `settled` on object `x`.
pub record Found (x : ℕ) (settled : List Settled) : Type 0 where
  pub at : ℕ
  pub one : Settled
  pub there : slice_get settled at ≡ Some one
  pub same : one.object ≡ x

pub find_settled : (x : ℕ) (settled : List Settled) → contains x (objects_of settled) ≡ true → Found x settled
find_settled x [] h = absurd cc
find_settled x (s ∷ settled) h = elim (or_true (s.object == x) (contains x (objects_of settled)) h) [
  | inl e ↦ record { at = 0; one = s; there = refl; same = (Decides-eqb s.object x).0 e }
  | inr t ↦ let f = find_settled x settled t in record { at = suc f.at; one = f.one; there = f.there; same = f.same }
]

clash_of : (b : Bool) (e : StampedValue) → is_clash (cond b (Changed e) (Kept e)) ≡ false
clash_of true e = refl
clash_of false e = refl

-- A settled object has no conflict.
pub none_clashes : {P : Type 0} (rules : Rules P) (h : WorldParts P) (name into : ℕ) (settled : List Settled)
    (xs : List ℕ) → objects_of settled ≡ xs → AreSettled rules h name into settled
    → (x : ℕ) → contains x xs ≡ true → is_clash (choice_at rules h name into x) ≡ false
none_clashes {P} rules h name into settled xs objects each x listed =
    let f = find_settled x settled (ap (λ (l : List ℕ). contains x l) objects ∙ listed) in
    ap (λ (y : ℕ). is_clash (choice_at rules h name into y)) (sym f.same)
    ∙ ap is_clash (sym (each f.at f.one f.there).0) ∙ clash_of f.one.is_changed f.one.entry

-- The object at each index of the settled objects.
object_at : (xs : List Settled) (i : ℕ) (s : Settled) → slice_get xs i ≡ Some s
    → slice_index_or (objects_of xs) i 0 ≡ s.object
object_at [] i s h = absurd cc
object_at (x ∷ xs) zero s h = let e : x ≡ s = cc in ap (λ (t : Settled). t.object) e
object_at (x ∷ xs) (suc i) s h = object_at xs i s h

pub contains_object : (x : ℕ) (xs : List Settled) (i : ℕ) (s : Settled) → slice_get xs i ≡ Some s
    → contains x (take (i + 1) (objects_of xs)) ≡ (contains x (take i (objects_of xs)) || s.object == x)
contains_object x xs i s there =
    let within : i < length xs = slice_get_within xs i s there in
    contains_more x (objects_of xs) i (omega (arith, within, length-map xs (λ (t : Settled). t.object)))
    ∙ ap (λ (y : ℕ). contains x (take i (objects_of xs)) || y == x) (object_at xs i s there)

-- An object that is in the list or is not changed is skipped.
pub skip_taken : (s : Settled) (settled : List Settled) (xs : List ℕ)
    → (s.is_changed && not (contains s.object xs)) ≡ false → with_taken (s ∷ settled) xs ≡ with_taken settled xs
skip_taken s settled xs h = by s.is_changed (contains s.object xs) h where
  by : (b c : Bool) → (b && not c) ≡ false
      → with_taken settled (cond b (cond c xs (xs ++ s.object ∷ [])) xs) ≡ with_taken settled xs
  by false c h = refl
  by true true h = refl
  by true false h = absurd cc

-- An item of a list after an append is an item of the list or the appended item.
pub get_last : {A : Type 0} (xs : List A) (y : A) (i : ℕ) (a : A) → slice_get (xs ++ y ∷ []) i ≡ Some a
    → (slice_get xs i ≡ Some a) ⊎ (y ≡ a)
get_last [] y zero a h = inr cc
get_last [] y (suc i) a h = absurd cc
get_last (x ∷ xs) y zero a h = inl h
get_last (x ∷ xs) y (suc i) a h = get_last xs y i a h

absorbed : (a c : Bool) → (a || (c && a)) ≡ a
absorbed true c = refl
absorbed false true = refl
absorbed false false = refl

pub taken_is : (t : ℕ → Bool) (settled : List Settled)
    → ((i : ℕ) (s : Settled) → slice_get settled i ≡ Some s → s.is_changed ≡ t s.object) → (x : ℕ)
    → is_taken x settled ≡ (contains x (objects_of settled) && t x)
taken_is t [] each x = refl
taken_is t (s ∷ settled) each x =
    by (s.object == x) refl (taken_is t settled (λ i r there. each (suc i) r there) x) where
      by : (b : Bool) → (s.object == x) ≡ b → is_taken x settled ≡ (contains x (objects_of settled) && t x)
          → ((b && s.is_changed) || is_taken x settled) ≡ ((b || contains x (objects_of settled)) && t x)
      by true e later =
          let same : s.object ≡ x = (Decides-eqb s.object x).0 e in
          let kind : s.is_changed ≡ t x = each 0 s refl ∙ ap t same in
          ap (λ (c : Bool). c || is_taken x settled) kind ∙ ap (λ (c : Bool). t x || c) later
          ∙ absorbed (t x) (contains x (objects_of settled))
      by false e later = later

or_moves : (a b c : Bool) → (a || (c || b)) ≡ ((b || a) || c)
or_moves true true c = refl
or_moves true false c = refl
or_moves false true true = refl
or_moves false true false = refl
or_moves false false true = refl
or_moves false false false = refl

pub contains-with_taken : (x : ℕ) (settled : List Settled) (xs : List ℕ)
    → contains x (with_taken settled xs) ≡ (is_taken x settled || contains x xs)
contains-with_taken x [] xs = refl
contains-with_taken x (s ∷ settled) xs =
    contains-with_taken x settled (cond s.is_changed (with_member s.object xs) xs) ∙ by s.is_changed where
      swap : (x == s.object) ≡ (s.object == x)
      swap = elim (eqb_tells x s.object) [
        | inl e ↦ e.0 ∙ sym ((Decides-eqb s.object x).1 (sym e.1))
        | inr e ↦ e.0 ∙ sym (other (s.object == x) (λ h. e.1 (sym ((Decides-eqb s.object x).0 h))))
      ] where
        other : (b : Bool) → (b ≡ true → ⊥) → b ≡ false
        other true h = absurd (h refl)
        other false h = refl

      second : (b : Bool) → (b && true) ≡ b
      second true = refl
      second false = refl

      none : (b : Bool) → (b && false) ≡ false
      none true = refl
      none false = refl

      by : (b : Bool) → (is_taken x settled || contains x (cond b (with_member s.object xs) xs))
          ≡ (((s.object == x && b) || is_taken x settled) || contains x xs)
      by true = ap (λ (c : Bool). is_taken x settled || c) (contains-noted x s.object xs)
          ∙ ap (λ (c : Bool). is_taken x settled || (contains x xs || c)) swap
          ∙ or_moves (is_taken x settled) (s.object == x) (contains x xs)
          ∙ ap (λ (c : Bool). (c || is_taken x settled) || contains x xs) (sym (second (s.object == x)))
      by false = ap (λ (c : Bool). (c || is_taken x settled) || contains x xs) (sym (none (s.object == x)))

-- The lowest object of a list that passes a test, after an append to the list.
pub least_last : (test : ℕ → Bool) (xs : List ℕ) (y : ℕ) (b : Bool) (least : Option ℕ) → test y ≡ b
    → IsLeast test xs least → IsLeast test (xs ++ y ∷ []) (lesser b y least)
least_last test xs y false None e none =
    λ x listed. elim (or_true (contains x xs) (y == x) (sym (contains_last x y xs) ∙ listed)) [
      | inl t ↦ none x t
      | inr t ↦ ap test (sym ((Decides-eqb y x).0 t)) ∙ e
    ]
least_last test xs y false (Some z) e l = (
  contains_last z y xs ∙ or_left (contains z xs) (y == z) l.0,
  l.1,
  λ x lower listed. elim (or_true (contains x xs) (y == x) (sym (contains_last x y xs) ∙ listed)) [
    | inl t ↦ l.2 x lower t
    | inr t ↦ ap test (sym ((Decides-eqb y x).0 t)) ∙ e
  ],
)
least_last test xs y true None e none = (
  contains_last y y xs ∙ or_right (contains y xs) (y == y) ((Decides-eqb y y).1 refl),
  e,
  λ x lower listed. elim (or_true (contains x xs) (y == x) (sym (contains_last x y xs) ∙ listed)) [
    | inl t ↦ none x t
    | inr t ↦ absurd (omega (arith, lower, (Decides-eqb y x).0 t))
  ],
)
least_last test xs y true (Some z) e l = elim (leb_tells z y) [
  | inl h ↦ subst (λ (b : Bool). IsLeast test (xs ++ y ∷ []) (cond b (Some z) (Some y))) (sym h.0) (
    contains_last z y xs ∙ or_left (contains z xs) (y == z) l.0,
    l.1,
    λ x lower listed. elim (or_true (contains x xs) (y == x) (sym (contains_last x y xs) ∙ listed)) [
      | inl t ↦ l.2 x lower t
      | inr t ↦ absurd (omega (arith, lower, h.1, (Decides-eqb y x).0 t))
    ],
  )
  | inr h ↦ subst (λ (b : Bool). IsLeast test (xs ++ y ∷ []) (cond b (Some z) (Some y))) (sym h.0) (
    contains_last y y xs ∙ or_right (contains y xs) (y == y) ((Decides-eqb y y).1 refl),
    e,
    λ x lower listed. elim (or_true (contains x xs) (y == x) (sym (contains_last x y xs) ∙ listed)) [
      | inl t ↦ l.2 x (omega (arith, lower, h.1)) t
      | inr t ↦ absurd (omega (arith, lower, (Decides-eqb y x).0 t))
    ],
  )
]

pub least_more : (test : ℕ → Bool) (items : List ℕ) (i : ℕ) (b : Bool) (least : Option ℕ) → i < length items
    → test (get_or items i 0) ≡ b → IsLeast test (take i items) least
    → IsLeast test (take (i + 1) items) (lesser b (get_or items i 0) least)
least_more test items i b least within e l = subst (λ (xs : List ℕ). IsLeast test xs
    (lesser b (get_or items i 0) least)) (sym (take_more items i 0 within))
    (least_last test (take i items) (get_or items i 0) b least e l)
