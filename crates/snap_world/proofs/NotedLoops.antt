-- A change of the chain of each object in a list, object by object. Objects may occur twice in the list.
use Rattle.std.proofs.Common.{◌≡◌, ◌≢◌, ℕ, ◌+◌, ◌<◌, ◌≤◌, ◌==◌, ◌||◌, List, [], ◌∷◌, ◌++◌, length, take, refl, sym, ap, ◌∙◌, subst, Bool, true, false, cond, arith, inl, inr}
use Rattle.std.proofs.lemmas.Bool.{cases_lt}
use Rattle.std.proofs.lemmas.Bool.Decides.{Decides-eqb, eqb_tells}
use Rattle.std.proofs.lemmas.List.{take_more, take_all}
use Rattle.std.specs.Prelude.{slice_index_or}
use Rattle.rt_values.specs.Maps.{contains}
use Rattle.snap_ids.proofs.Booleans.{same_or_other, or_right, or_none}
use Rattle.snap_records.specs.Records.{Rec}
use Rattle.snap_records.specs.Edits.{record_without_ids, chain_without_ids, with_head_id}
use Rattle.snap_ids.proofs.IdLists.{or_assoc as or_more}

pub contains_last : (x y : ℕ) (xs : List ℕ) → contains x (xs ++ y ∷ []) ≡ (contains x xs || y == x)
contains_last x y [] = or_none (y == x) false refl
contains_last x y (z ∷ xs) =
    ap (λ (b : Bool). z == x || b) (contains_last x y xs) ∙ or_more (z == x) (contains x xs) (y == x)

pub contains_more : (x : ℕ) (items : List ℕ) (i : ℕ) → i < length items
    → contains x (take (i + 1) items) ≡ (contains x (take i items) || slice_index_or items i 0 == x)
contains_more x items i h = ap (λ (l : List ℕ). contains x l) (take_more items i 0 h)
    ∙ contains_last x (slice_index_or items i 0) (take i items)

-- Of the chains below `count`, those of the first `i` objects of the list are changed.
abbrev pub IsDone : (List Rec → List Rec) → List ℕ → ℕ → (ℕ → List Rec) → ℕ → (ℕ → List Rec) → Type 0
IsDone f items count before i now =
    (x : ℕ) → x < count → now x ≡ cond (contains x (take i items)) (f (before x)) (before x)

module _ (f : List Rec → List Rec) (again : (c : List Rec) → f (f c) ≡ f c) (items : List ℕ) (count : ℕ)
    (before : ℕ → List Rec) where
  once : (b : Bool) (c : List Rec) → f (cond b (f c) c) ≡ f c
  once true c = again c
  once false c = refl

  pub done_more : (i : ℕ) (now next : ℕ → List Rec) → i < length items → IsDone f items count before i now →
      (slice_index_or items i 0 < count → next (slice_index_or items i 0) ≡ f (now (slice_index_or items i 0)))
      → ((x : ℕ) → x ≢ slice_index_or items i 0 → next x ≡ now x) → IsDone f items count before (i + 1) next
  done_more i now next h done here others x small = elim (same_or_other x (slice_index_or items i 0)) [
    | inl e ↦
        let listed : contains x (take (i + 1) items) ≡ true = contains_more x items i h
        ∙ or_right (contains x (take i items)) (slice_index_or items i 0 == x)
        ((Decides-eqb (slice_index_or items i 0) x).1 (sym e)) in
        ap next e ∙ here (omega (arith, small, e)) ∙ ap (λ (y : ℕ). f (now y)) (sym e) ∙ ap f (done x small)
        ∙ once (contains x (take i items)) (before x)
        ∙ sym (ap (λ (b : Bool). cond b (f (before x)) (before x)) listed)
    | inr e ↦
        let same : contains x (take (i + 1) items) ≡ contains x (take i items) = contains_more x items i h
        ∙ or_none (contains x (take i items)) (slice_index_or items i 0 == x)
        (unequal (slice_index_or items i 0) x (λ d. e (sym d))) in
        others x e ∙ done x small ∙ sym (ap (λ (b : Bool). cond b (f (before x)) (before x)) same)
  ] where
    unequal : (a b : ℕ) → a ≢ b → (a == b) ≡ false
    unequal a b other = elim (eqb_tells a b) [ inl d ↦ absurd (other d.1) | inr d ↦ d.0 ]

  pub done_put : (i : ℕ) (now : ℕ → List Rec) → length items ≤ i → IsDone f items count before i now → (x : ℕ)
      → x < count → contains x items ≡ true → now x ≡ f (before x)
  done_put i now end done x small listed = done x small
      ∙ ap (λ (b : Bool). cond b (f (before x)) (before x))
      (ap (λ (l : List ℕ). contains x l) (take_all i items end) ∙ listed)

  pub done_left : (i : ℕ) (now : ℕ → List Rec) → length items ≤ i → IsDone f items count before i now
      → ((x : ℕ) → count ≤ x → now x ≡ before x) → (x : ℕ) → contains x items ≡ false → now x ≡ before x
  done_left i now end done past x unlisted = elim (cases_lt x count) [
    | inl small ↦ done x small ∙ ap (λ (b : Bool). cond b (f (before x)) (before x))
        (ap (λ (l : List ℕ). contains x l) (take_all i items end) ∙ unlisted)
    | inr e ↦ past x e
  ]

clear_again : (ids : List ℕ) (r : Rec) → record_without_ids ids (record_without_ids ids r) ≡ record_without_ids ids r
clear_again ids r = by (contains r.id ids) refl where
  none : (b : Bool) → cond b (record r { id = 0 }) (record r { id = 0 }) ≡ record r { id = 0 }
  none true = refl
  none false = refl

  by : (b : Bool) → contains r.id ids ≡ b
      → record_without_ids ids (cond b (record r { id = 0 }) r) ≡ cond b (record r { id = 0 }) r
  by true h = none (contains 0 ids)
  by false h = ap (λ (b : Bool). cond b (record r { id = 0 }) r) h

pub clears_again : (ids : List ℕ) (c : List Rec)
    → chain_without_ids ids (chain_without_ids ids c) ≡ chain_without_ids ids c
clears_again ids [] = refl
clears_again ids (r ∷ c) = ap (λ (t : Rec). t ∷ chain_without_ids ids (chain_without_ids ids c)) (clear_again ids r)
    ∙ ap (λ (l : List Rec). record_without_ids ids r ∷ l) (clears_again ids c)

pub raises_again : (id : ℕ) (c : List Rec) → with_head_id id (with_head_id id c) ≡ with_head_id id c
raises_again id [] = refl
raises_again id (r ∷ c) = refl

-- A change of the head's id keeps a chain nonempty.
pub some_raised : (id : ℕ) (b : Bool) (c d : List Rec) → d ≡ cond b (with_head_id id c) c → 0 < length c → 0 < length d
some_raised id b c d is some = subst (λ (l : List Rec). 0 < length l) (sym is) (by b c some) where
  by : (b : Bool) (c : List Rec) → 0 < length c → 0 < length (cond b (with_head_id id c) c)
  by true [] h = h
  by true (r ∷ c) h = omega arith
  by false c h = h
