-- The lists of names, and the changes of one of them.
use Rattle.std.proofs.Common.{◌≡◌, ◌≢◌, ℕ, zero, suc, ◌+◌, ◌<◌, ◌≤◌, List, [], ◌∷◌, ◌++◌, length, refl, sym, ap, ◌∙◌, subst, true, false, ◌||◌, ◌==◌, cond, take, drop, arith, inl, inr, length-append, length-set}
use Rattle.std.proofs.lemmas.Bool.Decides.{Decides-eqb, eqb_tells, leb_tells}
use Rattle.std.proofs.lemmas.List.{get_or-set_same, get_or-set_other, get_or_default, length-take-le, length-drop}
use Rattle.std.specs.Prelude.{slice_index_or, slice_set}
use Rattle.rt_values.specs.Maps.{contains}
use Rattle.snap_ids.specs.IdLists.{IsRising, with_id, without_id}
use Rattle.snap_ids.proofs.Booleans.{same_or_other, not_both, or_right, true_or_false}
use Rattle.snap_ids.proofs.IdLists.{contains-at, contains-with_id, rising-with_id, rising-without_id}
use Rattle.snap_ids.proofs.Removing.{removed_at, none_without}
use Rattle.snap_nested.proofs.Open.{index_of}
use Rattle.snap_world.specs.Noting.{noted_by, AreNotes}

unlike : (a b : ℕ) → a ≢ b → (a == b) ≡ false
unlike a b other = elim (eqb_tells a b) [ inl e ↦ absurd (other e.1) | inr e ↦ e.0 ]

pub unnoted : (ns : List ℕ) (ls : List (List ℕ)) (n : ℕ) → contains n ns ≡ false → noted_by ns ls n ≡ []
unnoted [] ls n h = refl
unnoted (x ∷ ns) [] n h = refl
unnoted (x ∷ ns) (l ∷ ls) n h = elim (eqb_tells x n) [
  | inl e ↦ absurd (not_both (contains n (x ∷ ns)) (ap (λ b. b || contains n ns) e.0) h)
  | inr e ↦ ap (λ b. cond b l (noted_by ns ls n)) e.0
      ∙ unnoted ns ls n (sym (ap (λ b. b || contains n ns) e.0) ∙ h)
]

-- The list of the name at an index.
noted_at : (ns : List ℕ) (ls : List (List ℕ)) (at : ℕ) → IsRising ns → at < length ns → length ls ≡ length ns
    → noted_by ns ls (slice_index_or ns at 0) ≡ slice_index_or ls at []
noted_at [] ls at r h many = absurd (omega (arith, h))
noted_at (x ∷ ns) [] at r h many = absurd (omega (arith, many))
noted_at (x ∷ ns) (l ∷ ls) zero r h many = ap (λ b. cond b l (noted_by ns ls x)) ((Decides-eqb x x).1 refl)
noted_at (x ∷ ns) (l ∷ ls) (suc at) r h many =
    let n = slice_index_or ns at 0 in
    let within : at < length ns = omega (arith, h) in
    let low : x < n = r.0 n (contains-at ns at within) in
    ap (λ b. cond b l (noted_by ns ls n)) (unlike x n (λ same. omega (arith, low, same)))
    ∙ noted_at ns ls at r.1 within (omega (arith, many))

module _ {ns : List ℕ} {ls : List (List ℕ)} (a : AreNotes ns ls) (at name : ℕ) (h : at < length ns)
    (is : slice_index_or ns at 0 ≡ name) where
  pub noted_here : noted_by ns ls name ≡ slice_index_or ls at []
  noted_here = ap (noted_by ns ls) (sym is) ∙ noted_at ns ls at a.rising h a.many

  pub noted_item : (l : List ℕ) → l ≡ slice_index_or ls at l → l ≡ noted_by ns ls name
  noted_item l same = same ∙ get_or_default ls at l [] (omega (arith, h, a.many)) ∙ sym noted_here

  pub set_notes : (l : List ℕ) → AreNotes ns (slice_set ls at l)
  set_notes l = record { many = length-set ls at l ∙ a.many; rising = a.rising }

  pub set_here : (l : List ℕ) → noted_by ns (slice_set ls at l) name ≡ l
  set_here l = ap (noted_by ns (slice_set ls at l)) (sym is)
      ∙ noted_at ns (slice_set ls at l) at a.rising h (length-set ls at l ∙ a.many)
      ∙ get_or-set_same ls at l [] (omega (arith, h, a.many))

  pub set_others : (l : List ℕ) (n : ℕ) → n ≢ name → noted_by ns (slice_set ls at l) n ≡ noted_by ns ls n
  set_others l n other = elim (true_or_false (contains n ns)) [
    | inl k ↦
        let p = index_of n ns k in
        ap (noted_by ns (slice_set ls at l)) (sym p.2)
        ∙ noted_at ns (slice_set ls at l) p.0 a.rising p.1 (length-set ls at l ∙ a.many)
        ∙ get_or-set_other ls at p.0 l [] (λ same. other (sym p.2 ∙ ap (λ (j : ℕ). slice_index_or ns j 0) same ∙ is))
        ∙ sym (ap (noted_by ns ls) (sym p.2) ∙ noted_at ns ls p.0 a.rising p.1 a.many)
    | inr k ↦ unnoted ns (slice_set ls at l) n k ∙ sym (unnoted ns ls n k)
  ]

removed_other : (ns : List ℕ) (ls : List (List ℕ)) (at n : ℕ) → length ls ≡ length ns → at < length ns
    → n ≢ slice_index_or ns at 0
    → noted_by (take at ns ++ drop (suc at) ns) (take at ls ++ drop (suc at) ls) n ≡ noted_by ns ls n
removed_other [] ls at n many h other = absurd (omega (arith, h))
removed_other (x ∷ ns) [] at n many h other = absurd (omega (arith, many))
removed_other (x ∷ ns) (l ∷ ls) zero n many h other =
    sym (ap (λ b. cond b l (noted_by ns ls n)) (unlike x n (λ same. other (sym same))))
removed_other (x ∷ ns) (l ∷ ls) (suc at) n many h other =
    ap (cond (x == n) l) (removed_other ns ls at n (omega (arith, many)) (omega (arith, h)) other)

gone_without : (x : ℕ) (xs : List ℕ) → contains x (without_id x xs) ≡ false
gone_without x [] = refl
gone_without x (y ∷ ys) = elim (eqb_tells y x) [
  | inl e ↦ ap (λ b. contains x (cond b (without_id x ys) (y ∷ without_id x ys))) e.0 ∙ gone_without x ys
  | inr e ↦ ap (λ b. contains x (cond b (without_id x ys) (y ∷ without_id x ys))) e.0
      ∙ ap (λ b. b || contains x (without_id x ys)) e.0 ∙ gone_without x ys
]

counted : (at : ℕ) (X : Type 0) (xs : List X) → at < length xs → length (take at xs ++ drop (suc at) xs) + 1 ≡ length xs
counted at X xs low = omega (
  arith,
  length-append (take at xs) (drop (suc at) xs),
  length-take-le at xs (omega (arith, low)),
  length-drop (suc at) xs,
  low,
)

-- The removal of a name and its list.
module _ {ns : List ℕ} {ls : List (List ℕ)} (a : AreNotes ns ls) (at name : ℕ) (h : at < length ns)
    (is : slice_index_or ns at 0 ≡ name) where
  abbrev pub fewer : List (List ℕ)
  fewer = take at ls ++ drop (suc at) ls

  next : at + 1 ≡ suc at
  next = omega arith

  pub names_removed : take at ns ++ drop (suc at) ns ≡ without_id name ns
  names_removed = ap (λ (n : ℕ). take at ns ++ drop n ns) (sym next) ∙ removed_at name ns at a.rising h is

  pub removed_notes : AreNotes (without_id name ns) fewer
  removed_notes = record {
    many = omega (
      arith,
      counted at (List ℕ) ls (omega (arith, h, a.many)),
      counted at ℕ ns h,
      ap (λ (l : List ℕ). length l) names_removed,
      a.many,
    );
    rising = rising-without_id name ns a.rising;
  }

  pub removed_here : noted_by (without_id name ns) fewer name ≡ []
  removed_here = unnoted (without_id name ns) fewer name (gone_without name ns)

  pub removed_others : (n : ℕ) → n ≢ name → noted_by (without_id name ns) fewer n ≡ noted_by ns ls n
  removed_others n other = ap (λ (l : List ℕ). noted_by l fewer n) (sym names_removed)
      ∙ removed_other ns ls at n a.many h (λ same. other (same ∙ is))

uninserted : {X : Type 0} (xs : List X) (at : ℕ) (x : X) → at ≤ length xs
    → take at (take at xs ++ x ∷ drop at xs) ++ drop (suc at) (take at xs ++ x ∷ drop at xs) ≡ xs
uninserted [] zero x h = refl
uninserted [] (suc at) x h = absurd (omega (arith, h))
uninserted (y ∷ xs) zero x h = refl
uninserted {X} (y ∷ xs) (suc at) x h = ap (λ (l : List X). y ∷ l) (uninserted xs at x (omega (arith, h)))

at_inserted : (xs : List (List ℕ)) (at : ℕ) (x : List ℕ) → at ≤ length xs
    → slice_index_or (take at xs ++ x ∷ drop at xs) at [] ≡ x
at_inserted [] zero x h = refl
at_inserted [] (suc at) x h = absurd (omega (arith, h))
at_inserted (y ∷ xs) zero x h = refl
at_inserted (y ∷ xs) (suc at) x h = at_inserted xs at x (omega (arith, h))

length-inserted : (xs : List (List ℕ)) (at : ℕ) (x : List ℕ) → at ≤ length xs
    → length (take at xs ++ x ∷ drop at xs) ≡ length xs + 1
length-inserted [] zero x h = refl
length-inserted [] (suc at) x h = absurd (omega (arith, h))
length-inserted (y ∷ xs) zero x h = omega arith
length-inserted (y ∷ xs) (suc at) x h = let less = length-inserted xs at x (omega (arith, h)) in omega (arith, less)

without-with : (x : ℕ) (xs : List ℕ) → contains x xs ≡ false → without_id x (with_id x xs) ≡ xs
without-with x [] h = ap (λ b. cond b [] (x ∷ [])) ((Decides-eqb x x).1 refl)
without-with x (y ∷ ys) h = elim (leb_tells (suc x) y) [
  | inl e ↦ ap (λ b. without_id x (cond b (x ∷ y ∷ ys) (cond (x == y) (y ∷ ys) (y ∷ with_id x ys)))) e.0
      ∙ ap (λ b. cond b (without_id x (y ∷ ys)) (x ∷ without_id x (y ∷ ys))) ((Decides-eqb x x).1 refl)
      ∙ none_without x (y ∷ ys) h
  | inr e ↦
      let other : y ≢ x = λ same. not_both (contains x (y ∷ ys))
      (ap (λ b. b || contains x ys) ((Decides-eqb y x).1 same)) h in
      let rest : contains x ys ≡ false = sym (ap (λ b. b || contains x ys) (unlike y x other)) ∙ h in
      ap (λ b. without_id x (cond b (x ∷ y ∷ ys) (cond (x == y) (y ∷ ys) (y ∷ with_id x ys)))) e.0
      ∙ ap (λ b. without_id x (cond b (y ∷ ys) (y ∷ with_id x ys))) (unlike x y (λ same. other (sym same)))
      ∙ ap (λ b. cond b (without_id x (with_id x ys)) (y ∷ without_id x (with_id x ys))) (unlike y x other)
      ∙ ap (λ (l : List ℕ). y ∷ l) (without-with x ys rest)
]

-- An empty list for a name that has none.
module _ {ns : List ℕ} {ls : List (List ℕ)} (a : AreNotes ns ls) (at name : ℕ) (none : contains name ns ≡ false)
    (h : at < length (with_id name ns)) (is : slice_index_or (with_id name ns) at 0 ≡ name) where
  abbrev more : List ℕ
  more = with_id name ns

  abbrev wider : List (List ℕ)
  wider = take at ls ++ [] ∷ drop at ls

  rising : IsRising more
  rising = rising-with_id name ns a.rising

  two : at + 1 ≡ suc at
  two = omega arith

  same_names : take at more ++ drop (suc at) more ≡ ns
  same_names = ap (λ (n : ℕ). take at more ++ drop n more) (sym two) ∙ removed_at name more at rising h is
      ∙ without-with name ns none

  sizes : length ns + 1 ≡ length more
  sizes = omega (arith, counted at ℕ more h, ap (λ (l : List ℕ). length l) same_names)

  pub added_within : at ≤ length ls
  added_within = omega (arith, h, sizes, a.many)

  pub added_notes : AreNotes more wider
  added_notes = record {
    many = omega (arith, length-inserted ls at [] added_within, a.many, sizes);
    rising = rising;
  }

  pub added_same : (n : ℕ) → noted_by more wider n ≡ noted_by ns ls n
  added_same n = elim (same_or_other n name) [
    | inl e ↦ subst (λ (k : ℕ). noted_by more wider k ≡ noted_by ns ls k) (sym e)
        (ap (noted_by more wider) (sym is) ∙ noted_at more wider at rising h added_notes.many
        ∙ at_inserted ls at [] added_within ∙ sym (unnoted ns ls name none))
    | inr e ↦ sym (removed_other more wider at n added_notes.many h (λ same. e (same ∙ is)))
        ∙ ap (λ (l : List ℕ). noted_by l (take at wider ++ drop (suc at) wider) n) same_names
        ∙ ap (λ (l : List (List ℕ)). noted_by ns l n) (uninserted ls at [] added_within)
  ]

pub with_has : (x : ℕ) (xs : List ℕ) → contains x (with_id x xs) ≡ true
with_has x xs = contains-with_id x x xs ∙ or_right (contains x xs) (x == x) ((Decides-eqb x x).1 refl)
