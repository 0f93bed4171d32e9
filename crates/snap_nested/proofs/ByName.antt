-- The members by name, and the changes of their list.
use Rattle.std.proofs.Common.{◌≡◌, ◌≢◌, ℕ, zero, suc, ◌+◌, ◌<◌, List, [], ◌∷◌, ◌++◌, length, refl, sym, ap, ◌∙◌, subst, Bool, true, false, ◌||◌, ◌==◌, nat_lt, cond, take, drop, arith, inl, inr, length-append, length-set}
use Rattle.std.proofs.Math.ListN.{get_or-append}
use Rattle.std.proofs.Math.Seq.{get_or-append_seam}
use Rattle.std.proofs.lemmas.Bool.{cases_lt}
use Rattle.std.proofs.lemmas.Bool.Decides.{Decides-eqb, eqb_tells, leb_tells}
use Rattle.std.proofs.lemmas.List.{get_or-set_same, get_or-set_other, get_or_past, ext_get_or, get_or_default, length-take-le, length-drop}
use Rattle.std.specs.Prelude.{slice_index_or, slice_set}
use Rattle.rt_values.specs.Maps.{contains}
use Rattle.snap_ids.specs.IdLists.{IsRising, with_id, without_id}
use Rattle.snap_ids.proofs.Booleans.{same_or_other, not_both, not_true, true_or_false, or_true}
use Rattle.snap_ids.proofs.IdLists.{contains-at, contains-with_id, contains-without_id, rising-with_id, rising-without_id}
use Rattle.snap_ids.proofs.Removing.{removed_at}
use Rattle.snap_nested.specs.Members.{no_member, member}
use Rattle.snap_nested.specs.ByName.{member_of, by_name, AreListed}
use Rattle.snap_nested.specs.declared.family.Member.{Member}
use Rattle.snap_nested.proofs.Open.{index_of}

pub length-by_name : (c : ℕ) (ns : List ℕ) (os : List Member) → length (by_name c ns os) ≡ c
length-by_name zero ns os = refl
length-by_name (suc c) ns os =
    let one = length-append (by_name c ns os) (member_of ns os c ∷ []) in
    let before = length-by_name c ns os in omega (arith, one, before)

pub below : (c n : ℕ) (ns : List ℕ) (os : List Member) → n < c → member (by_name c ns os) n ≡ member_of ns os n
below zero n ns os h = absurd (omega (arith, h))
below (suc c) n ns os h = elim (cases_lt n c) [
  | inl e ↦ get_or-append (by_name c ns os) (member_of ns os c ∷ []) no_member n (omega (arith, e, length-by_name c ns os))
      ∙ below c n ns os e
  | inr e ↦
      let is : n ≡ c = omega (arith, h, e) in
      subst (λ (k : ℕ). member (by_name (suc c) ns os) k ≡ member_of ns os k) (sym is)
      (subst (λ (k : ℕ). member (by_name c ns os ++ member_of ns os c ∷ []) k ≡ member_of ns os c) (length-by_name c ns os)
      (get_or-append_seam (by_name c ns os) (member_of ns os c) [] no_member))
]

-- A name that is not open has no member.
pub absent : (ns : List ℕ) (os : List Member) (n : ℕ) → contains n ns ≡ false → member_of ns os n ≡ no_member
absent [] os n h = refl
absent (x ∷ ns) [] n h = refl
absent (x ∷ ns) (m ∷ os) n h = elim (eqb_tells x n) [
  | inl e ↦ absurd (not_both (contains n (x ∷ ns)) (ap (λ b. b || contains n ns) e.0) h)
  | inr e ↦ ap (λ b. cond b m (member_of ns os n)) e.0
      ∙ absent ns os n (sym (ap (λ b. b || contains n ns) e.0) ∙ h)
]

-- The name at an index has the member at that index.
pub listed : (ns : List ℕ) (os : List Member) (at : ℕ) → IsRising ns → at < length ns → length os ≡ length ns
    → member_of ns os (slice_index_or ns at 0) ≡ member os at
listed [] os at r h many = absurd (omega (arith, h))
listed (x ∷ ns) [] at r h many = absurd (omega (arith, many))
listed (x ∷ ns) (m ∷ os) zero r h many = ap (λ b. cond b m (member_of ns os x)) ((Decides-eqb x x).1 refl)
listed (x ∷ ns) (m ∷ os) (suc at) r h many =
    let n = slice_index_or ns at 0 in
    let within : at < length ns = omega (arith, h) in
    let low : x < n = r.0 n (contains-at ns at within) in
    let apart : (x == n) ≡ false =
    elim (eqb_tells x n) [ inl e ↦ absurd (omega (arith, low, e.1)) | inr e ↦ e.0 ] in
    ap (λ b. cond b m (member_of ns os n)) apart ∙ listed ns os at r.1 within (omega (arith, many))

pub at_name : {c : ℕ} {ns : List ℕ} {os : List Member} → AreListed c ns os → (n : ℕ)
    → member (by_name c ns os) n ≡ member_of ns os n
at_name {c} {ns} {os} a n = elim (cases_lt n c) [
  | inl h ↦ below c n ns os h
  | inr h ↦ get_or_past (by_name c ns os) n no_member (omega (arith, h, length-by_name c ns os))
      ∙ sym (absent ns os n (not_true (contains n ns) (λ k. omega (arith, a.within n k, h))))
]

-- The member at the index of its name.
pub found : {c : ℕ} {ns : List ℕ} {os : List Member} → AreListed c ns os → (at name : ℕ) → at < length ns
    → slice_index_or ns at 0 ≡ name → member (by_name c ns os) name ≡ member os at
found {c} {ns} {os} a at name h is = at_name a name ∙ ap (member_of ns os) (sym is) ∙ listed ns os at a.rising h a.many

pub indexed : {c : ℕ} {ns : List ℕ} {os : List Member} → AreListed c ns os → (at : ℕ) → at < length ns → (o : Member)
    → o ≡ slice_index_or os at o → o ≡ member os at
indexed {c} {ns} {os} a at h o is = is ∙ get_or_default os at o no_member (omega (arith, h, a.many))

pub unfound : {c : ℕ} {ns : List ℕ} {os : List Member} → AreListed c ns os → (name : ℕ) → contains name ns ≡ false
    → member (by_name c ns os) name ≡ no_member
unfound {c} {ns} {os} a name out = at_name a name ∙ absent ns os name out

-- A live member has an open name.
pub live_open : {c : ℕ} {ns : List ℕ} {os : List Member} → AreListed c ns os → (name : ℕ)
    → (member (by_name c ns os) name).is_live ≡ true → contains name ns ≡ false → ⊥
live_open {c} {ns} {os} a name live out =
    not_both (member (by_name c ns os) name).is_live live (ap (λ (m : Member). m.is_live) (unfound a name out))

-- Two lists with the same members at all other names.
pub one_changed : (xs ys : List Member) (name : ℕ) (m : Member) → length ys ≡ length xs
    → (name < length xs → member ys name ≡ m) → ((n : ℕ) → n ≢ name → member ys n ≡ member xs n)
    → ys ≡ slice_set xs name m
one_changed xs ys name m count here rest = ext_get_or no_member ys (slice_set xs name m)
    (count ∙ sym (length-set xs name m)) (λ i low. elim (same_or_other i name) [
      | inl e ↦ subst (λ (k : ℕ). k < length ys → member ys k ≡ member (slice_set xs name m) k) (sym e)
          (λ h. here (omega (arith, h, count))
          ∙ sym (get_or-set_same xs name m no_member (omega (arith, h, count)))) low
      | inr e ↦ rest i e ∙ sym (get_or-set_other xs name i m no_member e)
    ])

-- The members of the same names from two lists, of which the second has other members.
module _ {c : ℕ} {ns : List ℕ} {os : List Member} (a : AreListed c ns os) (ps : List Member)
    (count : length ps ≡ length os) where
  pub still_listed : AreListed c ns ps
  still_listed = record { many = count ∙ a.many; rising = a.rising; within = a.within }

  pub lengths : length (by_name c ns ps) ≡ length (by_name c ns os)
  lengths = length-by_name c ns ps ∙ sym (length-by_name c ns os)

  -- What holds of the members at each index holds of the members of each name.
  pub each_name : (Q : Member → Member → Type 0) → Q no_member no_member
      → ((j : ℕ) → j < length ns → Q (member os j) (member ps j)) → (n : ℕ)
      → Q (member (by_name c ns os) n) (member (by_name c ns ps) n)
  each_name Q none each n = elim (true_or_false (contains n ns)) [
    | inl h ↦
        let p = index_of n ns h in
        subst (λ (m : Member). Q m (member (by_name c ns ps) n)) (sym (found a p.0 n p.1 p.2))
        (subst (λ (m : Member). Q (member os p.0) m) (sym (found still_listed p.0 n p.1 p.2)) (each p.0 p.1))
    | inr h ↦
        subst (λ (m : Member). Q m (member (by_name c ns ps) n)) (sym (unfound a n h))
        (subst (λ (m : Member). Q no_member m) (sym (unfound still_listed n h)) none)
  ]

module _ {c : ℕ} {ns : List ℕ} {os : List Member} (a : AreListed c ns os) (at name : ℕ) (h : at < length ns)
    (is : slice_index_or ns at 0 ≡ name) (m : Member) where
  pub set_listed : AreListed c ns (slice_set os at m)
  set_listed = still_listed a (slice_set os at m) (length-set os at m)

  pub set_by_name : by_name c ns (slice_set os at m) ≡ slice_set (by_name c ns os) name m
  set_by_name = one_changed (by_name c ns os) (by_name c ns (slice_set os at m)) name m
      (lengths a (slice_set os at m) (length-set os at m))
      (λ low. found set_listed at name h is ∙ get_or-set_same os at m no_member (omega (arith, h, a.many)))
      (λ n other. elim (true_or_false (contains n ns)) [
        | inl k ↦
            let p = index_of n ns k in
            found set_listed p.0 n p.1 p.2
            ∙ get_or-set_other os at p.0 m no_member
            (λ same. other (sym p.2 ∙ ap (λ (j : ℕ). slice_index_or ns j 0) same ∙ is)) ∙ sym (found a p.0 n p.1 p.2)
        | inr k ↦ unfound set_listed n k ∙ sym (unfound a n k)
      ])

  pub changed_by_name : (f : Member → Member) (o : Member) → o ≡ member os at → m ≡ f o
      → by_name c ns (slice_set os at m) ≡ slice_set (by_name c ns os) name (f (member (by_name c ns os) name))
  changed_by_name f o same new = set_by_name
      ∙ ap (λ (p : Member). slice_set (by_name c ns os) name p) (new ∙ ap f (same ∙ sym (found a at name h is)))

-- A new name after all others.
pub with_last : (x : ℕ) (ns : List ℕ) → ((n : ℕ) → contains n ns ≡ true → n < x) → with_id x ns ≡ ns ++ x ∷ []
with_last x [] low = refl
with_last x (y ∷ ys) low =
    let here : y < x = low y (ap (λ b. b || contains y ys) ((Decides-eqb y y).1 refl)) in
    let rest = with_last x ys (λ n h. low n (or_end (y == n) (contains n ys) h)) in
    let past : nat_lt x y ≡ false =
    elim (leb_tells (suc x) y) [ inl e ↦ absurd (omega (arith, here, e.1)) | inr e ↦ e.0 ] in
    let apart : (x == y) ≡ false =
    elim (eqb_tells x y) [ inl e ↦ absurd (omega (arith, here, e.1)) | inr e ↦ e.0 ] in
    ap (λ b. cond b (x ∷ y ∷ ys) (cond (x == y) (y ∷ ys) (y ∷ with_id x ys))) past
    ∙ ap (λ b. cond b (y ∷ ys) (y ∷ with_id x ys)) apart ∙ ap (λ (l : List ℕ). y ∷ l) rest where
      or_end : (b d : Bool) → d ≡ true → (b || d) ≡ true
      or_end true d h = refl
      or_end false d h = h

unlike : (a b : ℕ) → a ≢ b → (a == b) ≡ false
unlike a b other = elim (eqb_tells a b) [ inl e ↦ absurd (other e.1) | inr e ↦ e.0 ]

pushed_other : (c : ℕ) (m : Member) (ns : List ℕ) (os : List Member) (n : ℕ) → length os ≡ length ns → n ≢ c
    → member_of (ns ++ c ∷ []) (os ++ m ∷ []) n ≡ member_of ns os n
pushed_other c m [] [] n many other =
    ap (λ b. cond b m no_member) (unlike c n (λ same. other (sym same)))
pushed_other c m [] (o ∷ os) n many other = absurd (omega (arith, many))
pushed_other c m (x ∷ ns) [] n many other = absurd (omega (arith, many))
pushed_other c m (x ∷ ns) (o ∷ os) n many other =
    ap (cond (x == n) o) (pushed_other c m ns os n (omega (arith, many)) other)

pushed_here : (c : ℕ) (m : Member) (ns : List ℕ) (os : List Member) → length os ≡ length ns
    → ((n : ℕ) → contains n ns ≡ true → n < c) → member_of (ns ++ c ∷ []) (os ++ m ∷ []) c ≡ m
pushed_here c m [] [] many low = ap (λ b. cond b m no_member) ((Decides-eqb c c).1 refl)
pushed_here c m [] (o ∷ os) many low = absurd (omega (arith, many))
pushed_here c m (x ∷ ns) [] many low = absurd (omega (arith, many))
pushed_here c m (x ∷ ns) (o ∷ os) many low =
    let here : x < c = low x (ap (λ b. b || contains x ns) ((Decides-eqb x x).1 refl)) in
    ap (λ b. cond b o (member_of (ns ++ c ∷ []) (os ++ m ∷ []) c))
    (unlike x c (λ same. omega (arith, here, same)))
    ∙ pushed_here c m ns os (omega (arith, many)) (λ n h. low n (or_end (x == n) (contains n ns) h)) where
      or_end : (b d : Bool) → d ≡ true → (b || d) ≡ true
      or_end true d h = refl
      or_end false d h = h

same_by_name : (c : ℕ) (ns ks : List ℕ) (os ps : List Member)
    → ((n : ℕ) → n < c → member_of ks ps n ≡ member_of ns os n) → by_name c ks ps ≡ by_name c ns os
same_by_name zero ns ks os ps each = refl
same_by_name (suc c) ns ks os ps each =
    ap (λ (l : List Member). l ++ member_of ks ps c ∷ [])
    (same_by_name c ns ks os ps (λ n h. each n (omega (arith, h))))
    ∙ ap (λ (m : Member). by_name c ns os ++ m ∷ []) (each c (omega arith))

gone_without : (x : ℕ) (xs : List ℕ) → contains x (without_id x xs) ≡ false
gone_without x [] = refl
gone_without x (y ∷ ys) = elim (eqb_tells y x) [
  | inl e ↦ ap (λ b. contains x (cond b (without_id x ys) (y ∷ without_id x ys))) e.0 ∙ gone_without x ys
  | inr e ↦ ap (λ b. contains x (cond b (without_id x ys) (y ∷ without_id x ys))) e.0
      ∙ ap (λ b. b || contains x (without_id x ys)) e.0 ∙ gone_without x ys
]

module _ {c : ℕ} {ns : List ℕ} {os : List Member} (a : AreListed c ns os) (m : Member) where
  abbrev more : List ℕ
  more = ns ++ c ∷ []

  is_more : with_id c ns ≡ more
  is_more = with_last c ns a.within

  pub push_listed : AreListed (suc c) (with_id c ns) (os ++ m ∷ [])
  push_listed = record {
    many = length-append os (m ∷ []) ∙ ap (λ (k : ℕ). k + 1) a.many
        ∙ sym (ap (λ (l : List ℕ). length l) is_more ∙ length-append ns (c ∷ []));
    rising = rising-with_id c ns a.rising;
    within = λ n h. elim (or_true (contains n ns) (n == c) (sym (contains-with_id n c ns) ∙ h)) [
      | inl e ↦ omega (arith, a.within n e)
      | inr e ↦ omega (arith, (Decides-eqb n c).0 e)
    ];
  }

  pub push_by_name : by_name (suc c) (with_id c ns) (os ++ m ∷ []) ≡ by_name c ns os ++ m ∷ []
  push_by_name = ap (λ (l : List ℕ). by_name (suc c) l (os ++ m ∷ [])) is_more
      ∙ ap (λ (l : List Member). l ++ member_of more (os ++ m ∷ []) c ∷ [])
      (same_by_name c ns more os (os ++ m ∷ []) (λ n low. pushed_other c m ns os n a.many (λ same. omega (arith, low, same))))
      ∙ ap (λ (o : Member). by_name c ns os ++ o ∷ []) (pushed_here c m ns os a.many a.within)

removed_other : (ns : List ℕ) (os : List Member) (at n : ℕ) → length os ≡ length ns → at < length ns
    → n ≢ slice_index_or ns at 0
    → member_of (take at ns ++ drop (suc at) ns) (take at os ++ drop (suc at) os) n ≡ member_of ns os n
removed_other [] os at n many h other = absurd (omega (arith, h))
removed_other (x ∷ ns) [] at n many h other = absurd (omega (arith, many))
removed_other (x ∷ ns) (o ∷ os) zero n many h other = sym (ap (λ b. cond b o (member_of ns os n))
    (unlike x n (λ same. other (sym same))))
removed_other (x ∷ ns) (o ∷ os) (suc at) n many h other =
    ap (cond (x == n) o) (removed_other ns os at n (omega (arith, many)) (omega (arith, h)) other)

-- The removal of a name and its member.
module _ {c : ℕ} {ns : List ℕ} {os : List Member} (a : AreListed c ns os) (at name : ℕ) (h : at < length ns)
    (is : slice_index_or ns at 0 ≡ name) where
  abbrev pub fewer : List Member
  fewer = take at os ++ drop (suc at) os

  next : at + 1 ≡ suc at
  next = omega arith

  names_removed : take at ns ++ drop (suc at) ns ≡ without_id name ns
  names_removed = ap (λ (n : ℕ). take at ns ++ drop n ns) (sym next) ∙ removed_at name ns at a.rising h is

  other_member : (n : ℕ) → n ≢ name → member_of (without_id name ns) fewer n ≡ member_of ns os n
  other_member n other = ap (λ (l : List ℕ). member_of l fewer n) (sym names_removed)
      ∙ removed_other ns os at n a.many h (λ same. other (same ∙ is))

  out : contains name (without_id name ns) ≡ false
  out = gone_without name ns

  counted : (X : Type 0) (xs : List X) → at < length xs → length (take at xs ++ drop (suc at) xs) + 1 ≡ length xs
  counted X xs low = omega (
    arith,
    length-append (take at xs) (drop (suc at) xs),
    length-take-le at xs (omega (arith, low)),
    length-drop (suc at) xs,
    low,
  )

  pub removed_listed : AreListed c (without_id name ns) fewer
  removed_listed = record {
    many = omega (
      arith,
      counted Member os (omega (arith, h, a.many)),
      counted ℕ ns h,
      ap (λ (l : List ℕ). length l) names_removed,
      a.many,
    );
    rising = rising-without_id name ns a.rising;
    within = λ n k. a.within n (contains-without_id n name ns k);
  }

  pub removed_by_name : by_name c (without_id name ns) fewer ≡ slice_set (by_name c ns os) name no_member
  removed_by_name = one_changed (by_name c ns os) (by_name c (without_id name ns) fewer) name no_member
      (length-by_name c (without_id name ns) fewer ∙ sym (length-by_name c ns os))
      (λ low. unfound removed_listed name out)
      (λ n other. at_name removed_listed n ∙ other_member n other ∙ sym (at_name a n))

-- The removal of a name that is not open changes nothing.
pub none_removed : (xs : List Member) (name : ℕ) → member xs name ≡ no_member → xs ≡ slice_set xs name no_member
none_removed xs name is = one_changed xs xs name no_member refl (λ low. is) (λ n other. refl)

-- The removal of the last name and its member.
module _ {c : ℕ} {ns : List ℕ} {os : List Member} (a : AreListed (suc c) ns os) (at : ℕ) (h : at < length ns)
    (is : slice_index_or ns at 0 ≡ c) where
  pub popped_listed : AreListed c (without_id c ns) (fewer a at c h is)
  popped_listed =
      let gone = removed_listed a at c h is in
      record {
        many = gone.many;
        rising = gone.rising;
        within = λ n k. elim (same_or_other n c) [
          | inl e ↦ absurd (not_both (contains c (without_id c ns))
              (subst (λ (j : ℕ). contains j (without_id c ns) ≡ true) e k) (gone_without c ns))
          | inr e ↦ omega (arith, gone.within n k, e)
        ];
      }

  pub popped_by_name : by_name c (without_id c ns) (fewer a at c h is) ≡ by_name c ns os
  popped_by_name = same_by_name c ns (without_id c ns) os (fewer a at c h is)
      (λ n low. other_member a at c h is n (λ same. omega (arith, low, same)))

-- The list without its last member.
pub last_apart : (xs ys : List Member) (x y : Member) → xs ++ x ∷ [] ≡ ys ++ y ∷ [] → (xs ≡ ys) × (x ≡ y)
last_apart xs ys x y same =
    let sizes : length xs ≡ length ys = omega (
      arith,
      length-append xs (x ∷ []),
      length-append ys (y ∷ []),
      ap (λ (l : List Member). length l) same,
    ) in (
      ext_get_or no_member xs ys sizes (λ i low.
          sym (get_or-append xs (x ∷ []) no_member i low) ∙ ap (λ (l : List Member). member l i) same
          ∙ get_or-append ys (y ∷ []) no_member i (omega (arith, low, sizes))),
      sym (get_or-append_seam xs x [] no_member) ∙ ap (λ (l : List Member). member l (length xs)) same
          ∙ ap (λ (k : ℕ). member (ys ++ y ∷ []) k) sizes ∙ get_or-append_seam ys y [] no_member,
    )
