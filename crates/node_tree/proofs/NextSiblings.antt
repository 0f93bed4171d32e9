-- The siblings of a list of nodes in preorder.
use Rattle.std.proofs.Common.{◌≡◌, ℕ, zero, suc, ◌+◌, ◌-◌, ◌≤◌, ◌<◌, min, List, [], ◌∷◌, ◌++◌, length, take, drop, get_or, ap, sym, ◌∙◌, arith, append_assoc}
use Rattle.std.proofs.Common.{◌==◌, inl, inr, Bool, cond, Option, Some, if◌then◌else◌}
use Rattle.std.specs.Option.{is_some}
use Rattle.std.specs.Ordering.{nat_cmp, is_eq}
use Rattle.std.specs.declared.cmp.Ordering.{Ordering}
use Rattle.std.specs.declared.cmp.Ordering.TheVariants.{Less, Equal, Greater}
use Rattle.std.specs.Cmp.{nat_cmp_is}
use Rattle.std.specs.BTreeMap.{is_at}
use Rattle.std.proofs.lemmas.Bool.{cases_order, eq-eqb, ne_eqb}
use Rattle.std.proofs.lemmas.List.{drop_more, take_more, map-append, drop-drop, length-drop}
use Rattle.node_tree.specs.declared.siblings.Sibling.{Sibling}
use Rattle.node_tree.specs.FlatNodes.{FlatNode}
use Rattle.node_tree.specs.Counting.{total}
use Rattle.node_tree.specs.SiblingLists.{sibling_list, last_index, index_in, kept_counts}

-- Skipping nodes leaves the siblings of the list after them.
skipped : (k at : ℕ) (xs : List FlatNode)
    → sibling_list k at xs ≡ sibling_list 0 (at + min k (length xs)) (drop (min k (length xs)) xs)
skipped zero at xs = ap (λ n. sibling_list 0 n xs) (let e : at ≡ at + min 0 (length xs) = omega arith in e)
    ∙ ap (λ n. sibling_list 0 (at + min 0 (length xs)) (drop n xs)) (let e : 0 ≡ min 0 (length xs) = omega arith in e)
skipped (suc k) at [] = let none : min (suc k) 0 ≡ 0 = omega arith in
    ap (λ n. sibling_list 0 (at + n) (drop n [])) (sym none)
skipped (suc k) at (x ∷ xs) =
    let less : min (suc k) (suc (length xs)) ≡ suc (min k (length xs)) = omega arith in
    let far : at + 1 + min k (length xs) ≡ at + min (suc k) (suc (length xs)) = omega arith in
    skipped k (at + 1) xs
    ∙ ap (λ n. sibling_list 0 n (drop (min k (length xs)) xs)) far
    ∙ ap (λ n. sibling_list 0 (at + min (suc k) (suc (length xs))) (drop n (x ∷ xs))) (sym less)

-- The first sibling of a list at an index, and those after it.
pub next_sibling : (xs : List FlatNode) (x : FlatNode) (at end : ℕ) → at < length xs → x ≡ get_or xs at x
    → end ≡ at + 1 + min x.inner (length xs - at - 1)
    → sibling_list 0 at (drop at xs) ≡ record { number = x.number; start = at; end = end }
    ∷ sibling_list 0 end (drop end xs)
next_sibling xs x at end below read is =
    let rest : drop at xs ≡ x ∷ drop (at + 1) xs =
    drop_more xs at x below ∙ ap (λ y. y ∷ drop (at + 1) xs) (sym read) in
    let long : length (drop (at + 1) xs) ≡ length xs - at - 1 = omega (arith, length-drop (at + 1) xs) in
    let bound : min x.inner (length (drop (at + 1) xs)) ≡ min x.inner (length xs - at - 1) =
    ap (λ n. min x.inner n) long in
    let there : at + 1 + min x.inner (length (drop (at + 1) xs)) ≡ end = omega (arith, bound, is) in
    let after : drop (min x.inner (length (drop (at + 1) xs))) (drop (at + 1) xs) ≡ drop end xs =
    drop-drop (min x.inner (length (drop (at + 1) xs))) (at + 1) xs ∙ ap (λ n. drop n xs) there in
    ap (λ l. sibling_list 0 at l) rest
    ∙ ap (λ n. record { number = x.number; start = at; end = n } ∷ sibling_list x.inner (at + 1) (drop (at + 1) xs))
    there
    ∙ ap (λ l. record { number = x.number; start = at; end = end } ∷ l) (skipped x.inner (at + 1) (drop (at + 1) xs))
    ∙ ap (λ n. record { number = x.number; start = at; end = end } ∷ sibling_list 0 n
    (drop (min x.inner (length (drop (at + 1) xs))) (drop (at + 1) xs))) there
    ∙ ap (λ l. record { number = x.number; start = at; end = end } ∷ sibling_list 0 end l) after

-- The next sibling is appended to the list of siblings.
pub one_more : (xs : List FlatNode) (x y : FlatNode) (at end : ℕ) (found now whole : List Sibling) → at < length xs
    → x ≡ get_or xs at x → y ≡ x → end ≡ at + 1 + min y.inner (length xs - at - 1)
    → now ≡ found ++ record { number = y.number; start = at; end = end } ∷ []
    → found ++ sibling_list 0 at (drop at xs) ≡ whole
    → (now ++ sibling_list 0 end (drop end xs) ≡ whole) × (end ≤ length xs)
one_more xs x y at end found now whole below read same is pushed so =
    let there : end ≡ at + 1 + min x.inner (length xs - at - 1) =
    is ∙ ap (λ (z : FlatNode). at + 1 + min z.inner (length xs - at - 1)) same in (
      ap (λ l. l ++ sibling_list 0 end (drop end xs)) pushed
          ∙ append_assoc found (record { number = y.number; start = at; end = end } ∷ [])
          (sibling_list 0 end (drop end xs))
          ∙ ap (λ (z : FlatNode). found ++ (record { number = z.number; start = at; end = end } ∷ sibling_list 0 end
          (drop end xs))) same
          ∙ ap (λ l. found ++ l) (sym (next_sibling xs x at end below read there)) ∙ so,
      omega (arith, there),
    )

-- Whether two numbers compare as equal.
at_number : (a q : ℕ) → is_at (nat_cmp a) q ≡ (a == q)
at_number a q = elim (cases_order a q) [
  | inl same ↦ ap (λ (r : Ordering). is_eq r) (sym (nat_cmp_is a q Equal same)) ∙ sym (eq-eqb a q same)
  | inr apart ↦ elim apart [
    | inl less ↦ ap (λ (r : Ordering). is_eq r) (sym (nat_cmp_is a q Less less))
        ∙ sym (ne_eqb a q (λ e. absurd (omega arith)))
    | inr more ↦ ap (λ (r : Ordering). is_eq r) (sym (nat_cmp_is a q Greater more))
        ∙ sym (ne_eqb a q (λ e. absurd (omega arith)))
  ]
]

-- The last index of a number after the next sibling is compared.
pub one_index : (ss : List Sibling) (d : Sibling) (i q : ℕ) (was now whole : Option ℕ) → i < length ss
    → now ≡ cond (is_at (nat_cmp (get_or ss i d).number) q) (Some i) was → last_index q i was (drop i ss) ≡ whole
    → last_index q (i + 1) now (drop (i + 1) ss) ≡ whole
one_index ss d i q was now whole below is so =
    ap (λ o. last_index q (i + 1) o (drop (i + 1) ss))
    (is ∙ ap (λ (b : Bool). cond b (Some i) was) (at_number (get_or ss i d).number q))
    ∙ ap (λ l. last_index q i was l) (sym (drop_more ss i d below))
    ∙ so

-- The counts after the count of the next sibling is appended.
pub one_count : (new old : List Sibling) (d : Sibling) (i count : ℕ) (o : Option ℕ) (found now : List ℕ)
    → i < length old → o ≡ index_in (get_or old i d).number new → count ≡ (if is_some o then 1 else 0)
    → now ≡ found ++ count ∷ [] → found ≡ kept_counts new (take i old) → now ≡ kept_counts new (take (i + 1) old)
one_count new old d i count o found now below is counted pushed so =
    pushed ∙ ap (λ n. found ++ n ∷ []) (counted ∙ ap (λ (p : Option ℕ). if is_some p then 1 else 0) is)
    ∙ ap (λ l. l ++ (if is_some (index_in (get_or old i d).number new) then 1 else 0) ∷ []) so
    ∙ sym (ap (λ l. kept_counts new l) (take_more old i d below)
    ∙ map-append (λ (s : Sibling). if is_some (index_in s.number new) then 1 else 0) (take i old)
    (get_or old i d ∷ []))

pub total_more : (cs : List ℕ) (c : ℕ) → total (cs ++ c ∷ []) ≡ total cs + c
total_more [] c = omega arith
total_more (x ∷ cs) c = omega (arith, total_more cs c)
