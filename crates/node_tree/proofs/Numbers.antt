-- Lists of nodes with numbers.
use Rattle.std.proofs.Common.{◌≡◌, ℕ, ◌+◌, ◌==◌, inl, inr, Bool, true, false, ◌||◌, List, [], ◌∷◌, ◌++◌, length, Option, Some, cond, if◌then◌else◌, refl, ap, sym, ◌∙◌, subst, arith}
use Rattle.std.specs.Option.{is_some}
use Rattle.std.proofs.lemmas.Bool.{eqb-true, ne_eqb, true≢false, false≢true, cases_Bool}
use Rattle.node_tree.specs.NodeTrees.{TreeNode}
use Rattle.node_tree.specs.Placing.{lists_number, numbered_node, node_index, nodes_without, staying_nodes}
use Rattle.node_tree.specs.Premises.{HaveDistinctNumbers}

pub has_is_some : (k : ℕ) (ns : List TreeNode) → lists_number k ns ≡ is_some (numbered_node k ns)
has_is_some k [] = refl
has_is_some k (n ∷ ns) = by (n.number == k) (has_is_some k ns)
  where
    by : (b : Bool) → lists_number k ns ≡ is_some (numbered_node k ns)
        → (b || lists_number k ns) ≡ is_some (if b then Some n else numbered_node k ns)
    by true e = refl
    by false e = e

-- A list that has a number, split at the first node with it.
pub record SplitAt (k : ℕ) (ns : List TreeNode) : Type 0 where
  pub before : List TreeNode
  pub node : TreeNode
  pub after : List TreeNode
  pub whole : ns ≡ before ++ (node ∷ after)
  pub index : length before ≡ node_index k ns
  pub left : nodes_without k ns ≡ before ++ after
  pub found : numbered_node k ns ≡ Some node

pub split_at_number : (k : ℕ) (ns : List TreeNode) → lists_number k ns ≡ true → SplitAt k ns
split_at_number k [] e = absurd (false≢true e)
split_at_number k (n ∷ ns) e = by (n.number == k) refl e (split_at_number k ns)
  where
    by : (b : Bool) → (n.number == k) ≡ b → (b || lists_number k ns) ≡ true → (lists_number k ns ≡ true → SplitAt k ns)
        → SplitAt k (n ∷ ns)
    by true is h go = record {
      before = [];
      node = n;
      after = ns;
      whole = refl;
      index = sym (ap (λ (c : Bool). if c then 0 else 1 + node_index k ns) is);
      left = ap (λ (c : Bool). if c then ns else n ∷ nodes_without k ns) is;
      found = ap (λ (c : Bool). if c then Some n else numbered_node k ns) is;
    }
    by false is h go =
        let s = go h in
        record {
          before = n ∷ s.before;
          node = s.node;
          after = s.after;
          whole = ap (λ l. n ∷ l) s.whole;
          index = (let h : length (n ∷ s.before) ≡ 1 + node_index k ns = omega (arith, s.index) in h)
              ∙ sym (ap (λ (c : Bool). if c then 0 else 1 + node_index k ns) is);
          left = ap (λ (c : Bool). if c then ns else n ∷ nodes_without k ns) is ∙ ap (λ l. n ∷ l) s.left;
          found = ap (λ (c : Bool). if c then Some n else numbered_node k ns) is ∙ s.found;
        }

-- Removing a number from a list keeps the nodes with other numbers.
pub other_numbered : (k j : ℕ) (ns : List TreeNode) → (k ≡ j → ⊥)
    → numbered_node j (nodes_without k ns) ≡ numbered_node j ns
other_numbered k j [] ne = refl
other_numbered k j (n ∷ ns) ne = by (n.number == k) refl (other_numbered k j ns ne)
  where
    by : (b : Bool) → (n.number == k) ≡ b → numbered_node j (nodes_without k ns) ≡ numbered_node j ns
        → numbered_node j (if b then ns else n ∷ nodes_without k ns) ≡ numbered_node j (n ∷ ns)
    by true is go =
        let same : n.number ≡ k = eqb-true n.number k is in
        let lacks : (n.number == j) ≡ false = ne_eqb n.number j (λ e. ne (sym same ∙ e)) in
        sym (ap (λ (c : Bool). if c then Some n else numbered_node j ns) lacks)
    by false is go = ap (λ (o : Option TreeNode). if n.number == j then Some n else o) go

pub still_has : (k j : ℕ) (ns : List TreeNode) → lists_number j (nodes_without k ns) ≡ true → lists_number j ns ≡ true
still_has k j [] h = h
still_has k j (n ∷ ns) h = by (n.number == k) h (still_has k j ns)
  where
    right : (b c : Bool) → c ≡ true → (b || c) ≡ true
    right true c e = refl
    right false c e = e

    by : (b : Bool) → lists_number j (if b then ns else n ∷ nodes_without k ns) ≡ true
        → (lists_number j (nodes_without k ns) ≡ true → lists_number j ns ≡ true)
        → lists_number j (n ∷ ns) ≡ true
    by true h go = right (n.number == j) (lists_number j ns) h
    by false h go = both (n.number == j) h
      where
        both : (c : Bool) → (c || lists_number j (nodes_without k ns)) ≡ true → (c || lists_number j ns) ≡ true
        both true e = refl
        both false e = go e

has_not : (k j : ℕ) (ns : List TreeNode) → lists_number j ns ≡ false → lists_number j (nodes_without k ns) ≡ false
has_not k j ns h = elim (cases_Bool (lists_number j (nodes_without k ns))) [
  | inl e ↦ absurd (true≢false (sym (still_has k j ns e) ∙ h))
  | inr e ↦ e
]

pub distinct_without : (k : ℕ) (ns : List TreeNode) → HaveDistinctNumbers ns → HaveDistinctNumbers (nodes_without k ns)
distinct_without k [] d = tt
distinct_without k (n ∷ ns) d = by (n.number == k) (distinct_without k ns d.1)
  where
    by : (b : Bool) → HaveDistinctNumbers (nodes_without k ns)
        → HaveDistinctNumbers (if b then ns else n ∷ nodes_without k ns)
    by true go = d.1
    by false go = (has_not k n.number ns d.0, go)

pub gone_without : (k : ℕ) (ns : List TreeNode) → HaveDistinctNumbers ns → lists_number k (nodes_without k ns) ≡ false
gone_without k [] d = refl
gone_without k (n ∷ ns) d = by (n.number == k) refl (gone_without k ns d.1)
  where
    by : (b : Bool) → (n.number == k) ≡ b → lists_number k (nodes_without k ns) ≡ false
        → lists_number k (if b then ns else n ∷ nodes_without k ns) ≡ false
    by true is go = subst (λ (j : ℕ). lists_number j ns ≡ false) (eqb-true n.number k is) d.0
    by false is go = ap (λ (c : Bool). c || lists_number k (nodes_without k ns)) is ∙ go

-- The old nodes that stay: all of them are in the new list, and the new numbers are found as before.
pub stays : (j : ℕ) (new old : List TreeNode) → lists_number j new ≡ true
    → numbered_node j (staying_nodes new old) ≡ numbered_node j old
stays j new [] h = refl
stays j new (o ∷ old) h = by (lists_number o.number new) refl (stays j new old h)
  where
    by : (b : Bool) → lists_number o.number new ≡ b → numbered_node j (staying_nodes new old) ≡ numbered_node j old
        → numbered_node j (cond b (o ∷ staying_nodes new old) (staying_nodes new old)) ≡ numbered_node j (o ∷ old)
    by true is go = ap (λ (r : Option TreeNode). if o.number == j then Some o else r) go
    by false is go =
        let lacks : (o.number == j) ≡ false =
        ne_eqb o.number j (λ e. true≢false (sym (ap (λ (i : ℕ). lists_number i new) e ∙ h) ∙ is)) in
        go ∙ sym (ap (λ (c : Bool). if c then Some o else numbered_node j old) lacks)

pub staying_is_new : (j : ℕ) (new old : List TreeNode) → lists_number j (staying_nodes new old) ≡ true
    → lists_number j new ≡ true
staying_is_new j new [] h = absurd (false≢true h)
staying_is_new j new (o ∷ old) h = by (lists_number o.number new) refl h (staying_is_new j new old)
  where
    by : (b : Bool) → lists_number o.number new ≡ b
        → lists_number j (cond b (o ∷ staying_nodes new old) (staying_nodes new old)) ≡ true
        → (lists_number j (staying_nodes new old) ≡ true → lists_number j new ≡ true) → lists_number j new ≡ true
    by true is h go = at (o.number == j) refl h
      where
        at : (c : Bool) → (o.number == j) ≡ c → (c || lists_number j (staying_nodes new old)) ≡ true
            → lists_number j new ≡ true
        at true same h = sym (ap (λ (i : ℕ). lists_number i new) (eqb-true o.number j same)) ∙ is
        at false same h = go h
    by false is h go = go h

staying_is_old : (j : ℕ) (new old : List TreeNode) → lists_number j old ≡ false
    → lists_number j (staying_nodes new old) ≡ false
staying_is_old j new [] h = refl
staying_is_old j new (o ∷ old) h = by (lists_number o.number new) (staying_is_old j new old)
  where
    parts : (b c : Bool) → (b || c) ≡ false → (b ≡ false) × (c ≡ false)
    parts true c e = absurd (true≢false e)
    parts false c e = (refl, e)

    by : (b : Bool) → (lists_number j old ≡ false → lists_number j (staying_nodes new old) ≡ false)
        → lists_number j (cond b (o ∷ staying_nodes new old) (staying_nodes new old)) ≡ false
    by true go =
        let p = parts (o.number == j) (lists_number j old) h in
        ap (λ (c : Bool). c || lists_number j (staying_nodes new old)) p.0 ∙ go p.1
    by false go = go (parts (o.number == j) (lists_number j old) h).1

pub distinct_staying : (new old : List TreeNode) → HaveDistinctNumbers old → HaveDistinctNumbers (staying_nodes new old)
distinct_staying new [] d = tt
distinct_staying new (o ∷ old) d = by (lists_number o.number new) (distinct_staying new old d.1)
  where
    by : (b : Bool) → HaveDistinctNumbers (staying_nodes new old)
        → HaveDistinctNumbers (cond b (o ∷ staying_nodes new old) (staying_nodes new old))
    by true go = (staying_is_old o.number new old d.0, go)
    by false go = go
