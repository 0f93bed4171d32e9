-- Two removals and two moves of a list as one.
use Rattle.std.proofs.Common.{◌≡◌, ℕ, ◌+◌, ◌-◌, ◌≤◌, ◌<◌, ltb, false, List, [], ◌∷◌, ◌++◌, length, take, drop, if◌then◌else◌, ap, sym, ◌∙◌, subst, arith, append_assoc}
use Rattle.std.proofs.lemmas.Bool.{cond-true, cond-false, lt-ltb}
use Rattle.std.proofs.lemmas.List.{take_at, drop_at, take-append-drop, length-append, length-take-le}
use Rattle.gap_buffer.specs.Buffer.{list_after_move, exchanged_list}

module _ {X : Type 0} where
  -- A list split at an index.
  pub record Split (n : ℕ) (xs : List X) : Type 0 where
    pub before : List X
    pub after : List X
    pub whole : xs ≡ before ++ after
    pub long : length before ≡ n

  pub split_list : (n : ℕ) (xs : List X) → n ≤ length xs → Split n xs
  split_list n xs h = record {
    before = take n xs;
    after = drop n xs;
    whole = sym (take-append-drop n xs);
    long = length-take-le n xs h;
  }

  pub rest_long : (n : ℕ) (xs : List X) (s : Split n xs) → n + length s.after ≡ length xs
  rest_long n xs s =
      sym (ap length s.whole ∙ length-append s.before s.after ∙ ap (λ (k : ℕ). k + length s.after) s.long)

  -- A list split at two indexes.
  pub record SplitTwice (n m : ℕ) (xs : List X) : Type 0 where
    pub before : List X
    pub middle : List X
    pub after : List X
    pub whole : xs ≡ before ++ (middle ++ after)
    pub long : length before ≡ n
    pub middle_long : length middle ≡ m
    pub rest : (n + m) + length after ≡ length xs

  pub split_twice : (n m : ℕ) (xs : List X) → n + m ≤ length xs → SplitTwice n m xs
  split_twice n m xs h = by (split_list n xs (omega (arith, h)))
    where
      by : Split n xs → SplitTwice n m xs
      by s = then_by (rest_long n xs s)
        where
          then_by : n + length s.after ≡ length xs → SplitTwice n m xs
          then_by e = last (split_list m s.after (omega (arith, h, e)))
            where
              last : Split m s.after → SplitTwice n m xs
              last u = record {
                before = s.before;
                middle = u.before;
                after = u.after;
                whole = s.whole ∙ ap (λ (l : List X). s.before ++ l) u.whole;
                long = s.long;
                middle_long = u.long;
                rest = omega (arith, e, rest_long m s.after u);
              }

  -- The list without `count` items at an index.
  abbrev pub cut : ℕ → ℕ → List X → List X
  cut index count xs = take index xs ++ drop (index + count) xs

  pub cut_at : (a b c : List X) (index count : ℕ) → length a ≡ index → length b ≡ count
      → cut index count (a ++ (b ++ c)) ≡ a ++ c
  cut_at a b c index count e f =
      ap (λ l. l ++ drop (index + count) (a ++ (b ++ c))) (take_at a (b ++ c) index e)
      ∙ ap (λ l. a ++ drop (index + count) l) (sym (append_assoc a b c))
      ∙ ap (λ l. a ++ l) (drop_at (a ++ b) c (index + count) (omega (arith, length-append a b, e, f)))

  pub cut_twice_parts : (a x b c : List X) (next count : ℕ) → length a ≡ next → length x ≡ 1 → length b ≡ count
      → cut next 1 (cut (next + 1) count (a ++ (x ++ (b ++ c)))) ≡ cut next (count + 1) (a ++ (x ++ (b ++ c)))
  cut_twice_parts a x b c next count e f g =
      ap (λ l. cut next 1 (cut (next + 1) count l)) (sym (append_assoc a x (b ++ c)))
      ∙ ap (λ l. cut next 1 l) (cut_at (a ++ x) b c (next + 1) count (omega (arith, length-append a x, e, f)) g)
      ∙ ap (λ l. cut next 1 l) (append_assoc a x c)
      ∙ cut_at a x c next 1 e f
      ∙ sym (ap (λ l. cut next (count + 1) (a ++ l)) (sym (append_assoc x b c))
      ∙ cut_at a (x ++ b) c next (count + 1) e (omega (arith, length-append x b, f, g)))

  -- A block after others is moved to before them.
  pub moved_block : (a b c d : List X) (from to count : ℕ) → length a ≡ to → to + length b ≡ from → length c ≡ count
      → list_after_move from to count (a ++ (b ++ (c ++ d))) ≡ a ++ (c ++ (b ++ d))
  moved_block a [] c d from to count e f g =
      let same : to ≡ from = omega (arith, f) in
      subst (λ (i : ℕ). list_after_move i to count (a ++ (c ++ d)) ≡ a ++ (c ++ d)) same
      (cond-false (ltb to to) (exchanged_list to to (to + count) (a ++ (c ++ d)))
      (if ltb (to + count) to then exchanged_list to (to + count) to (a ++ (c ++ d)) else (a ++ (c ++ d)))
      (not_below to)
      ∙ cond-false (ltb (to + count) to) (exchanged_list to (to + count) to (a ++ (c ++ d))) (a ++ (c ++ d))
      (not_after to count))
    where
      not_below : (n : ℕ) → ltb n n ≡ false
      not_below n = grind arith

      not_after : (n m : ℕ) → ltb (n + m) n ≡ false
      not_after n m = grind arith
  moved_block a (y ∷ b) c d from to count e f g =
      let ys : List X = y ∷ b in
      let xs : List X = a ++ (ys ++ (c ++ d)) in
      let low : to < from = omega (arith, f) in
      let long : length (a ++ ys) ≡ from = omega (arith, length-append a ys, e, f) in
      let split : xs ≡ (a ++ ys) ++ (c ++ d) = sym (append_assoc a ys (c ++ d)) in
      let split_more : xs ≡ ((a ++ ys) ++ c) ++ d = split ∙ sym (append_assoc (a ++ ys) c d) in
      let longer : length ((a ++ ys) ++ c) ≡ from + count = omega (arith, length-append (a ++ ys) c, long, g) in
      let first : take to xs ≡ a = take_at a (ys ++ (c ++ d)) to e in
      let second : drop from (take (from + count) xs) ≡ c =
      ap (λ l. drop from (take (from + count) l)) split_more
      ∙ ap (λ l. drop from l) (take_at ((a ++ ys) ++ c) d (from + count) longer)
      ∙ drop_at (a ++ ys) c from long in
      let third : drop to (take from xs) ≡ ys =
      ap (λ l. drop to (take from l)) split
      ∙ ap (λ l. drop to l) (take_at (a ++ ys) (c ++ d) from long)
      ∙ drop_at a ys to e in
      let fourth : drop (from + count) xs ≡ d =
      ap (λ l. drop (from + count) l) split_more ∙ drop_at ((a ++ ys) ++ c) d (from + count) longer in
      cond-true (ltb to from) (exchanged_list to from (from + count) xs)
      (if ltb (from + count) to then exchanged_list from (from + count) to xs else xs)
      (lt-ltb to from low)
      ∙ ap (λ l. l ++ (drop from (take (from + count) xs)
      ++ (drop to (take from xs) ++ drop (from + count) xs))) first
      ∙ ap (λ l. a ++ (l ++ (drop to (take from xs) ++ drop (from + count) xs))) second
      ∙ ap (λ l. a ++ (c ++ (l ++ drop (from + count) xs))) third
      ∙ ap (λ l. a ++ (c ++ (ys ++ l))) fourth

  pub moved_twice_parts : (a b c x d : List X) (from to count : ℕ) → length a ≡ to → to + length b ≡ from
      → length c ≡ count → length x ≡ 1
      → list_after_move (from + count) (to + count) 1 (list_after_move from to count (a ++ (b ++ (c ++ (x ++ d)))))
      ≡ list_after_move from to (count + 1) (a ++ (b ++ (c ++ (x ++ d))))
  moved_twice_parts a b c x d from to count e f g h =
      ap (λ l. list_after_move (from + count) (to + count) 1 l) (moved_block a b c (x ++ d) from to count e f g)
      ∙ ap (λ l. list_after_move (from + count) (to + count) 1 l) (sym (append_assoc a c (b ++ (x ++ d))))
      ∙ moved_block (a ++ c) b x d (from + count) (to + count) 1 (omega (arith, length-append a c, e, g))
      (omega (arith, f)) h
      ∙ append_assoc a c (x ++ (b ++ d))
      ∙ ap (λ l. a ++ l) (sym (append_assoc c x (b ++ d)))
      ∙ sym (ap (λ l. list_after_move from to (count + 1) (a ++ (b ++ l))) (sym (append_assoc c x d))
      ∙ moved_block a b (c ++ x) d from to (count + 1) e f (omega (arith, length-append c x, g, h)))

  abbrev MovesTwice : ℕ → ℕ → ℕ → List X → Type 0
  MovesTwice from to count l = list_after_move (from + count) (to + count) 1 (list_after_move from to count l)
      ≡ list_after_move from to (count + 1) l

  pub moved_twice : (xs : List X) (from to count : ℕ) → to ≤ from → (from + count) + 1 ≤ length xs
      → list_after_move (from + count) (to + count) 1 (list_after_move from to count xs)
      ≡ list_after_move from to (count + 1) xs
  moved_twice xs from to count left inside = by (split_twice to (from - to) xs (omega (arith, left, inside)))
    where
      by : SplitTwice to (from - to) xs → MovesTwice from to count xs
      by s = then_by (split_twice count 1 s.after (omega (arith, left, inside, s.rest)))
        where
          then_by : SplitTwice count 1 s.after → MovesTwice from to count xs
          then_by u =
              let between : to + length s.middle ≡ from = omega (arith, left, s.middle_long) in
              subst (MovesTwice from to count) (sym (s.whole ∙ ap (λ (l : List X). s.before ++ (s.middle ++ l)) u.whole))
              (moved_twice_parts s.before s.middle u.before u.middle u.after from to count s.long between u.long
              u.middle_long)

  abbrev CutsTwice : ℕ → ℕ → List X → Type 0
  CutsTwice next count l = cut next 1 (cut (next + 1) count l) ≡ cut next (count + 1) l

  pub cut_twice : (xs : List X) (next count : ℕ) → (next + 1) + count ≤ length xs
      → cut next 1 (cut (next + 1) count xs) ≡ cut next (count + 1) xs
  cut_twice xs next count inside = by (split_twice next 1 xs (omega (arith, inside)))
    where
      by : SplitTwice next 1 xs → CutsTwice next count xs
      by s = then_by (split_list count s.after (omega (arith, inside, s.rest)))
        where
          then_by : Split count s.after → CutsTwice next count xs
          then_by u =
              subst (CutsTwice next count) (sym (s.whole ∙ ap (λ (l : List X). s.before ++ (s.middle ++ l)) u.whole))
              (cut_twice_parts s.before s.middle u.before u.after next count s.long s.middle_long u.long)

  abbrev KeepsLength : ℕ → ℕ → ℕ → List X → Type 0
  KeepsLength from to count l = length (list_after_move from to count l) ≡ length l

  pub length_after_move : (xs : List X) (from to count : ℕ) → to ≤ from → from + count ≤ length xs
      → length (list_after_move from to count xs) ≡ length xs
  length_after_move xs from to count left inside = by (split_twice to (from - to) xs (omega (arith, left, inside)))
    where
      by : SplitTwice to (from - to) xs → KeepsLength from to count xs
      by s = then_by (split_list count s.after (omega (arith, left, inside, s.rest)))
        where
          then_by : Split count s.after → KeepsLength from to count xs
          then_by u =
              let between : to + length s.middle ≡ from = omega (arith, left, s.middle_long) in
              subst (KeepsLength from to count) (sym (s.whole ∙ ap (λ (l : List X). s.before ++ (s.middle ++ l)) u.whole))
              (ap length (moved_block s.before s.middle u.before u.after from to count s.long between u.long)
              ∙ swapped s.before s.middle u.before u.after)
            where
              swapped : (a b c d : List X) → length (a ++ (c ++ (b ++ d))) ≡ length (a ++ (b ++ (c ++ d)))
              swapped a b c d =
                  length-append a (c ++ (b ++ d))
                  ∙ ap (λ (n : ℕ). length a + n) (inner b c d)
                  ∙ sym (length-append a (b ++ (c ++ d)))
                where
                  inner : (b c d : List X) → length (c ++ (b ++ d)) ≡ length (b ++ (c ++ d))
                  inner b c d = omega (
                    arith,
                    length-append c (b ++ d),
                    length-append b d,
                    length-append b (c ++ d),
                    length-append c d,
                  )
