-- Queues of indexes, and the siblings that took from them.
use Rattle.std.proofs.Common.{◌≡◌, ◌≤◌, ◌<◌, ℕ, zero, suc, ◌+◌, Bool, true, false, List, [], ◌∷◌, ◌++◌, length, drop, get_or, Option, if◌then◌else◌, refl, ap, sym, ◌∙◌, arith, append_assoc, append-nil}
use Rattle.std.specs.Prelude.{slice_get}
use Rattle.std.proofs.lemmas.List.{drop-drop, drop_more, drop_all}
use Rattle.rt_groups.specs.Paths.{GroupKey, same_sibling, occurrence}
use Rattle.group_keys.specs.Queues.{indexes_of, matched_indexes}

-- The queues after the next old sibling is queued.
pub queue_grows : (olds : List GroupKey) (t s : GroupKey) (k : ℕ) (was now : List ℕ) → k < length olds
    → t ≡ get_or olds k t → now ≡ (if same_sibling t s then was ++ k ∷ [] else was)
    → was ++ indexes_of k (drop k olds) s ≡ indexes_of 0 olds s
    → now ++ indexes_of (k + 1) (drop (k + 1) olds) s ≡ indexes_of 0 olds s
queue_grows olds t s k was now inside is added so_far =
    let first : drop k olds ≡ t ∷ drop (k + 1) olds =
    drop_more olds k t inside ∙ ap (λ x. x ∷ drop (k + 1) olds) (sym is) in
    by (same_sibling t s) added (sym (ap (λ l. was ++ indexes_of k l s) first) ∙ so_far)
  where
    by : (b : Bool) → now ≡ (if b then was ++ k ∷ [] else was)
        → was ++ (if b then k ∷ indexes_of (k + 1) (drop (k + 1) olds) s else indexes_of (k + 1) (drop (k + 1) olds) s)
        ≡ indexes_of 0 olds s
        → now ++ indexes_of (k + 1) (drop (k + 1) olds) s ≡ indexes_of 0 olds s
    by true e whole = ap (λ l. l ++ indexes_of (k + 1) (drop (k + 1) olds) s) e
        ∙ append_assoc was (k ∷ []) (indexes_of (k + 1) (drop (k + 1) olds) s) ∙ whole
    by false e whole = ap (λ l. l ++ indexes_of (k + 1) (drop (k + 1) olds) s) e ∙ whole

pub queue_is_whole : (olds : List GroupKey) (s : GroupKey) (k : ℕ) (was : List ℕ) → length olds ≤ k
    → was ++ indexes_of k (drop k olds) s ≡ indexes_of 0 olds s → was ≡ indexes_of 0 olds s
queue_is_whole olds s k was past so_far =
    sym (append-nil was) ∙ sym (ap (λ l. was ++ indexes_of k l s) (drop_all k olds past)) ∙ so_far

-- The queues after the siblings that were seen, and the matches so far with those to come.
pub record MatchesSoFar (olds news : List GroupKey) (queues : GroupKey → List ℕ) (all : List (Option ℕ))
    (k : ℕ) : Type 0 where
  pub seen : List GroupKey
  pub waits : (s : GroupKey) → queues s ≡ drop (occurrence s seen) (indexes_of 0 olds s)
  pub whole : all ++ matched_indexes olds seen (drop k news) ≡ matched_indexes olds [] news

got_first : {X : Type 0} (l : List X) (n : ℕ) → slice_get (drop n l) 0 ≡ slice_get l n
got_first l zero = refl
got_first [] (suc n) = refl
got_first (x ∷ xs) (suc n) = got_first xs n

-- The matches after the next new sibling is matched.
pub match_next : (olds news : List GroupKey) (queues later : GroupKey → List ℕ) (all more : List (Option ℕ)) (k : ℕ)
    (t : GroupKey) (r : Option ℕ) → k < length news → t ≡ get_or news k t → r ≡ slice_get (queues t) 0
    → ((s : GroupKey) → later s ≡ (if same_sibling t s then drop 1 (queues s) else queues s)) → more ≡ all ++ r ∷ []
    → MatchesSoFar olds news queues all k → MatchesSoFar olds news later more (k + 1)
match_next olds news queues later all more k t r inside is found left pushed g =
    let first : drop k news ≡ t ∷ drop (k + 1) news =
    drop_more news k t inside ∙ ap (λ x. x ∷ drop (k + 1) news) (sym is) in
    let here : r ≡ slice_get (indexes_of 0 olds t) (occurrence t g.seen) = found ∙ ap (λ l. slice_get l 0) (g.waits t)
    ∙ got_first (indexes_of 0 olds t) (occurrence t g.seen) in
    record {
      seen = t ∷ g.seen;
      waits = λ s. by s (same_sibling t s) (left s);
      whole = ap (λ l. l ++ matched_indexes olds (t ∷ g.seen) (drop (k + 1) news)) pushed
          ∙ append_assoc all (r ∷ []) (matched_indexes olds (t ∷ g.seen) (drop (k + 1) news))
          ∙ ap (λ x. all ++ (x ∷ matched_indexes olds (t ∷ g.seen) (drop (k + 1) news))) here
          ∙ ap (λ l. all ++ matched_indexes olds g.seen l) (sym first) ∙ g.whole;
    }
  where
    by : (s : GroupKey) (b : Bool) → later s ≡ (if b then drop 1 (queues s) else queues s)
        → later s ≡ drop ((if b then 1 else 0) + occurrence s g.seen) (indexes_of 0 olds s)
    by s true e =
        let sum : occurrence s g.seen + 1 ≡ 1 + occurrence s g.seen = omega arith in
        e ∙ ap (λ l. drop 1 l) (g.waits s) ∙ drop-drop 1 (occurrence s g.seen) (indexes_of 0 olds s)
        ∙ ap (λ n. drop n (indexes_of 0 olds s)) sum
    by s false e =
        let sum : occurrence s g.seen ≡ 0 + occurrence s g.seen = omega arith in
        e ∙ g.waits s ∙ ap (λ n. drop n (indexes_of 0 olds s)) sum
