-- The levels that queues hold after a new group was opened.
use Rattle.std.proofs.Common.{◌≡◌, ◌<◌, ℕ, ◌+◌, ◌-◌, Bool, true, false, List, [], ◌∷◌, ◌++◌, length, take, drop, Option, Some, None, if◌then◌else◌, ap, sym, ◌∙◌, arith}
use Rattle.std.specs.Prelude.{slice_get, slice_set, slice_index_or, IfSome}
use Rattle.std.proofs.Math.Path.{fun_ext}
use Rattle.std.proofs.lemmas.List.{length-take, take-map, map-set, map_push, get_or-map, length-map}
use Rattle.rt_groups.specs.declared.groups.Group.{Group as TableGroup}
use Rattle.rt_groups.specs.GroupForest.{GroupForest}
use Rattle.rt_groups.specs.Paths.{GroupKey, same_sibling}
use Rattle.group_keys.specs.Queues.{queue_of}
use Rattle.group_keys.specs.declared.queues.SiblingQueues.{SiblingQueues}
use Rattle.run_causes.specs.OldMatches.{table_key, Level, level_at, level_without, levels_around, innermost_level, inner_level, found_in, levels_after, queued_levels, IsBelow, AreBelow}
use Rattle.run_causes.proofs.BelowLevels.{taken, with_level, pushed, without}

-- The queues of the levels around a new group of depth d, and the innermost queues before and after the take.
pub record TakesFrom (d count : ℕ) (all cut : List SiblingQueues) (was now : SiblingQueues) (x : GroupKey)
    (found : Option ℕ) : Type 0 where
  pub cut_is : cut ≡ take (d + 1) all
  pub some : 0 < length all
  pub count_is : count ≡ length cut
  pub was_is : was ≡ slice_index_or cut (count - 1) was
  pub found_is : found ≡ slice_get (queue_of was x) 0
  pub left : (s : GroupKey) → queue_of now s ≡ (if same_sibling x s then drop 1 (queue_of was s) else queue_of was s)

around_is : (d : ℕ) (all cut : List SiblingQueues) → cut ≡ take (d + 1) all
    → levels_around (queued_levels all) d ≡ queued_levels cut
around_is d all cut e = take-map queue_of (d + 1) all ∙ ap (λ l. queued_levels l) (sym e)

last_inside : {d count : ℕ} {all cut : List SiblingQueues} {was now : SiblingQueues} {x : GroupKey} {found : Option ℕ}
    → TakesFrom d count all cut was now x found → count - 1 < length cut
last_inside {d} {count} {all} {cut} t =
    let some = t.some in
    let is = t.count_is in
    let long : length cut ≡ length (take (d + 1) all) = ap (λ l. length l) t.cut_is in
    let min = length-take (d + 1) all in
    omega (arith, some, is, long, min)

innermost_is : {d count : ℕ} {all cut : List SiblingQueues} {was now : SiblingQueues} {x : GroupKey} {found : Option ℕ}
    → TakesFrom d count all cut was now x found → innermost_level (levels_around (queued_levels all) d) ≡ queue_of was
innermost_is {d} {count} {all} {cut} {was} t =
    ap (λ ls. innermost_level ls) (around_is d all cut t.cut_is)
    ∙ ap (λ n. level_at (queued_levels cut) (n - 1)) (length-map cut queue_of ∙ sym t.count_is)
    ∙ get_or-map queue_of cut (count - 1) was (λ s. []) (last_inside t) ∙ ap queue_of (sym t.was_is)

pub found_is : {d count : ℕ} {all cut : List SiblingQueues} {was now : SiblingQueues} {x : GroupKey} {found : Option ℕ}
    (g : TableGroup) → TakesFrom d count all cut was now x found → d ≡ g.depth → x ≡ table_key g
    → found ≡ found_in (queued_levels all) g
found_is {d} {count} {all} {cut} {was} {now} {x} g t depth key =
    t.found_is ∙ ap (λ s. slice_get (queue_of was s) 0) key
    ∙ ap (λ (l : Level). slice_get (l (table_key g)) 0) (sym (innermost_is t))
    ∙ ap (λ n. slice_get (innermost_level (levels_around (queued_levels all) n) (table_key g)) 0) depth

now_is : {d count : ℕ} {all cut : List SiblingQueues} {was now : SiblingQueues} {x : GroupKey} {found : Option ℕ}
    → TakesFrom d count all cut was now x found → queue_of now ≡ level_without x (queue_of was)
now_is t = fun_ext (λ s. t.left s)

pub levels_are : {d count : ℕ} {all cut : List SiblingQueues} {was now : SiblingQueues} {x : GroupKey} {found : Option ℕ}
    (before : GroupForest) (g : TableGroup) (inside : SiblingQueues) → TakesFrom d count all cut was now x found
    → d ≡ g.depth → x ≡ table_key g → ((s : GroupKey) → queue_of inside s ≡ inner_level before found s)
    → queued_levels (slice_set cut (count - 1) now ++ inside ∷ []) ≡ levels_after before (queued_levels all) g
levels_are {d} {count} {all} {cut} {was} {now} {x} {found} before g inside t depth key inner =
    let around : List Level = levels_around (queued_levels all) d in
    let inside_is : queue_of inside ≡ inner_level before (found_in (queued_levels all) g) =
    fun_ext inner ∙ ap (λ f. inner_level before f) (found_is g t depth key) in
    let level : queue_of now ≡ level_without (table_key g) (innermost_level around) =
    now_is t ∙ ap (λ s. level_without s (queue_of was)) key
    ∙ ap (λ l. level_without (table_key g) l) (sym (innermost_is t)) in
    map_push queue_of (slice_set cut (count - 1) now) inside
    ∙ ap (λ l. l ++ queue_of inside ∷ []) (map-set queue_of cut (count - 1) now)
    ∙ ap (λ n. slice_set (queued_levels cut) (n - 1) (queue_of now) ++ queue_of inside ∷ [])
    (t.count_is ∙ sym (length-map cut queue_of))
    ∙ ap (λ ls. slice_set ls (length ls - 1) (queue_of now) ++ queue_of inside ∷ []) (sym (around_is d all cut t.cut_is))
    ∙ ap (λ l. slice_set around (length around - 1) l ++ queue_of inside ∷ []) level
    ∙ ap (λ l. slice_set around (length around - 1) (level_without (table_key g) (innermost_level around)) ++ l ∷ []) inside_is
    ∙ ap (λ n. slice_set (levels_around (queued_levels all) n) (length (levels_around (queued_levels all) n) - 1)
    (level_without (table_key g) (innermost_level (levels_around (queued_levels all) n)))
    ++ inner_level before (found_in (queued_levels all) g) ∷ []) depth

-- The queued indexes stay those of groups.
was_below : {d count : ℕ} {all cut : List SiblingQueues} {was now : SiblingQueues} {x : GroupKey} {found : Option ℕ} (n : ℕ)
    → TakesFrom d count all cut was now x found → AreBelow n (queued_levels all) → IsBelow n (queue_of was)
was_below {d} {count} {all} {cut} {was} n t below s j i e =
    taken n (d + 1) (queued_levels all) below (length (levels_around (queued_levels all) d) - 1) s j i
    (ap (λ (l : Level). slice_get (l s) j) (innermost_is t) ∙ e)

pub found_below : {d count : ℕ} {all cut : List SiblingQueues} {was now : SiblingQueues} {x : GroupKey} (n : ℕ)
    (found : Option ℕ) → TakesFrom d count all cut was now x found → AreBelow n (queued_levels all)
    → IfSome found (λ i. i < n)
found_below n None t below = tt
found_below {x = x} n (Some i) t below = was_below n t below x 0 i (sym t.found_is)

pub kept_below : {d count : ℕ} {all cut : List SiblingQueues} {was now : SiblingQueues} {x : GroupKey} {found : Option ℕ}
    (n : ℕ) → TakesFrom d count all cut was now x found → AreBelow n (queued_levels all)
    → AreBelow n (queued_levels (slice_set cut (count - 1) now))
kept_below {d} {count} {all} {cut} {was} {now} {x} n t below =
    let cut_below : AreBelow n (queued_levels cut) =
    λ k s j i e. taken n (d + 1) (queued_levels all) below k s j i
    (ap (λ (ls : List Level). slice_get (level_at ls k s) j) (around_is d all cut t.cut_is) ∙ e) in
    let now_below : IsBelow n (queue_of now) =
    λ s j i e. without n x (queue_of was) (was_below n t below) s j i
    (ap (λ (l : Level). slice_get (l s) j) (sym (now_is t)) ∙ e) in
    λ k s j i e. with_level n (count - 1) (queued_levels cut) (queue_of now) now_below cut_below k s j i
    (ap (λ (ls : List Level). slice_get (level_at ls k s) j) (sym (map-set queue_of cut (count - 1) now)) ∙ e)

pub pushed_below : (n : ℕ) (b : Bool) (qs now : List SiblingQueues) (inside : SiblingQueues)
    → now ≡ (if b then qs ++ inside ∷ [] else qs) → IsBelow n (queue_of inside) → AreBelow n (queued_levels qs)
    → AreBelow n (queued_levels now)
pushed_below n true qs now inside e b h = λ k s j i f.
    pushed n (queued_levels qs) (queue_of inside) b h k s j i
    (ap (λ (ls : List Level). slice_get (level_at ls k s) j)
    (sym (map_push queue_of qs inside) ∙ ap (λ l. queued_levels l) (sym e)) ∙ f)
pushed_below n false qs now inside e b h = λ k s j i f.
    h k s j i (ap (λ (l : List SiblingQueues). slice_get (level_at (queued_levels l) k s) j) (sym e) ∙ f)

pub takes : (d count : ℕ) (all cut : List SiblingQueues) (was now : SiblingQueues) (x : GroupKey) (found : Option ℕ)
    → cut ≡ take (d + 1) all → 0 < length all → count ≡ length cut → was ≡ slice_index_or cut (count - 1) was
    → found ≡ slice_get (queue_of was x) 0
    → ((s : GroupKey) → queue_of now s ≡ (if same_sibling x s then drop 1 (queue_of was s) else queue_of was s))
    → TakesFrom d count all cut was now x found
takes d count all cut was now x found a b c e f g =
    record { cut_is = a; some = b; count_is = c; was_is = e; found_is = f; left = g }
