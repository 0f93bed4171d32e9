-- Law: sums over the calls that run and over matched siblings.
use Rattle.std.specs.Prelude.{ℕ, ◌+◌, ◌≤◌, ◌≡◌, List, [], ◌∷◌, Bool, true, false, ◌&&◌}
use Rattle.std.specs.Option.{option_map_or}
use Rattle.rt_groups.specs.GroupForest.{GroupForest, End, Read, Group, is_call}
use Rattle.rt_groups.specs.Paths.{GroupKey, sibling, occurrence, Found, matching_sibling, inside_of, at_path}
use Rattle.rt_groups.specs.Frames.{CallAtPath, runs_after, ran}
use Rattle.step_laws.specs.Costs.{sum_of}

-- The amount if the condition is true, else 0.
abbrev pub amount_if : Bool → ℕ → ℕ
amount_if true n = n
amount_if false n = 0

-- The weight of what is inside the group at the path of a call, in the old and in the new forest.
abbrev pub weight_at : (GroupForest → GroupForest → ℕ) → GroupForest → GroupForest → CallAtPath → ℕ
weight_at w old new c = w (inside_of (at_path c.path old)) (inside_of (at_path c.path new))

-- The sum over the calls of a new forest that run, where `w` weighs what is inside the matched old sibling and what is
-- inside the call. `old` has the old siblings, and `seen` the new siblings so far.
abbrev pub ran_sum : (GroupForest → GroupForest → ℕ) → List ℕ → GroupForest → List GroupKey → GroupForest → ℕ
ran_sum w owed old seen End = 0
ran_sum w owed old seen (Read x rest) = ran_sum w owed old seen rest
ran_sum w owed old seen (Group site n what inside rest) =
    let found = matching_sibling (sibling site what) (occurrence (sibling site what) seen) old in
    amount_if (is_call what && runs_after owed found what) (w (inside_of found) inside)
    + (ran_sum w owed (inside_of found) [] inside + ran_sum w owed old (sibling site what ∷ seen) rest)

-- Law: a sum over the calls that run, by their paths in the old and the new forest, is the sum by siblings.
abbrev pub PathSumIsSiblingSum : Type 0
PathSumIsSiblingSum = (w : GroupForest → GroupForest → ℕ) (owed : List ℕ) (old new : GroupForest) →
    sum_of (weight_at w old new) (ran owed old new) ≡ ran_sum w owed old [] new

-- The sum of a weight over the old siblings that the new siblings of `t` are matched with.
abbrev pub matched_sum : (Found → ℕ) → GroupForest → List GroupKey → GroupForest → ℕ
matched_sum w old seen End = 0
matched_sum w old seen (Read x rest) = matched_sum w old seen rest
matched_sum w old seen (Group site n what inside rest) =
    option_map_or w (matching_sibling (sibling site what) (occurrence (sibling site what) seen) old) 0
    + matched_sum w old (sibling site what ∷ seen) rest

-- The sum of a weight over all siblings at the top of a forest.
abbrev pub sibling_sum : (Found → ℕ) → GroupForest → ℕ
sibling_sum w End = 0
sibling_sum w (Read x rest) = sibling_sum w rest
sibling_sum w (Group site n what inside rest) =
    w (record { number = n; what = what; inside = inside }) + sibling_sum w rest

-- Law: new siblings are matched with different old siblings, so a sum over the matched ones is at most that over all.
abbrev pub MatchesAreOnce : Type 0
MatchesAreOnce = (w : Found → ℕ) (old t : GroupForest) → matched_sum w old [] t ≤ sibling_sum w old
